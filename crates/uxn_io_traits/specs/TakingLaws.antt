-- Laws of what is guaranteed to be taken: of changes after changes, the first and then the rest.
use Rattle.std.specs.Prelude.{◌≡◌, ◌+◌, List, [], ◌∷◌, ◌++◌, Option, Some, None, IfSome}
use Rattle.std.specs.Option.{option_map}
use Rattle.std.proofs.Common.{ap, sym, ◌∙◌, append_assoc, arith}
use Rattle.uxn_io_traits.specs.Files.{Nodes}
use Rattle.uxn_io_traits.specs.Faults.{Blame, Nobody, TheTree, ASink}
use Rattle.uxn_io_traits.specs.Outside.{Change, ToFile, changed_files, files_by}
use Rattle.uxn_io_traits.specs.ChangeLaws.{files_by-append}
use Rattle.uxn_io_traits.specs.Room.{Room}
use Rattle.uxn_io_traits.specs.Taking.{files_made, files_gone, bytes_out, bytes_err, TreeTakes, TreeLeft, Guaranteed, Remains, WasNotGuaranteed}

-- what is made, taken away and put by changes after changes
pub made-append : (nodes : Nodes) (first more : List Change)
    → files_made nodes (first ++ more) ≡ files_made nodes first + files_made (files_by nodes first) more
made-append nodes [] more = omega arith
made-append nodes (change ∷ first) more =
    let later = made-append (changed_files change nodes) first more in omega (arith, later)

pub gone-append : (first more : List Change) → files_gone (first ++ more) ≡ files_gone first + files_gone more
gone-append [] more = omega arith
gone-append (change ∷ first) more = let later = gone-append first more in omega (arith, later)

pub out-append : (first more : List Change) → bytes_out (first ++ more) ≡ bytes_out first + bytes_out more
out-append [] more = omega arith
out-append (change ∷ first) more = let later = out-append first more in omega (arith, later)

pub err-append : (first more : List Change) → bytes_err (first ++ more) ≡ bytes_err first + bytes_err more
err-append [] more = omega arith
err-append (change ∷ first) more = let later = err-append first more in omega (arith, later)

-- what a tree takes it takes a prefix of
pub takes-first : (room : Room) (nodes : Nodes) (first more : List Change)
    → TreeTakes room nodes (first ++ more) → TreeTakes room nodes first
takes-first room nodes first more takes = record {
  files = λ prefix rest is. takes.files prefix (rest ++ more) (ap (λ changes. changes ++ more) is ∙ append_assoc prefix rest more);
  bytes = λ prefix rest path byte is.
      takes.bytes prefix (rest ++ more) path byte (ap (λ changes. changes ++ more) is ∙ append_assoc prefix (ToFile path byte ∷ rest) more);
}

-- and, where so much is left after that prefix, the rest
pub takes-later : (room now : Room) (nodes : Nodes) (first more : List Change)
    → TreeTakes room nodes (first ++ more) → TreeLeft room now nodes first → TreeTakes now (files_by nodes first) more
takes-later room now nodes first more takes left = record {
  files = λ prefix rest is.
      let whole = takes.files (first ++ prefix) rest (ap (λ changes. first ++ changes) is ∙ sym (append_assoc first prefix rest)) in
      omega (arith, whole, left.files, made-append nodes first prefix, gone-append first prefix);
  bytes = λ prefix rest path byte is.
      let whole = takes.bytes (first ++ prefix) rest path byte
      (ap (λ changes. first ++ changes) is ∙ sym (append_assoc first prefix (ToFile path byte ∷ rest))) in
      omega (arith, rw (files_by-append nodes first prefix) at whole, left.bytes);
}

pub left-both : (a b c : Room) (nodes : Nodes) (first more : List Change)
    → TreeLeft a b nodes first → TreeLeft b c (files_by nodes first) more → TreeLeft a c nodes (first ++ more)
left-both a b c nodes first more p q = record {
  files = omega (arith, p.files, q.files, made-append nodes first more, gone-append first more);
  bytes = omega (arith, p.bytes, q.bytes);
}

-- nothing was done
pub remains-all : (before : Guaranteed) (contents : Option Nodes) → Remains before before contents []
remains-all before contents = record { tree = all contents; out = omega arith; err = omega arith }
  where
    all : (t : Option Nodes) → IfSome t (λ nodes. TreeTakes before.tree nodes [] → TreeLeft before.tree before.tree nodes [])
    all None = tt
    all (Some nodes) = λ takes. record { files = omega arith; bytes = omega arith }

-- one after the other
pub remains-both : (a b c : Guaranteed) (contents : Option Nodes) (first more : List Change) → Remains a b contents first
    → Remains b c (option_map (λ nodes. files_by nodes first) contents) more → Remains a c contents (first ++ more)
remains-both a b c contents first more p q = record {
  tree = both contents p.tree q.tree;
  out = omega (arith, p.out, q.out, out-append first more);
  err = omega (arith, p.err, q.err, err-append first more);
}
  where
    both : (t : Option Nodes) → IfSome t (λ nodes. TreeTakes a.tree nodes first → TreeLeft a.tree b.tree nodes first)
        → IfSome (option_map (λ nodes. files_by nodes first) t) (λ nodes. TreeTakes b.tree nodes more → TreeLeft b.tree c.tree nodes more)
        → IfSome t (λ nodes. TreeTakes a.tree nodes (first ++ more) → TreeLeft a.tree c.tree nodes (first ++ more))
    both None x y = tt
    both (Some nodes) x y = λ takes.
        let left = x (takes-first a.tree nodes first more takes) in
        left-both a.tree b.tree c.tree nodes first more left (y (takes-later a.tree b.tree nodes first more takes left))

-- what was not guaranteed to be taken of a prefix, or of what comes after it, was not guaranteed to be taken of both
pub not-guaranteed-first : (blame : Blame) (before : Guaranteed) (contents : Option Nodes) (first more : List Change)
    → WasNotGuaranteed blame before contents first
    → WasNotGuaranteed blame before contents (first ++ more)
not-guaranteed-first Nobody before contents first more not = tt
not-guaranteed-first TheTree before None first more not = tt
not-guaranteed-first TheTree before (Some nodes) first more not = λ takes. not (takes-first before.tree nodes first more takes)
not-guaranteed-first ASink before contents first more not = λ out err.
    not (λ some. let whole = out (omega (arith, some, out-append first more)) in omega (arith, whole, out-append first more))
    (λ some. let whole = err (omega (arith, some, err-append first more)) in omega (arith, whole, err-append first more))

pub not-guaranteed-later : (blame : Blame) (a b : Guaranteed) (contents : Option Nodes) (first more : List Change) → Remains a b contents first
    → WasNotGuaranteed blame b (option_map (λ nodes. files_by nodes first) contents) more → WasNotGuaranteed blame a contents (first ++ more)
not-guaranteed-later Nobody a b contents first more remains not = tt
not-guaranteed-later TheTree a b None first more remains not = tt
not-guaranteed-later TheTree a b (Some nodes) first more remains not = λ takes.
    not (takes-later a.tree b.tree nodes first more takes (remains.tree (takes-first a.tree nodes first more takes)))
not-guaranteed-later ASink a b contents first more remains not = λ out err.
    not (λ some. let whole = out (omega (arith, some, out-append first more)) in omega (arith, whole, remains.out, out-append first more))
    (λ some. let whole = err (omega (arith, some, err-append first more)) in omega (arith, whole, remains.err, err-append first more))
