-- What has been read of a file, chunk by chunk, and what that says of the whole.
use Rattle.std.proofs.Common.{◌≡◌, ℕ, ◌+◌, ◌-◌, ◌<◌, ◌≤◌, List, ◌++◌, take, drop, length, Option, Some, None, IfSome, refl, ap, sym, subst, ◌∙◌, arith, zero, suc}
use Rattle.std.proofs.lemmas.List.{length-append, length-take-le, length-drop, take_all}
use Rattle.std.proofs.Math.Seq.{take-add}
use Rattle.uxn_io_traits.specs.declared.trees.FileBytes.TheVariants.{Found}
use Rattle.uxn_io_traits.specs.ByteList.{ByteList, tight}
use Rattle.uxn_io_traits.specs.Files.{Nodes, file_bytes_from, GivesBytes}
use Rattle.uxn_io_traits.specs.WholeFile.{IsAllOf}

-- these bytes are the first of all
pub record IsPrefix (bytes all : List ℕ) : Type 0 where
  pub is : bytes ≡ take (length bytes) all
  pub within : length bytes ≤ length all

prefix_more_of : (all bytes before now : List ℕ) (n : ℕ) → n ≤ length now → IsPrefix bytes all → GivesBytes (drop (length bytes) all) before now n → IsPrefix (bytes ++ take n now) all
prefix_more_of all bytes before now n fits prefix reads =
    let len : length (bytes ++ take n now) ≡ length bytes + n = length-append bytes (take n now) ∙ ap (λ k. length bytes + k) (length-take-le n now fits) in
    let rest : n ≤ length all - length bytes = rw length-drop at reads.within in
    record {
      is = (λ i. prefix.is i ++ reads.prefix i) ∙ sym (take-add (length bytes) n all) ∙ ap (λ k. take k all) (sym len);
      within = rw len (omega (arith, prefix.within));
    }

-- the same, of a tree of the same known contents and at a place that is the length
pub reads_on : (contents was : Option Nodes) (path bytes before now : List ℕ) (at n : ℕ) → was ≡ contents → at ≡ length bytes → IfSome was (λ nodes. GivesBytes (file_bytes_from nodes path at) before now n) → IfSome contents (λ nodes. GivesBytes (file_bytes_from nodes path (length bytes)) before now n)
reads_on contents was path bytes before now at n same len reads =
    let P : Option Nodes → Type 0 = λ o. IfSome o (λ nodes. GivesBytes (file_bytes_from nodes path (length bytes)) before now n) in
    let Q : ℕ → Type 0 = λ k. IfSome was (λ nodes. GivesBytes (file_bytes_from nodes path k) before now n) in
    subst P same (subst Q len reads)

-- how long the bytes are then
pub length_grown : (bytes now grown : List ℕ) (n : ℕ) → n ≤ length now → grown ≡ bytes ++ take n now → length grown ≡ length bytes + n
length_grown bytes now grown n fits is = rw is (length-append bytes (take n now) ∙ ap (λ k. length bytes + k) (length-take-le n now fits))

-- one more chunk of the file
prefix_more : (contents : Option Nodes) (path bytes before now : List ℕ) (n : ℕ) → n ≤ length now → IfSome contents (λ nodes. IsPrefix bytes (file_bytes_from nodes path 0)) → IfSome contents (λ nodes. GivesBytes (file_bytes_from nodes path (length bytes)) before now n) → IfSome contents (λ nodes. IsPrefix (bytes ++ take n now) (file_bytes_from nodes path 0))
prefix_more None path bytes before now n fits prefix reads = tt
prefix_more (Some nodes) path bytes before now n fits prefix reads = prefix_more_of _ bytes before now n fits prefix reads

none_left : (n : ℕ) → (0 < n → 0 < 0) → n ≡ 0
none_left zero h = refl
none_left (suc n) h = absurd (omega (arith, h (omega arith)))

-- the bytes that a chunk was appended to
pub prefix_grown : (contents : Option Nodes) (path bytes before now part grown : List ℕ) (n : ℕ) → n ≤ length now → part ≡ take n now → grown ≡ bytes ++ part → IfSome contents (λ nodes. IsPrefix bytes (file_bytes_from nodes path 0)) → IfSome contents (λ nodes. GivesBytes (file_bytes_from nodes path (length bytes)) before now n) → IfSome contents (λ nodes. IsPrefix grown (file_bytes_from nodes path 0))
prefix_grown contents path bytes before now part grown n fits is_part is_grown prefix reads =
    let P : List ℕ → Type 0 = λ b. IfSome contents (λ nodes. IsPrefix b (file_bytes_from nodes path 0)) in
    subst P (sym (is_grown ∙ ap (λ (z : List ℕ). bytes ++ z) is_part)) (prefix_more contents path bytes before now n fits prefix reads)

all_of : (all bytes before now : List ℕ) → 0 < length before → IsPrefix bytes all → GivesBytes (drop (length bytes) all) before now 0 → bytes ≡ all
all_of all bytes before now room prefix reads =
    let rest : length (drop (length bytes) all) ≡ length all - length bytes = length-drop (length bytes) all in
    prefix.is ∙ take_all (length bytes) all (omega (arith, none_left _ (reads.some room)))

-- where no byte came into a buffer with room, all were read
pub prefix_all : (contents : Option Nodes) (path bytes before now : List ℕ) (given : ByteList) (n limit : ℕ) → given ≡ tight bytes → n ≡ 0 → 0 < length before → IfSome contents (λ nodes. IsPrefix bytes (file_bytes_from nodes path 0)) → IfSome contents (λ nodes. GivesBytes (file_bytes_from nodes path (length bytes)) before now n) → IfSome contents (λ nodes. IsAllOf (file_bytes_from nodes path 0) limit (Found given))
prefix_all None path bytes before now given n limit is_given none room prefix reads = tt
prefix_all (Some nodes) path bytes before now given n limit is_given none room prefix reads =
    is_given ∙ ap tight (all_of _ bytes before now room prefix (subst (λ (k : ℕ). GivesBytes (file_bytes_from nodes path (length bytes)) before now k) none reads))
