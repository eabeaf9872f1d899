-- Laws of changes, one after the other, of what they put on the outputs, and of those that were truncated.
use Rattle.std.specs.Prelude.{◌≡◌, ◌≢◌, ◌<◌, ℕ, List, [], ◌∷◌, ◌++◌, length, take, drop, map, Option, Some, None, refl}
use Rattle.std.specs.Option.{option_map}
use Rattle.std.proofs.Common.{ap, sym, ◌∙◌, append_assoc, arith, length-drop}
use Rattle.std.proofs.lemmas.Grind.{common_steps}
use Rattle.std.proofs.lemmas.List.{append-nil, take-append-drop, map-append, length-map}
use Rattle.uxn_io_traits.specs.Files.{Nodes}
use Rattle.uxn_io_traits.specs.Known.{extended, IsPrefixOf}
use Rattle.uxn_io_traits.specs.Outside.{Change, ToOut, ToErr, Creates, ToFile, Removes, World, changed_files, files_by, changed, changed_by, IsCutOff}
use Rattle.uxn_io_traits.specs.Outside.{put_by_one, put_by}

-- changes after changes
pub changed_by-append : (world : World) (first more : List Change)
    → changed_by world (first ++ more) ≡ changed_by (changed_by world first) more
changed_by-append world [] more = refl
changed_by-append world (change ∷ first) more = changed_by-append (changed world change) first more

pub files_by-append : (nodes : Nodes) (first more : List Change) → files_by nodes (first ++ more) ≡ files_by (files_by nodes first) more
files_by-append nodes [] more = refl
files_by-append nodes (change ∷ first) more = files_by-append (changed_files change nodes) first more

-- the files that a world tells after changes
one-contents : (world : World) (change : Change) → (changed world change).files ≡ option_map (changed_files change) world.files
one-contents world (ToOut byte) = same world.files
  where
    same : (contents : Option Nodes) → contents ≡ option_map (λ nodes. nodes) contents
    same None = refl
    same (Some nodes) = refl
one-contents world (ToErr byte) = same world.files
  where
    same : (contents : Option Nodes) → contents ≡ option_map (λ nodes. nodes) contents
    same None = refl
    same (Some nodes) = refl
one-contents world (Creates path) = refl
one-contents world (ToFile path byte) = refl
one-contents world (Removes path) = refl

contents-by : (contents : Option Nodes) (changes : List Change) (world : World) → world.files ≡ contents
    → (changed_by world changes).files ≡ option_map (λ nodes. files_by nodes changes) contents
contents-by None [] world is = is
contents-by (Some nodes) [] world is = is
contents-by None (change ∷ changes) world is =
    contents-by None changes (changed world change) (one-contents world change ∙ ap (option_map (changed_files change)) is)
contents-by (Some nodes) (change ∷ changes) world is =
    contents-by (Some (changed_files change nodes)) changes (changed world change)
    (one-contents world change ∙ ap (option_map (changed_files change)) is)

pub files-contents : (world : World) (changes : List Change)
    → (changed_by world changes).files ≡ option_map (λ nodes. files_by nodes changes) world.files
files-contents world changes = contents-by world.files changes world refl

-- a text that is extended by nothing, and by one text after another
pub extended-nothing : (contents : Option (List ℕ)) → extended contents [] ≡ contents
extended-nothing None = refl
extended-nothing (Some bytes) = ap (λ b. Some b) (append-nil bytes)

pub extended-extended : (contents : Option (List ℕ)) (first more : List ℕ)
    → extended (extended contents first) more ≡ extended contents (first ++ more)
extended-extended None first more = refl
extended-extended (Some bytes) first more = ap (λ b. Some b) (append_assoc bytes first more)

-- a text put on the error output, byte after byte
pub changed_by-err : (world : World) (text : List ℕ)
    → changed_by world (map (λ byte. ToErr byte) text) ≡ record world { err = extended world.err text }
changed_by-err world [] = ap (λ contents. record world { err = contents }) (sym (extended-nothing world.err))
changed_by-err world (byte ∷ text) =
    changed_by-err (changed world (ToErr byte)) text
    ∙ ap (λ contents. record world { err = contents }) (extended-extended world.err (byte ∷ []) text)

-- the same for the standard output
pub changed_by-out : (world : World) (text : List ℕ)
    → changed_by world (map (λ byte. ToOut byte) text) ≡ record world { out = extended world.out text }
changed_by-out world [] = ap (λ contents. record world { out = contents }) (sym (extended-nothing world.out))
changed_by-out world (byte ∷ text) =
    changed_by-out (changed world (ToOut byte)) text
    ∙ ap (λ contents. record world { out = contents }) (extended-extended world.out (byte ∷ []) text)

-- what changes put on the standard output
pub put_by-append : (first more : List Change) → put_by (first ++ more) ≡ put_by first ++ put_by more
put_by-append [] more = refl
put_by-append (change ∷ first) more =
    ap (λ bytes. put_by_one change ++ bytes) (put_by-append first more) ∙ sym (append_assoc (put_by_one change) (put_by first) (put_by more))

pub changed_by-puts : (world : World) (changes : List Change) → (changed_by world changes).out ≡ extended world.out (put_by changes)
changed_by-puts world [] = sym (extended-nothing world.out)
changed_by-puts world (ToOut byte ∷ changes) =
    changed_by-puts (changed world (ToOut byte)) changes ∙ extended-extended world.out (byte ∷ []) (put_by changes)
changed_by-puts world (ToErr byte ∷ changes) = changed_by-puts (changed world (ToErr byte)) changes
changed_by-puts world (Creates path ∷ changes) = changed_by-puts (changed world (Creates path)) changes
changed_by-puts world (ToFile path byte ∷ changes) = changed_by-puts (changed world (ToFile path byte)) changes
changed_by-puts world (Removes path ∷ changes) = changed_by-puts (changed world (Removes path)) changes

prefix-without-last : (contents : Option (List ℕ)) (byte : ℕ) (whole : Option (List ℕ)) → IsPrefixOf (extended contents (byte ∷ [])) whole
    → IsPrefixOf contents whole
prefix-without-last contents byte whole prefix =
    record { rest = byte ∷ prefix.rest; is = prefix.is ∙ extended-extended contents (byte ∷ []) prefix.rest }

-- so changes add to the outputs
pub changed_by-adds : (world : World) (changes : List Change)
    → IsPrefixOf world.out (changed_by world changes).out × IsPrefixOf world.err (changed_by world changes).err
changed_by-adds world changes = (record { rest = put_by changes; is = changed_by-puts world changes }, errs world changes)
  where
    errs : (world : World) (changes : List Change) → IsPrefixOf world.err (changed_by world changes).err
    errs world [] = record { rest = []; is = sym (extended-nothing world.err) }
    errs world (ToOut byte ∷ changes) = errs (changed world (ToOut byte)) changes
    errs world (ToErr byte ∷ changes) = prefix-without-last world.err byte _ (errs (changed world (ToErr byte)) changes)
    errs world (Creates path ∷ changes) = errs (changed world (Creates path)) changes
    errs world (ToFile path byte ∷ changes) = errs (changed world (ToFile path byte)) changes
    errs world (Removes path ∷ changes) = errs (changed world (Removes path)) changes

-- worlds with the same outputs have the same after the same changes
abbrev pub HaveSameOutputs : World → World → Type 0
HaveSameOutputs a b = (a.out ≡ b.out) × (a.err ≡ b.err)

pub outputs-after : (a b : World) (changes : List Change) → HaveSameOutputs a b → HaveSameOutputs (changed_by a changes) (changed_by b changes)
outputs-after a b [] e = e
outputs-after a b (change ∷ changes) e = outputs-after (changed a change) (changed b change) changes (grind (arith, common_steps))

-- what was truncated in a part is truncated in what begins with that part
pub cut-first : (before now : World) (first more : List Change) → IsCutOff before now first → IsCutOff before now (first ++ more)
cut-first before now first more cut = record {
  made = cut.made;
  rest = cut.rest ++ more;
  parts = ap (λ changes. changes ++ more) cut.parts ∙ append_assoc cut.made cut.rest more;
  left = cut.left;
}

-- what was truncated in a part that came after changes that were made is truncated in both together
pub cut-later : (before middle now : World) (first more : List Change)
    → middle ≡ changed_by before first → IsCutOff middle now more → IsCutOff before now (first ++ more)
cut-later before middle now first more done cut = record {
  made = first ++ cut.made;
  rest = cut.rest;
  parts = ap (λ changes. first ++ changes) cut.parts ∙ sym (append_assoc first cut.made cut.rest);
  left = cut.left ∙ ap (λ world. changed_by world cut.made) done ∙ sym (changed_by-append before first cut.made);
}

-- a prefix of a text was put on an output, and some of it is left
pub cut-text : (f : ℕ → Change) (before now : World) (text : List ℕ) (count : ℕ) → count < length text
    → now ≡ changed_by before (map f (take count text)) → (cut : IsCutOff before now (map f text)) × (cut.rest ≢ [])
cut-text f before now text count less is = (
  record {
    made = map f (take count text);
    rest = map f (drop count text);
    parts = ap (map f) (sym (take-append-drop count text)) ∙ map-append f (take count text) (drop count text);
    left = is;
  },
  λ none.
      let gone : map f (drop count text) ≡ [] = none in
      absurd (omega (arith, less, length-drop count text, length-map (drop count text) f, ap length gone)),
)
