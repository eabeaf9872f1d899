-- A walk splices words one behind the other, and they are the words of the flat text.
use Rattle.std.proofs.Common.{◌≡◌, ℕ, zero, suc, ◌+◌, ◌≤◌, Bool, true, false, List, [], ◌∷◌, ◌++◌, length, map, refl, ap, sym, ◌∙◌, subst, arith}
use Rattle.std.proofs.Common.{append_assoc, append-nil, length-append, Option, Some, None, Result, Ok, Err, IsSome, IfOk, inl, inr}
use Rattle.std.specs.Prelude.{◌==◌}
use Rattle.std.specs.List.{find, list_any, AllByRecursion}
use Rattle.std.specs.Option.{option_map, option_map_or}
use Rattle.std.proofs.lemmas.Bool.{cases_Bool, eq-eqb}
use Rattle.std.proofs.lemmas.Bool.Decides.{nat_tests}
use Rattle.std.proofs.lemmas.List.{map-append}
use Rattle.tal_words.proofs.BlankFree.{all_joined}
use Rattle.uxn_io_traits.specs.Along.{Always}
use Rattle.uxn_io_traits.specs.Inquiry.{Answer, and_then}
use Rattle.uxn_io_traits.specs.InquiryLaws.{always-mapped, always-said, always-through}
use Rattle.tal_words.specs.declared.span.Word.{Word}
use Rattle.tal_words.specs.declared.fault.Fault.{Fault}
use Rattle.uxn_limits.specs.declared.limits.TheConstants.{TEXT_LIMIT, INCLUDE_DEPTH}
use Rattle.tal_words.specs.Comments.{words_of, word_fault}
use Rattle.tal_words.specs.PlainTexts.{Chunk}
use Rattle.tal_words.specs.Source.{word_text}
use Rattle.tal_words.proofs.PlainTokens.{text_of_chunks, AreChunks}
use Rattle.tal_include.specs.declared.faults.Origin.{Origin}
use Rattle.tal_include.specs.declared.faults.IncludeFault.{IncludeFault}
use Rattle.tal_include.specs.declared.spliced.Place.{Place}
use Rattle.tal_include.specs.Flat.{Flat, empty_flat, flat_with_word, flat_with_path, origin_at}
use Rattle.tal_include.specs.Includes.{is_include, included_path, path_or_kind, bytes_or_kind, words_fault}
use Rattle.tal_include.specs.Splice.{Walk, found_at, is_long_with, at_plain_word, at_include, at_word, through_words, through_file}
use Rattle.tal_include.specs.Splice.{has_includes, splice_inquiry, walk}
use Rattle.tal_include.specs.FlatWords.{HasItsWords}
use Rattle.tal_include.proofs.ChunkLemmas.{starts, IsSpoken, starts_of_tokens, words_are_tokens, chunks_faultless}
use Rattle.tal_include.proofs.SpokenLemmas.{line_of, IsSound, IsSoundWord, words_sound}

-- the lines of words
abbrev pub lines_of : List (List ℕ) → List Chunk
lines_of texts = map line_of texts

-- a flat text of these words, each of which can stand in one, of a main source with or without includes
pub record IsFlat (has : Bool) (flat : Flat) : Type 0 where
  pub texts : List (List ℕ)
  pub sound : AllByRecursion IsSound texts
  pub text : flat.text ≡ text_of_chunks (lines_of texts)
  pub places : map (λ (p : Place). p.at) flat.places ≡ starts 0 (lines_of texts)
  pub includes : flat.includes ≡ has
  pub short : has ≡ true → length flat.text ≤ TEXT_LIMIT

text_more : (texts : List (List ℕ)) (text : List ℕ)
    → text_of_chunks (lines_of (texts ++ text ∷ [])) ≡ text_of_chunks (lines_of texts) ++ text ++ 10 ∷ []
text_more [] text = append-nil (text ++ 10 ∷ [])
text_more (first ∷ texts) text = rw (text_more texts text) (simp append_assoc)

starts_more : (texts : List (List ℕ)) (text : List ℕ) (from at : ℕ) → at ≡ from + length (text_of_chunks (lines_of texts))
    → starts from (lines_of (texts ++ text ∷ [])) ≡ starts from (lines_of texts) ++ at ∷ []
starts_more [] text from at is = (let same : from ≡ at = omega (arith, is) in rw same refl)
starts_more (first ∷ texts) text from at is =
    let size = length-append (first ++ 10 ∷ []) (text_of_chunks (lines_of texts)) in
    rw (starts_more texts text (from + length first + 1) at (omega (arith, is, size, length-append first (10 ∷ [])))) refl

module _ (includes : Bool) where
  flat_more : (flat : Flat) (file : ℕ) (word : Word) (text : List ℕ) → IsSound text → is_long_with flat text ≡ false → IsFlat includes flat
      → IsFlat includes (flat_with_word file word text flat)
  flat_more flat file word text sound short is = record {
    texts = is.texts ++ text ∷ [];
    sound = all_joined IsSound is.texts (text ∷ []) is.sound (sound, tt);
    text = rw (is.text, text_more) refl;
    places =
        let at : length flat.text ≡ 0 + length (text_of_chunks (lines_of is.texts)) = omega (arith, ap length is.text) in
        rw (map-append, is.places, starts_more is.texts text 0 (length flat.text) at) refl;
    includes = is.includes;
    short = λ has. grind (arith, nat_tests, is.includes, has, length-append flat.text text, length-append (flat.text ++ text) (10 ∷ []));
  }

  with_file : (flat : Flat) (path : List ℕ) → IsFlat includes flat → IsFlat includes (flat_with_path path flat)
  with_file flat path is =
      record { texts = is.texts; sound = is.sound; text = is.text; places = is.places; includes = is.includes; short = is.short }

  -- whatever is replied, a walk results in such a text, unless it meets a fault
  abbrev IsFlatWalk : Walk → Type 0
  IsFlatWalk asked = Always (λ answer. IfOk answer (IsFlat includes)) asked

  plain_flat : (file : ℕ) (origin : Origin) (word : Word) (text : List ℕ) (flat : Flat) → IsSound text → IsFlat includes flat
      → IfOk (at_plain_word file origin word text flat) (IsFlat includes)
  plain_flat file origin word text flat sound is = elim (cases_Bool (is_long_with flat text)) [
    | inl long ↦ rw long tt
    | inr short ↦ rw short (flat_more flat file word text sound short is)
  ]

  module _ (deeper : ℕ) (inner : List ℕ → List ℕ → Flat → Walk)
      (inner_flat : (path source : List ℕ) (flat : Flat) → IsFlat includes flat → IsFlatWalk (inner path source flat)) where
    include_flat : (origin : Origin) (text : List ℕ) (flat : Flat) → IsFlat includes flat → IsFlatWalk (at_include deeper inner origin text flat)
    include_flat origin text flat is =
        always-said (IsFlat includes) (found_at origin text (path_or_kind deeper (length flat.paths) (included_path flat.main text))) _
        (λ path _ file within. always-said (IsFlat includes) (found_at origin text (bytes_or_kind file)) _
        (λ bytes _. inner_flat path bytes (flat_with_path path flat) (with_file flat path is)))

    word_flat : (path source : List ℕ) (file : ℕ) (word : Word) (flat : Flat) → IsSoundWord source word → IsFlat includes flat
        → IsFlatWalk (at_word deeper inner path source file word flat)
    word_flat path source file word flat sound is =
        let origin : Origin = record { path = path; line = word.line; column = word.column } in
        elim (cases_Bool (is_include (word_text source word))) [
          | inl include ↦ rw include (include_flat origin (word_text source word) flat is)
          | inr plain ↦ rw plain (plain_flat file origin word (word_text source word) flat sound is)
        ]

    file_flat : (path source : List ℕ) (flat : Flat) → IsFlat includes flat → IsFlatWalk (through_file deeper inner path source flat)
    file_flat path source flat is =
        by (word_fault source) refl
      where
        by : (fault : Option Fault) → word_fault source ≡ fault
            → IsFlatWalk
            (and_then (Answer (option_map_or (λ found. Err (words_fault path source found)) fault (Ok (words_of source))))
            (through_words deeper inner path source flat))
        by None none =
            always-through (IsFlat includes) (IsSoundWord source) (at_word deeper inner path source (length flat.paths))
            (λ word now sound holds. word_flat path source (length flat.paths) word now sound holds) (words_of source) flat (words_sound source none)
            is
        by (Some fault) none = tt

  walk_flat : (deeper : ℕ) (path source : List ℕ) (flat : Flat) → IsFlat includes flat → IsFlatWalk (walk deeper path source flat)
  unfolding walk
  walk_flat zero path source flat is = is
  walk_flat (suc deeper) path source flat is = file_flat deeper (walk deeper) (walk_flat deeper) path source flat is

all_lines : (texts : List (List ℕ)) → AllByRecursion IsSound texts
    → AreChunks (lines_of texts) × AllByRecursion (λ (c : Chunk). IsSpoken c.text) (lines_of texts)
all_lines [] all = (tt, tt)
all_lines (text ∷ texts) all = let rest = all_lines texts all.1 in ((all.0.chunk, rest.0), (all.0.spoken, rest.1))

-- an offset is among those where words begin
abbrev pub IsIn : ℕ → List ℕ → Type 0
IsIn n ms = list_any (λ m. m == n) ms ≡ true

place_there : (places : List Place) (at : ℕ) → IsIn at (map (λ (p : Place). p.at) places) → IsSome (find (λ (p : Place). p.at == at) places)
place_there [] at is = is
place_there (place ∷ places) at is = grind (arith, place_there places at)

is_in : (n : ℕ) (prefix back : List ℕ) → IsIn n (prefix ++ n ∷ back)
is_in n [] back = rw (eq-eqb n n refl) refl
is_in n (m ∷ prefix) back = grind (arith, is_in n prefix back)

some_mapped : {X Y : Type 0} (f : X → Y) (o : Option X) → IsSome o → IsSome (option_map f o)
some_mapped f o is = grind arith

all_placed : (flat : Flat) (prefix words : List Word) → map (λ (w : Word). w.span.start) (prefix ++ words) ≡ map (λ (p : Place). p.at) flat.places
    → AllByRecursion (λ word. IsSome (origin_at flat word.span.start)) words
all_placed flat prefix [] is = tt
all_placed flat prefix (word ∷ words) is = (
  some_mapped _ (find (λ (p : Place). p.at == word.span.start) flat.places)
      (place_there flat.places word.span.start
      (subst (λ (ns : List ℕ). IsIn word.span.start ns) (sym (map-append (λ (w : Word). w.span.start) prefix (word ∷ words)) ∙ is)
      (is_in word.span.start (map (λ (w : Word). w.span.start) prefix) (map (λ (w : Word). w.span.start) words)))),
  all_placed flat (prefix ++ word ∷ []) words
      (ap (map (λ (w : Word). w.span.start)) (append_assoc prefix (word ∷ []) words) ∙ is),
)

has_its_words : (source : List ℕ) (flat : Flat) → IsFlat (has_includes source) flat → HasItsWords source flat
has_its_words source flat is =
    let are = all_lines is.texts is.sound in
    let begin : map (λ (w : Word). w.span.start) (words_of flat.text) ≡ map (λ (p : Place). p.at) flat.places =
    rw (is.text, words_are_tokens (lines_of is.texts) are.0 are.1, is.places) (starts_of_tokens (lines_of is.texts) are.0) in
    record {
      begins = begin;
      origins = all_placed flat [] (words_of flat.text) begin;
      faultless = λ short. rw is.text (chunks_faultless (lines_of is.texts) are.0 are.1 (rw is.text at short));
      short = is.short;
    }

-- what a source is spliced to has its words
pub spliced_words : (main source : List ℕ) → Always (λ answer. IfOk answer (HasItsWords source)) (splice_inquiry main source)
unfolding splice_inquiry
spliced_words main source =
    always-mapped _ _ (splice_inquiry main source) by
    (file_flat (has_includes source) INCLUDE_DEPTH (walk INCLUDE_DEPTH) (walk_flat (has_includes source) INCLUDE_DEPTH) main source (empty_flat main (has_includes source))
    (record { texts = []; sound = tt; text = refl; places = refl; includes = refl; short = λ includes. omega arith }))
  where
    by : (answer : Result Flat IncludeFault) → IfOk answer (IsFlat (has_includes source)) → IfOk answer (HasItsWords source)
    by (Ok flat) is = has_its_words source flat is
    by (Err fault) is = tt
