-- How a walk goes on.
use Rattle.std.proofs.Common.{◌≡◌, ℕ, zero, suc, ◌+◌, ◌-◌, ◌<◌, List, length, drop, get_or, Result, Ok, Err, None, true, false, refl, ap, sym, subst}
use Rattle.std.proofs.Common.{arith}
use Rattle.std.specs.List.{list_any}
use Rattle.uxn_io_traits.specs.State.{TreeState}
use Rattle.uxn_io_traits.specs.declared.halt.Halt.{Halt}
use Rattle.uxn_io_traits.specs.Inquiry.{Answer, and_then, through}
use Rattle.uxn_io_traits.specs.Inquires.{Inquires, Says}
use Rattle.uxn_io_traits.specs.Leads.{Leads, Here}
use Rattle.uxn_io_traits.specs.AskingLaws.{leads-more, leads-end, leads-stop, leads-step, leads-refused, inquires-said, through-more, through-stop}
use Rattle.tal_words.specs.declared.span.Word.{Word}
use Rattle.tal_words.specs.Source.{word_text}
use Rattle.uxn_limits.specs.declared.limits.TheConstants.{INCLUDE_DEPTH}
use Rattle.tal_words.specs.Comments.{words_of, word_fault}
use Rattle.tal_include.specs.declared.faults.Origin.{Origin}
use Rattle.tal_include.specs.declared.faults.IncludeFault.{IncludeFault}
use Rattle.tal_include.specs.Flat.{Flat, empty_flat, flat_with_path}
use Rattle.tal_include.specs.Includes.{is_include, included_path, path_or_kind}
use Rattle.tal_include.specs.Splice.{Walk, found_at, words_in, at_plain_word, file_at_word, at_include, at_word, through_words, through_file, walk, splice_inquiry}

walk-is : (deeper : ℕ) (path source : List ℕ) (flat : Flat) → 0 < deeper
    → walk deeper path source flat ≡ through_file (deeper - 1) (walk (deeper - 1)) path source flat
unfolding walk
walk-is zero path source flat some = absurd (omega (arith, some))
walk-is (suc deeper) path source flat some =
    let less : deeper ≡ suc deeper - 1 = omega arith in ap (λ (n : ℕ). through_file n (walk n) path source flat) less

-- an include word, step by step: its path, the bytes of its file, and their words
module _ (deeper : ℕ) (origin : Origin) (text : List ℕ) (flat : Flat) (view : Unit {0} → Flat) (a : TreeState) where
  abbrev whole : Walk
  whole = at_include deeper (walk deeper) origin text flat

  abbrev named : Result (List ℕ) IncludeFault
  named = found_at origin text (path_or_kind deeper (length flat.paths) (included_path flat.main text))

  abbrev with_bytes : List ℕ → List ℕ → Walk
  with_bytes path bytes = walk deeper path bytes (flat_with_path path flat)

  abbrev with_path : List ℕ → Walk
  with_path path = and_then (file_at_word origin text path) (with_bytes path)

  pub no-path : (halt : Halt IncludeFault) → Says (λ (path : List ℕ). path) named (Err halt) → Inquires view whole a a (Err halt)
  no-path halt is = leads-refused (λ (path : List ℕ). path) view whole named with_path a a halt Here is

  module _ (path : List ℕ) (b : TreeState) (is_named : named ≡ Ok path) where
    at-path : Leads whole (with_path path) a a
    at-path = leads-step whole named with_path a a path Here is_named

    pub no-bytes : {C : Type 0} (shown : C → List ℕ) (halt : Halt IncludeFault) → Inquires shown (file_at_word origin text path) a b (Err halt)
        → Inquires view whole a b (Err halt)
    no-bytes shown halt p = leads-stop shown view whole (file_at_word origin text path) (with_bytes path) a a b halt at-path p

    module _ {C : Type 0} (shown : C → List ℕ) (bytes : C) (some : 0 < deeper) (read : Inquires shown (file_at_word origin text path) a b (Ok bytes)) where
      abbrev with_words : List Word → Walk
      with_words words = through_words (deeper - 1) (walk (deeper - 1)) path (shown bytes) (flat_with_path path flat) words

      at-bytes : Leads whole (and_then (Answer (words_in path (shown bytes))) with_words) a b
      at-bytes =
          rw (walk-is deeper path (shown bytes) (flat_with_path path flat) some) at
          (leads-more shown whole (file_at_word origin text path) (with_bytes path) a a b bytes at-path read)

      pub no-words : {D : Type 0} (list : D → List Word) (source : List ℕ) (halt : Halt IncludeFault) → source ≡ shown bytes
          → Says list (words_in path source) (Err halt) → Inquires view whole a b (Err halt)
      no-words list source halt same is =
          leads-refused list view whole (words_in path (shown bytes)) with_words a b halt at-bytes
          (subst (λ (s : List ℕ). Says list (words_in path s) (Err halt)) same is)

      pub all-words : (source : List ℕ) (words list : List Word) (now : Flat) (c : TreeState) (r : Result (Unit {0}) (Halt IncludeFault))
          → source ≡ shown bytes → words_in path source ≡ Ok words → now ≡ flat_with_path path flat → list ≡ words
          → Inquires view (through_words (deeper - 1) (walk (deeper - 1)) path source now list) b c r → Inquires view whole a c r
      all-words source words list now c r same are is_now is_list p =
          leads-end view whole (with_words words) a b c r
          (leads-step whole (words_in path (shown bytes)) with_words a b words at-bytes (rw same at are)) (rw (is_now, same, is_list) at p)

-- the words of a file, one after the other: the rest of them from a word on
module _ (whole : Walk) (deeper : ℕ) (path source text : List ℕ) (words : List Word) (i number : ℕ) (here : Flat)
    (a b : TreeState)
    (p : Leads whole (through (at_word deeper (walk deeper) path source number) (drop i words) here) a b)
    (less : i < length words) where
  abbrev default : Word
  default = record { span = record { start = 0; end = 0 }; line = 0; column = 0 }

  abbrev word : Word
  word = get_or words i default

  abbrev place : Origin
  place = record { path = path; line = word.line; column = word.column }

  abbrev step : Word → Flat → Walk
  step = at_word deeper (walk deeper) path source number

  module _ (is_text : text ≡ word_text source word) (view : Unit {0} → Flat) where
    module _ (c : TreeState) (includes : true ≡ is_include text) where
      included : (r : Result (Unit {0}) (Halt IncludeFault))
          → Inquires view (at_include deeper (walk deeper) place text here) b c r
          → Inquires view (step word here) b c r
      included r q = let other = sym includes in rw (← is_text, other) q

      -- a file was included, or not
      pub include-more : Inquires view (at_include deeper (walk deeper) place text here) b c (Ok tt)
          → Leads whole (through step (drop (i + 1) words) (view tt)) a c
      include-more q = through-more step whole words i here a b p view word default c tt less refl (included (Ok tt) q)

      pub include-stop : (last : Unit {0} → Flat) (halt : Halt IncludeFault)
          → Inquires view (at_include deeper (walk deeper) place text here) b c (Err halt) → Inquires last whole a c (Err halt)
      include-stop last halt q = through-stop step whole words i here a b p view last word default c halt less refl (included (Err halt) q)

    module _ (other : false ≡ is_include text) where
      plain : (r : Result (Unit {0}) (Halt IncludeFault)) → Says view (at_plain_word number place word text here) r
          → Inquires view (step word here) b b r
      plain r says =
          let none = sym other in
          rw (← is_text, none) (inquires-said view (at_plain_word number place word text here) b r says)

      -- another word was added, or not
      pub plain-more : Says view (at_plain_word number place word text here) (Ok tt)
          → Leads whole (through step (drop (i + 1) words) (view tt)) a b
      plain-more says = through-more step whole words i here a b p view word default b tt less refl (plain (Ok tt) says)

      pub plain-stop : (last : Unit {0} → Flat) (halt : Halt IncludeFault)
          → Says view (at_plain_word number place word text here) (Err halt)
          → Inquires last whole a b (Err halt)
      plain-stop last halt says = through-stop step whole words i here a b p view last word default b halt less refl (plain (Err halt) says)

-- a source without a fault of words that was gone through
pub source-words : {D : Type 0} (view : D → Flat) (main source : List ℕ) (words : List Word) (flat : Flat) (a b : TreeState)
    (r : Result D (Halt IncludeFault)) → word_fault source ≡ None → words ≡ words_of source
    → flat ≡ empty_flat main (list_any (λ word. is_include (word_text source word)) words)
    → Inquires view (through_words INCLUDE_DEPTH (walk INCLUDE_DEPTH) main source flat words) a b r
    → Inquires view (splice_inquiry main source) a b r
unfolding splice_inquiry
source-words view main source words flat a b r none are is p =
    rw none (rw (is, are) at p)
