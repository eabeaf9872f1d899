-- The loop over the words with their addresses, which looks for the first fault of their references.
use Rattle.std.specs.Prelude.{slice_get}
use Rattle.tal_rom.proofs.Common.{◌≡◌, ℕ, ◌+◌, ◌<◌, ◌≤◌, List, [], ◌∷◌, ◌++◌, Ok, length, take, drop, get_or, map, Option, None, refl, sym, ◌∙◌, ap}
use Rattle.tal_rom.proofs.Common.{arith, take_more, map-append, Form, Pad, Refer, Rune, Label, each, expanded_text, phase_fault, fault_at, form, size}
use Rattle.tal_rom.proofs.Common.{encoded_reference, first_scope, each-end, no_word, fault-here, fault-later, PlacedWord, FaultKind, Some, true}
use Rattle.tal_rom.proofs.Common.{next_scope, scope_after, LieApart, scope_after-append, HasAddress, target_in, reference_kinds, scope_behind}
use Rattle.tal_rom.proofs.Common.{target_of, validated_reference, reference_fault}
use Rattle.tal_words.specs.FirstFault.{are_in_order}

-- what a read past the end gives
abbrev pub no_placed_word : PlacedWord
no_placed_word = record { word = no_word; form = Pad 0; address = 0; size = 0; lambda = None }

pub some_bytes : (rune : Rune) → 0 < length (encoded_reference rune 0 0)
some_bytes rune = grind arith

-- a reference that ends within memory has an address there
address-of : (shape : Form) (text : List ℕ) (address : ℕ) → (0 < size shape text → address + size shape text ≤ 65536) → HasAddress shape address
address-of (Refer rune) text address h = omega (arith, h (some_bytes rune), some_bytes rune)
address-of shape text address h = tt

-- the scope behind one word more
behind_more : (source : List ℕ) (before : List PlacedWord) (placed : PlacedWord) → form (expanded_text source placed.word) ≡ Ok placed.form
    → scope_behind source (before ++ placed ∷ []) ≡ next_scope placed.form (scope_behind source before) (expanded_text source placed.word)
unfolding scope_behind
behind_more source before placed e =
    rw (map-append (λ p. p.word) before (placed ∷ [])) (scope_after-append source (map (λ p. p.word) before) placed.word placed.form e)

-- what the loop over the words keeps
pub record IsCheckedSo (source : List ℕ) (labels : List Label) (words : List PlacedWord) (k : ℕ) (scope : List ℕ) : Type 0 where
  pub sound : phase_fault (each (validated_reference source labels) (take k words) (drop k words)) ≡ reference_fault source labels words
  pub scoped : scope ≡ scope_behind source (take k words)
  pub apart : LieApart source words

pub nothing_checked : (source : List ℕ) (labels : List Label) (words : List PlacedWord) → LieApart source words
    → IsCheckedSo source labels words 0 first_scope
unfolding reference_fault scope_behind scope_after
nothing_checked source labels words apart = record { sound = refl; scoped = refl; apart = apart }

module _ (source : List ℕ) (labels : List Label) (words : List PlacedWord) (k : ℕ) (scope : List ℕ)
    (within : k < length words) (so : IsCheckedSo source labels words k scope) where
  abbrev word : PlacedWord
  word = get_or words k no_placed_word

  pub word-address : HasAddress word.form word.address
  word-address =
      let lies = so.apart.each k no_placed_word within in
      address-of word.form (expanded_text source word.word) word.address (rw lies.sized at lies.end)

  module _ (text : List ℕ) (target : Option ℕ) (read : text ≡ expanded_text source word.word)
      (named : target ≡ target_in labels scope text word) where
    same : target ≡ target_of source labels (take k words) word
    same = rw (named, read, so.scoped) refl

    pub next_checked : (next : List ℕ) → slice_get (reference_kinds word.form word.address target) 0 ≡ None → next ≡ next_scope word.form scope text
        → IsCheckedSo source labels words (k + 1) next
    next_checked next none after = record {
      sound = fault-later (validated_reference source labels) words k no_placed_word within (rw same at none) ∙ so.sound;
      scoped = rw (after, read, so.scoped, take_more words k no_placed_word within)
          (sym (behind_more source (take k words) word (so.apart.each k no_placed_word within).shape));
      apart = so.apart;
    }

    -- a reference with a fault is the first
    pub faulty_reference : (kind : FaultKind) → slice_get (reference_kinds word.form word.address target) 0 ≡ Some kind
        → reference_fault source labels words ≡ Some (fault_at word.word.origin kind)
    faulty_reference kind some =
        sym so.sound ∙ fault-here (validated_reference source labels) words k no_placed_word within kind (rw same at some)

pub all_checked : (source : List ℕ) (labels : List Label) (words : List PlacedWord) (k : ℕ) (scope : List ℕ) → length words ≤ k
    → IsCheckedSo source labels words k scope → reference_fault source labels words ≡ None
all_checked source labels words k scope past so = sym so.sound ∙ ap phase_fault (each-end (validated_reference source labels) words k past)

-- what is wrong with a reference stands in the order of its kinds
pub reference_in_order : (form : Form) (address : ℕ) (target : Option ℕ) → are_in_order (reference_kinds form address target) ≡ true
reference_in_order form address target = grind arith
