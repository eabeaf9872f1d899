-- What is patched of the words of a source, and of the word that a placer gives next.
use Rattle.tal_rom.proofs.Common.{◌≡◌, ℕ, ◌<◌, ◌≤◌, Bool, true, false, List, [], ◌∷◌, ◌++◌, length, Some, None, Ok, refl, sym, ◌∙◌, ap, arith}
use Rattle.tal_rom.proofs.Common.{append-nil, Expanded, Label, Form, LabelDef, SubDef, Refer, LambdaEnd, Rune, opens, closes, size, encoded}
use Rattle.tal_rom.proofs.Common.{address_named, expanded_text, PlacedWord, address_after, label_of, defined_name, labels_of, scope_after}
use Rattle.tal_rom.proofs.Common.{is_mark_form, is_defined, ends_of, placed_of, added_fault, word_added, open_ones, closed_labels, closed_opener}
use Rattle.tal_rom.proofs.Common.{openers_step, labels_of-append, Patch, is_definition, is_reference, scope_behind, PatchHolds, ComesNext, WasGiven}
use Rattle.tal_rom.proofs.Common.{AreOpen, model_of, with_word, with_label, with_end}
use Rattle.tal_words.proofs.BraceLemmas.{form-closes, not_opening}
use Rattle.tal_labels.proofs.AddingLemmas.{formed-added}
use Rattle.tal_labels.proofs.CallerLemmas.{placed_words, length-placed_of}
use Rattle.tal_labels.proofs.KeptLemmas.{next_ones}
use Rattle.tal_labels.proofs.NextWord.{none_named, open_are, ends_below, IsNextWord, given_next}
use Rattle.tal_rom.proofs.Checking.{some_bytes}
use Rattle.tal_rom.proofs.Holding.{all_still, holds_put}

-- a word that defines a label has no bytes, and one that is no label defines none
definition : (shape : Form) (text : List ℕ) → is_definition shape ≡ true
    → (encoded shape text 0 0 ≡ []) × (is_reference shape ≡ false) × (is_mark_form shape ≡ true)
definition shape text e = grind arith

no_label : (shape : Form) (scope text : List ℕ) → is_definition shape ≡ false → defined_name (Ok shape) scope text ≡ None
no_label shape scope text e = grind arith

pub not_definition : (shape : Form) → (shape ≡ LabelDef → ⊥) → (shape ≡ SubDef → ⊥) → is_definition shape ≡ false
not_definition shape a b = grind arith

pub not_reference : (shape : Form) → ((rune : Rune) → shape ≡ Refer rune → ⊥) → is_reference shape ≡ false
not_reference shape a = grind arith

no_opener : (opening : Bool) (openers : List ℕ) → closed_opener opening false openers ≡ None
no_opener opening openers = grind arith

module _ (source : List ℕ) where
  abbrev text : PlacedWord → List ℕ
  text placed = expanded_text source placed.word

  pub behind_placed : (words : List Expanded) → added_fault source words ≡ None
      → scope_behind source (placed_of source words) ≡ scope_after source words
  unfolding scope_behind placed_of
  behind_placed words sound = ap (scope_after source) (placed_words source [] words (formed-added source words sound))

-- the addresses that the code relies on
module _ (source : List ℕ) (placed : PlacedWord) (given : WasGiven source placed) where
  last : IsNextWord source given.0 placed
  last = given_next source given.0 placed given.1

  mark_within : is_mark_form placed.form ≡ true → placed.address < 65536
  mark_within mark = omega (arith, last.address, last.well.mark mark)

  pub bytes_address : 0 < size placed.form (text source placed) → placed.address ≤ 65536
  bytes_address some = omega (arith, last.address, last.well.high some)

  pub reference_address : (rune : Rune) → placed.form ≡ Refer rune → placed.address < 65536
  reference_address rune shape =
      let some : 0 < size placed.form (text source placed) = rw shape (some_bytes rune) in
      omega (arith, some, last.address, last.well.high some)

  pub definition_address : is_definition placed.form ≡ true → placed.address < 65536
  definition_address label = mark_within (definition placed.form [] label).2

  pub closing_form : closes (text source placed) ≡ true → placed.form ≡ LambdaEnd
  closing_form e = (let both : Ok placed.form ≡ Ok LambdaEnd = sym last.formed ∙ form-closes (text source placed) e in cc)

  pub closing_address : closes (text source placed) ≡ true → placed.address < 65536
  closing_address e = mark_within (ap is_mark_form (closing_form e))

  pub reference_still : (rune : Rune) → placed.form ≡ Refer rune → closes (text source placed) ≡ false
  reference_still rune same = grind (arith, closing_form)

-- what is patched with the next word
module _ (source : List ℕ) (words : List Expanded) (placed : PlacedWord) (given : word_added source words placed.word ≡ Some placed)
    (few : length words < 2147483647) where
  next : IsNextWord source words placed
  next = given_next source words placed given

  count : length (placed_of source words) ≡ length words
  count = length-placed_of source words (formed-added source words next.sound)

  pub comes_next : (labels : List Label) (shape : Form) (text' : List ℕ) → placed.form ≡ shape → text' ≡ text source placed
      → ComesNext (record (model_of source words) { labels = labels }) placed shape text' placed.address
  unfolding placed_of ends_of open_ones
  comes_next labels shape text' same read = record {
    shape = same;
    read = sym read;
    here = refl;
    unended = ap (λ p. p.lambda) (sym next.whole);
    behind = λ some. rw next.address (ends_below source (address_after source words) [] words (next.well.above (rw (read, ← same) at some)));
    few = omega (arith, count, few);
    open_before = open_are source [] [] words refl (formed-added source words next.sound);
  }

  abbrev labels_more : List Label
  labels_more = labels_of source words ++ label_of (defined_name (Ok placed.form) (scope_after source words) (text source placed)) placed.address

  pub same_labels : is_definition placed.form ≡ false → labels_more ≡ labels_of source words
  same_labels bare = rw (no_label placed.form (scope_after source words) (text source placed) bare) (append-nil (labels_of source words))

  pub model_next : (opening closing : Bool) (labels : List Label) → opens (text source placed) ≡ opening → closes (text source placed) ≡ closing
      → labels_more ≡ labels
      → model_of source (words ++ placed.word ∷ []) ≡ record {
        source = source;
        labels = labels;
        words = closed_labels (closed_opener opening closing (open_ones source words)) placed.address (placed_of source words ++ placed ∷ []);
        openers = openers_step opening closing (length (placed_of source words)) (open_ones source words);
      }
  model_next opening closing labels e f g =
      let ones = next_ones source words placed.word placed.form next.formed next.sound opening closing e f in
      grind (arith, labels_of-append source words placed.word placed.form next.formed, next.address, g, count, next.whole, ones)

  -- a patch with the next word, which is no label
  pub word_all : (opening : Bool) (shape : Form) (text' : List ℕ) (old new : Patch) → placed.form ≡ shape → text' ≡ text source placed
      → is_definition shape ≡ false → opens text' ≡ opening → closes text' ≡ false
      → (ComesNext (model_of source words) placed shape text' placed.address → PatchHolds (model_of source words) old
      → PatchHolds (with_word opening placed (model_of source words)) new)
      → PatchHolds (model_of source words) old → PatchHolds (model_of source (words ++ placed.word ∷ [])) new
  word_all opening shape text' old new same read bare opened still ok so =
      rw (model_next opening false _ (rw read at opened) (rw read at still) (same_labels (rw same bare)), no_opener opening (open_ones source words))
      (ok (comes_next _ shape text' same read) so)

  -- which closes a lambda
  pub end_all : (text' : List ℕ) (old put new : Patch) → text' ≡ text source placed → closes text' ≡ true
      → (ComesNext (model_of source words) placed placed.form text' placed.address → PatchHolds (model_of source words) old
      → PatchHolds (with_word false placed (model_of source words)) put)
      → (AreOpen (with_word false placed (model_of source words)) → PatchHolds (with_word false placed (model_of source words)) put
      → PatchHolds (with_end placed.address (with_word false placed (model_of source words))) new)
      → PatchHolds (model_of source words) old → PatchHolds (model_of source (words ++ placed.word ∷ [])) new
  end_all text' old put new read closing ok end so =
      let comes = comes_next (labels_of source words) placed.form text' refl read in
      let shape = closing_form source placed (words, given) (rw read at closing) in
      let bare = not_opening (text source placed) placed.form next.formed (λ rune e. (let never : Refer rune ≡ LambdaEnd = sym e ∙ shape in cc)) in
      rw (model_next false true _ bare (rw read at closing) (same_labels (ap is_definition shape)))
      (end (all_still source placed (placed_of source words) (open_ones source words) comes.open_before).0 (ok comes so))

  -- which defines a label
  pub define_all : (name : List ℕ) (old new : Patch) → is_definition placed.form ≡ true
      → Some name ≡ defined_name (Ok placed.form) (scope_after source words) (text source placed)
      → (address_named (labels_of source words) name ≡ None → PatchHolds (model_of source words) old
      → PatchHolds (with_label (record { name = name; address = placed.address }) (model_of source words)) new)
      → PatchHolds (model_of source words) old → PatchHolds (model_of source (words ++ placed.word ∷ [])) new
  define_all name old new label named ok so =
      let marks = definition placed.form (text source placed) label in
      let bare = not_opening (text source placed) placed.form next.formed
      (λ rune e. (let never : true ≡ false = sym (ap is_reference e) ∙ marks.1 in cc)) in
      let still : closes (text source placed) ≡ false = grind (arith, closing_form source placed (words, given)) in
      let fresh = none_named (labels_of source words) name (ap (is_defined (labels_of source words)) named ∙ next.well.new) in
      let labels = labels_of source words ++ record { name = name; address = placed.address } ∷ [] in
      let comes = comes_next labels placed.form (text source placed) refl refl in
      rw (model_next false false labels bare still (rw (← named) refl))
      (holds_put _ placed placed.form (text source placed) placed.address comes new new.memory marks.1 (rw marks.0 refl) (ok fresh so))
