-- That what was written of labels is read back.
use Rattle.std.proofs.Common.{◌≡◌, ℕ, ◌+◌, ◌≤◌, true, false, List, [], ◌∷◌, ◌++◌, length, map, None, Ok, refl, ap, ◌∙◌, arith}
use Rattle.std.specs.Prelude.{not, ◌==◌, nat_lt}
use Rattle.std.specs.List.{list_any}
use Rattle.std.proofs.lemmas.Grind.{common_steps}
use Rattle.std.proofs.lemmas.Bool.{and_parts, not-true, ltb-false, le-leb, ne_eqb}
use Rattle.std.proofs.lemmas.List.Sums.{take_while-cons}
use Rattle.tal_words.specs.declared.name.Label.{Label}
use Rattle.tal_words.specs.Source.{is_blank}
use Rattle.uxn_limits.specs.declared.limits.TheConstants.{SYMBOLS_LIMIT}
use Rattle.tal_symbols.specs.SymbolFile.{entry, symbol_file, is_readable, are_readable}
use Rattle.tal_symbols.specs.Reading.{entries, entries_after, entry_fault, bad_name, name_before_zero, label_of_entry, first_refusal, symbols_in}
use Rattle.tal_symbols.proofs.ReadingLemmas.{found_labels}

not_zero : (byte : ℕ) → is_blank byte ≡ false → (byte == 0) ≡ false
not_zero byte plain = ne_eqb byte 0 (λ e. let far = ltb-false byte 33 plain in omega arith)

-- a name and its zero byte end the entry
name_ends : (name rest : List ℕ) (before : ℕ) → 2 ≤ before → list_any is_blank name ≡ false
    → entries_after before ((name ++ 0 ∷ []) ++ rest) ≡ (name ++ 0 ∷ []) ∷ entries rest
name_ends [] rest before behind plain = let far = le-leb 2 before behind in rw far refl
name_ends (byte ∷ name) rest before behind plain =
    grind (arith, common_steps, le-leb 2 before behind, not_zero byte, name_ends name rest (before + 1) (omega arith))

entry_ends : (label : Label) (rest : List ℕ) → list_any is_blank label.name ≡ false → entries (entry label ++ rest) ≡ entry label ∷ entries rest
entry_ends label rest plain = let ends = name_ends label.name rest 2 (omega arith) plain in rw ends refl

has_zero : (name : List ℕ) → list_any (λ byte. byte == 0) (name ++ 0 ∷ []) ≡ true
has_zero [] = refl
has_zero (byte ∷ name) = grind (arith, has_zero name)

name_back : (name : List ℕ) → list_any is_blank name ≡ false → name_before_zero (name ++ 0 ∷ []) ≡ name
name_back [] plain = refl
name_back (byte ∷ name) plain = grind (arith, common_steps, take_while-cons (λ b. not (b == 0)) byte (name ++ 0 ∷ []), not_zero byte, name_back name)

no_bad_name : (name : List ℕ) → nat_lt 0 (length name) ≡ true → list_any is_blank name ≡ false → bad_name name ≡ None
no_bad_name [] some plain = cc
no_bad_name (first ∷ rest) some plain = rw plain refl

-- a label that can be read back
module _ (label : Label) (readable : is_readable label ≡ true) where
  is_plain : list_any is_blank label.name ≡ false
  is_plain = not-true (list_any is_blank label.name) (and_parts (nat_lt 0 (length label.name)) (not (list_any is_blank label.name)) readable).1

  faultless : entry_fault (entry label) ≡ None
  faultless = rw (has_zero label.name, name_back label.name is_plain) (no_bad_name label.name (and_parts (nat_lt 0 (length label.name)) (not (list_any is_blank label.name)) readable).0 is_plain)

  label_back : label_of_entry (entry label) ≡ label
  label_back = grind (arith, name_back label.name is_plain)

-- the entries of a file that was written
written : (labels : List Label) → are_readable labels ≡ true → entries (symbol_file labels) ≡ map entry labels
written [] readable = refl
written (label ∷ labels) readable = grind (arith, common_steps, entry_ends label (symbol_file labels), is_plain label, written labels)

none_refused : (labels : List Label) (number : ℕ) → are_readable labels ≡ true → first_refusal number (map entry labels) ≡ None
none_refused [] number readable = refl
none_refused (label ∷ labels) number readable = grind (arith, common_steps, faultless label, none_refused labels (number + 1))

all_back : (labels : List Label) → are_readable labels ≡ true → map label_of_entry (map entry labels) ≡ labels
all_back [] readable = refl
all_back (label ∷ labels) readable = grind (arith, common_steps, label_back label, all_back labels)

pub read_back : (labels : List Label) → are_readable labels ≡ true → length (symbol_file labels) ≤ SYMBOLS_LIMIT → symbols_in (symbol_file labels) ≡ Ok labels
read_back labels readable short =
    let cut = written labels readable in
    found_labels (symbol_file labels) labels short
    (ap (first_refusal 0) cut ∙ none_refused labels 0 readable)
    (ap (map label_of_entry) cut ∙ all_back labels readable)
