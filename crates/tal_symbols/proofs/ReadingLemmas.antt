-- The reading of a file, one entry at a time.
use Rattle.std.proofs.Common.{◌≡◌, ℕ, ◌+◌, ◌*◌, ◌<◌, ◌≤◌, true, List, [], ◌∷◌, ◌++◌, length, take, drop, get_or, map, Some, None, Ok, Err}
use Rattle.std.proofs.Common.{refl, ap, sym, ◌∙◌, arith, append_assoc, append-nil, length-append, length-drop}
use Rattle.std.specs.Prelude.{not, ◌&&◌, nat_lt}
use Rattle.std.specs.List.{list_any}
use Rattle.std.proofs.lemmas.Grind.{common_steps}
use Rattle.std.proofs.lemmas.Bool.{le-ltb}
use Rattle.std.proofs.lemmas.Bool.Decides.{nat_tests}
use Rattle.std.proofs.lemmas.List.{take-append-drop, length_push, get_or-append-add}
use Rattle.std.proofs.lemmas.List.Concat.{flat_map-append}
use Rattle.std.proofs.lemmas.List.Folds.{list_all-append}
use Rattle.tal_words.specs.declared.name.Label.{Label}
use Rattle.tal_words.specs.Source.{is_blank}
use Rattle.tal_symbols.specs.declared.stop.SymbolKind.{SymbolKind}
use Rattle.tal_symbols.specs.declared.stop.SymbolKind.TheVariants.{Long}
use Rattle.uxn_limits.specs.declared.limits.TheConstants.{SYMBOLS_LIMIT}
use Rattle.tal_symbols.specs.SymbolFile.{entry, symbol_file, is_readable, are_readable}
use Rattle.tal_symbols.specs.Reading.{Refusal, entries, entry_fault, bad_name, name_before_zero, label_of_entry, first_refusal, symbols_in}
use Rattle.tal_symbols.specs.Answers.{entry_length, StopsAtEntry, IsRefusedAtEntry}
use Rattle.tal_symbols.proofs.Cutting.{whole_entry, cut_entry, entry_length-some, entry_length-within, same_fault}

-- what is known before an entry: the labels so far are those of the entries before, and nothing is wrong with these
pub record ReadsOn (bytes rest : List ℕ) (labels : List Label) : Type 0 where
  pub refusal : first_refusal 0 (entries bytes) ≡ first_refusal (length labels) (entries rest)
  pub all : map label_of_entry (entries bytes) ≡ labels ++ map label_of_entry (entries rest)
  pub parts : bytes ≡ symbol_file labels ++ rest
  pub readable : are_readable labels ≡ true
  pub count : length labels + length rest ≤ length bytes

named_readable : (name : List ℕ) → bad_name name ≡ None → (nat_lt 0 (length name) && not (list_any is_blank name)) ≡ true
named_readable [] e = cc
named_readable (first ∷ rest) e = grind (arith, nat_tests)

-- the entry of the label that is read is the entry
entry_again : (high low : ℕ) (name : List ℕ) → low < 256 → entry (record { name = name; address = 256 * high + low }) ≡ high ∷ low ∷ (name ++ 0 ∷ [])
entry_again high low name small = grind (arith, common_steps)

-- one more entry
pub reads_more : (bytes rest : List ℕ) (labels : List Label) (label : Label) → ((k : ℕ) → k < length bytes → get_or bytes k 0 < 256)
    → ReadsOn bytes rest labels → 0 < length rest → entry_fault (take (entry_length rest) rest) ≡ None
    → label ≡ label_of_entry (take (entry_length rest) rest)
    → ReadsOn bytes (drop (entry_length rest) rest) (labels ++ label ∷ [])
reads_more bytes rest labels label small reads some sound is_label =
    let whole = whole_entry rest (sym (same_fault rest) ∙ sound) in
    let prefix = take (entry_length rest) rest in
    let back = drop (entry_length rest) rest in
    let cut = cut_entry rest some in
    let name = name_before_zero whole.text in
    let is_read : label ≡ record { name = name; address = 256 * whole.high + whole.low } = is_label ∙ whole.labelled in
    let low_small : whole.low < 256 = low_of whole.high whole.low whole.text whole.parts in
    let again : entry label ≡ prefix = ap entry is_read ∙ entry_again whole.high whole.low name low_small ∙ sym whole.cut in
    let counted : length (labels ++ label ∷ []) ≡ length labels + 1 = length_push labels label in
    record {
      refusal = reads.refusal ∙ rw (cut, sound, counted) refl;
      all = reads.all ∙ rw (cut, ← is_label) (sym (append_assoc labels (label ∷ []) (map label_of_entry (entries back))));
      parts =
          rw (flat_map-append entry labels (label ∷ []), append-nil (entry label), append_assoc (symbol_file labels) (entry label) back)
          (rw (← take-append-drop (entry_length rest) rest) at reads.parts ∙ ap (λ (text : List ℕ). symbol_file labels ++ (text ++ back)) (sym again));
      readable = rw (list_all-append is_readable labels (label ∷ []), reads.readable, is_read, named_readable name whole.named) refl;
      count = omega (arith, counted, reads.count, length-drop (entry_length rest) rest, entry_length-some rest some, entry_length-within rest);
    }
  where
    low_of : (high low : ℕ) (text : List ℕ) → rest ≡ high ∷ low ∷ text → low < 256
    low_of high low text e =
        let prefix = symbol_file labels in
        let size = length-append prefix rest in
        let read : get_or bytes (length prefix + 1) 0 ≡ low = rw (reads.parts, get_or-append-add prefix rest 1 0, e) refl in
        let inside : length prefix + 1 < length bytes = omega (arith, size, ap length reads.parts, ap length e) in
        let below = small (length prefix + 1) inside in
        omega (arith, read)

-- a faulty entry
pub reads_stop : (bytes rest : List ℕ) (labels : List Label) (kind : SymbolKind) → ReadsOn bytes rest labels → 0 < length rest
    → entry_fault (take (entry_length rest) rest) ≡ Some kind
    → (first_refusal 0 (entries bytes) ≡ Some (record { entry = length labels; kind = kind })) × StopsAtEntry bytes (length labels) kind
reads_stop bytes rest labels kind reads some fault = (
  rw (reads.refusal, cut_entry rest some, fault) refl,
  record {
    prefix = labels;
    rest = rest;
    parts = reads.parts;
    readable = reads.readable;
    number = refl;
    begins = some;
    fault = sym (same_fault rest) ∙ fault;
  },
)

-- no entry is too long
not_long : (rest : List ℕ) → entry_fault rest ≡ Some Long → ⊥
not_long rest e = grind (arith, common_steps)

pub stops_refused : (bytes : List ℕ) (entry : ℕ) (kind : SymbolKind) → length bytes ≤ SYMBOLS_LIMIT → StopsAtEntry bytes entry kind
    → IsRefusedAtEntry bytes entry kind
stops_refused bytes entry kind short stops = grind (arith, common_steps)

-- what is found in a file within the limit
pub found_refusal : (bytes : List ℕ) (refusal : Refusal) → length bytes ≤ SYMBOLS_LIMIT → first_refusal 0 (entries bytes) ≡ Some refusal
    → symbols_in bytes ≡ Err refusal
unfolding symbols_in
found_refusal bytes refusal short e = rw (le-ltb SYMBOLS_LIMIT (length bytes) short, e) refl

pub found_labels : (bytes : List ℕ) (labels : List Label) → length bytes ≤ SYMBOLS_LIMIT → first_refusal 0 (entries bytes) ≡ None
    → map label_of_entry (entries bytes) ≡ labels → symbols_in bytes ≡ Ok labels
unfolding symbols_in
found_labels bytes labels short e all = rw (le-ltb SYMBOLS_LIMIT (length bytes) short, e, all) refl
