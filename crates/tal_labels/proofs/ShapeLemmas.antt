use Rattle.std.specs.Prelude.{slice_get}
use Rattle.tal_labels.proofs.Common.{◌≡◌, ℕ, ◌+◌, ◌<◌, ◌≤◌, Bool, List, [], length, take, drop, get_or, Option, Some, None, refl, sym, ◌∙◌, ap, arith}
use Rattle.tal_labels.proofs.Common.{is_some, take_more, Expanded, FaultKind, fault_at, phase_fault, form, each, expanded_text, shape_kinds}
use Rattle.tal_labels.proofs.Common.{open_after, open_count, closer_of, closers_of, validated_shape, shape_fault, fold-append, fault-here}
use Rattle.tal_labels.proofs.Common.{fault-later, each-end, get_or-each, length-each, no_word}

open_count-more : (source : List ℕ) (words : List Expanded) (k : ℕ) (d : Expanded) → k < length words → open_count source (take (k + 1) words) ≡ open_after (open_count source (take k words)) (expanded_text source (get_or words k d))
unfolding open_count
open_count-more source words k d h = rw (take_more words k d h, fold-append) refl

pub length-closers_of : (source : List ℕ) (words : List Expanded) → length (closers_of source words) ≡ length words
unfolding closers_of
length-closers_of source words = length-each (closer_of source) [] words

-- what the loop over the words keeps
pub record IsShapedSo (source : List ℕ) (words : List Expanded) (k : ℕ) (open_ones : ℕ) : Type 0 where
  pub sound : phase_fault (each (validated_shape source) (take k words) (drop k words)) ≡ shape_fault source words
  pub depth : open_ones ≡ open_count source (take k words)
  pub small : open_ones ≤ k

pub nothing_shaped : (source : List ℕ) (words : List Expanded) → IsShapedSo source words 0 0
unfolding shape_fault open_count
nothing_shaped source words = record { sound = refl; depth = refl; small = omega arith }

-- what is answered for a word whose shape has no fault, or has one
module _ (source : List ℕ) (words : List Expanded) (k : ℕ) (text : List ℕ) (depth : ℕ) (closed : Bool) (e : Option ℕ) (closers : List (Option ℕ)) (within : k < length words)
    (all : closers ≡ closers_of source words) (read : text ≡ expanded_text source (get_or words k no_word)) (shut : closed ≡ is_some (get_or closers k e)) (so : IsShapedSo source words k depth) where
  read_kinds : shape_kinds (form text) text depth closed ≡ (validated_shape source (take k words) (get_or words k no_word) (drop (k + 1) words)).kinds
  unfolding closers_of
  read_kinds = rw (shut, all, get_or-each (closer_of source) [] words k no_word e within, read, so.depth) (grind arith)

  pub next_shaped : (next : ℕ) → slice_get (shape_kinds (form text) text depth closed) 0 ≡ None → next ≡ open_after depth text → next ≤ depth + 1 → IsShapedSo source words (k + 1) next
  next_shaped next none deeper bound = record {
    sound = fault-later (validated_shape source) words k no_word within (rw read_kinds at none) ∙ so.sound;
    depth = rw (deeper, read, so.depth) (sym (open_count-more source words k no_word within));
    small = omega (arith, so.small);
  }

  pub faulty_shape : (kind : FaultKind) → slice_get (shape_kinds (form text) text depth closed) 0 ≡ Some kind → shape_fault source words ≡ Some (fault_at (get_or words k no_word).origin kind)
  faulty_shape kind some = sym so.sound ∙ fault-here (validated_shape source) words k no_word within kind (rw read_kinds at some)

pub all_shaped : (source : List ℕ) (words : List Expanded) (k : ℕ) (depth : ℕ) → k ≡ length words → IsShapedSo source words k depth → shape_fault source words ≡ None
all_shaped source words k depth whole so = sym so.sound ∙ ap phase_fault (each-end (validated_shape source) words k (omega arith))
