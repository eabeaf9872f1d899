-- A pass over items: what it has given so far, and where its first fault is, one item at a time.
use Rattle.std.proofs.Common.{◌≡◌, ℕ, zero, suc, ◌+◌, ◌<◌, ◌≤◌, List, [], ◌∷◌, ◌++◌, length, take, drop, get_or, Option, Some, None, refl, arith}
use Rattle.std.proofs.Common.{append_assoc, append-nil}
use Rattle.std.specs.Prelude.{slice_get}
use Rattle.std.specs.Option.{option_map, option_or}
use Rattle.tal_words.specs.declared.span.Word.{Word}
use Rattle.tal_words.specs.declared.fault.Fault.{Fault}
use Rattle.tal_words.specs.declared.fault.FaultKind.{FaultKind}
use Rattle.tal_words.specs.Faults.{Validated, fault_at, phase_fault}
use Rattle.tal_words.specs.Order.{each, collected}
use Rattle.tal_words.proofs.OrderLemmas.{each-step, collected-step, collected-end}

module _ {X Y : Type 0} (give : List X → X → List X → List Y) (items : List X) (k : ℕ) (given whole : List Y) where
  -- one item more
  pub given-more : (d : X) (piece more : List Y) → k < length items → given ++ collected give (take k items) (drop k items) ≡ whole
      → give (take k items) (get_or items k d) (drop (k + 1) items) ≡ piece → more ≡ given ++ piece
      → more ++ collected give (take (k + 1) items) (drop (k + 1) items) ≡ whole
  given-more d piece more within so_far here added =
      rw (added, append_assoc, ← here, ← collected-step give items k d within) so_far

  -- all items
  pub given-all : length items ≤ k → given ++ collected give (take k items) (drop k items) ≡ whole → given ≡ whole
  given-all past so_far = rw (collected-end give items k past, append-nil) at so_far

module _ {X : Type 0} (validate : List X → X → List X → Validated) (items : List X) (k : ℕ) (d : X) (within : k < length items) where
  -- the first fault from an item on is at this item, where it has one
  pub fault-here : (kind : FaultKind) → slice_get (validate (take k items) (get_or items k d) (drop (k + 1) items)).kinds 0 ≡ Some kind
      → phase_fault (each validate (take k items) (drop k items))
      ≡ Some (fault_at (validate (take k items) (get_or items k d) (drop (k + 1) items)).origin kind)
  fault-here kind e = rw (each-step validate items k d within, e) refl

  -- and further on where this item has none
  pub fault-later : slice_get (validate (take k items) (get_or items k d) (drop (k + 1) items)).kinds 0 ≡ None
      → phase_fault (each validate (take (k + 1) items) (drop (k + 1) items)) ≡ phase_fault (each validate (take k items) (drop k items))
  fault-later e = rw (each-step validate items k d within, e) refl

-- no fault at a word and none further on
pub fault_or-none : (word : Word) (o : Option FaultKind) (later : Option Fault) → option_or (option_map (fault_at word) o) later ≡ None → (o ≡ None) × (later ≡ None)
fault_or-none word None later e = (refl, e)
fault_or-none word (Some kind) later e = cc

-- where a phase has no fault none of its words has one
pub none-at : (words : List Validated) (k : ℕ) (d : Validated) → phase_fault words ≡ None → k < length words → slice_get (get_or words k d).kinds 0 ≡ None
none-at [] k d e h = absurd (omega arith)
none-at (word ∷ words) zero d e h = (fault_or-none word.origin (slice_get word.kinds 0) (phase_fault words) e).0
none-at (word ∷ words) (suc k) d e h = none-at words k d (fault_or-none word.origin (slice_get word.kinds 0) (phase_fault words) e).1 (omega arith)

-- the first fault of words without a fault and of those behind them
pub fault-behind : (xs ys : List Validated) → phase_fault xs ≡ None → phase_fault (xs ++ ys) ≡ phase_fault ys
fault-behind [] ys e = refl
fault-behind (x ∷ xs) ys e = grind (arith, fault-behind xs ys)

pub fault-prefix : (xs ys : List Validated) (fault : Fault) → phase_fault xs ≡ Some fault → phase_fault (xs ++ ys) ≡ Some fault
fault-prefix [] ys fault e = cc
fault-prefix (x ∷ xs) ys fault e = grind (arith, fault-prefix xs ys fault)
