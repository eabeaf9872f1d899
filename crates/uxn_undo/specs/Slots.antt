-- In which slots the stacks and the stored bytes of the moments stand.
use Rattle.std.specs.Prelude.{◌≡◌, ℕ, ◌+◌, ◌%◌, ◌<◌, ◌≤◌, List, [], ◌∷◌, length, slice_index_or}
use Rattle.uxn_stacks.specs.Cells.{new_ring}
use Rattle.uxn_opcodes.specs.declared.Core.{Core}
use Rattle.uxn_undo.specs.declared.row.Row.{Row}
use Rattle.uxn_undo.specs.declared.undo.Record.{Record}
use Rattle.uxn_undo.specs.Kept.{Kept}

abbrev pub slot_row : Core → List ℕ → Row
slot_row core stored = record { working = core.working; returns = core.returns; stored = stored }

abbrev pub no_row : Row
no_row = record { working = new_ring; returns = new_ring; stored = [] }

-- the row in the slot of a record
abbrev pub row_of : List Row → Record → Row
row_of rows entry = slice_index_or rows entry.slot no_row

-- the row of a moment
abbrev pub row_in : Kept → Row
row_in kept = record { working = kept.working; returns = kept.returns; stored = kept.stored }

-- the slot before another, in a round of as many as there are moments
abbrev pub slot_before : ℕ → ℕ
slot_before slot = (slot + 65535) % 65536

-- the newest record has the slot before the next one, each other one that before the slot of the record that came after it; none keeps
-- more bytes than an instruction may change
abbrev pub InOrder : ℕ → ℕ → List Record → Type 0
InOrder size next [] = Unit {0}
InOrder size next (newest ∷ older) =
    (newest.slot ≡ slot_before next) × (newest.slot < size) × (newest.span.count < 65536) × InOrder size (slot_before next) older

-- the slots, where the next moment goes, and the records; where no moment is held no slot is written yet
pub record AreSlots (size room next : ℕ) (records : List Record) : Type 0 where
  pub next_slot : next ≤ size
  pub small : next < 65536
  pub whole : 65536 ≤ room
  pub order : InOrder size next records
  pub written : 0 < size → 0 < length records
