-- Laws of ranges: what fills, copies and records leave alone.
use Rattle.std.specs.Prelude.{◌≡◌, ◌≢◌, ℕ, zero, suc, ◌+◌, ◌<◌, ◌≤◌, nat_lt, Bool}
use Rattle.std.specs.Prelude.{true, false, List, length, slice_index, slice_set, refl}
use Rattle.std.proofs.Common.{cond, ◌∙◌, arith}
use Rattle.std.proofs.lemmas.List.{get_or-set_other, length-set}
use Rattle.uxn_memory.specs.Bytes.{bank_place, copied, filled, copied_up, copied_down}
use Rattle.system_port.specs.declared.expansions.BankRange.{BankRange}
use Rattle.system_port.specs.declared.expansions.Record.{Record}
use Rattle.system_port.specs.declared.expansions.Record.TheVariants.{Fill, CopyUp, CopyDown, Unknown}
use Rattle.system_port.specs.Expansion.{record_at, no_range, target_of, target_at, done, expanded}

-- a place of memory is none of a range
abbrev pub MissesRange : BankRange → ℕ → Type 0
MissesRange range place = (k : ℕ) → k < range.count → place ≢ bank_place range.bank (range.first + k)

-- memory changes within a range at most, and keeps its size
pub record ChangesWithin (range : BankRange) (before after : List ℕ) : Type 0 where
  pub size : length after ≡ length before
  pub same : (place : ℕ) → MissesRange range place → slice_index after place ≡ slice_index before place

pub stays-within : (range : BankRange) (memory : List ℕ) → ChangesWithin range memory memory
stays-within range memory = record { size = refl; same = λ place out. refl }

-- one of its bytes more is set
set-within : (range : BankRange) (k value : ℕ) (before after : List ℕ) → k < range.count → ChangesWithin range before after
    → ChangesWithin range before (slice_set after (bank_place range.bank (range.first + k)) value)
set-within range k value before after less so_far = record {
  size = length-set after (bank_place range.bank (range.first + k)) value ∙ so_far.size;
  same = λ place out.
      get_or-set_other after (bank_place range.bank (range.first + k)) place value 0 (out k less) ∙ so_far.same place out;
}

filled-within : (range : BankRange) (memory : List ℕ) (value count : ℕ) → count ≤ range.count
    → ChangesWithin range memory (filled memory count range.bank range.first value)
unfolding filled
filled-within range memory value zero le = stays-within range memory
filled-within range memory value (suc count) le =
    set-within range count value memory _ (omega arith) (filled-within range memory value count (omega arith))

up-within : (range : BankRange) (memory : List ℕ) (from_bank from count : ℕ) → count ≤ range.count
    → ChangesWithin range memory (copied_up memory count from_bank from range.bank range.first)
unfolding copied_up
up-within range memory from_bank from zero le = stays-within range memory
up-within range memory from_bank from (suc count) le =
    set-within range count _ memory _ (omega arith) (up-within range memory from_bank from count (omega arith))

down-within : (range : BankRange) (before memory : List ℕ) (from_bank from count : ℕ) → count ≤ range.count
    → ChangesWithin range before memory → ChangesWithin range before (copied_down memory count from_bank from range.bank range.first)
unfolding copied_down
down-within range before memory from_bank from zero le so_far = so_far
down-within range before memory from_bank from (suc count) le so_far =
    down-within range before (copied memory from_bank (from + count) range.bank (range.first + count)) from_bank from count (omega arith)
    (set-within range count _ before memory (omega arith) so_far)

-- what is done where a bank is there
where-there : (there : Bool) (range : BankRange) (memory after : List ℕ) → ChangesWithin range memory after
    → ChangesWithin range memory (cond there after memory)
where-there true range memory after changes = changes
where-there false range memory after changes = stays-within range memory

from-there : (there : Bool) (range : BankRange) (memory after : List ℕ) → ChangesWithin range memory after
    → ChangesWithin (cond there range no_range) memory (cond there after memory)
from-there true range memory after changes = changes
from-there false range memory after changes = stays-within no_range memory

-- a record changes memory within its target
done-within : (request : Record) (memory : List ℕ) → ChangesWithin (target_of request) memory (done request memory)
done-within (Fill to value) memory =
    where-there (nat_lt to.bank 16) to memory _ (filled-within to memory value to.count (omega arith))
done-within (CopyUp from to) memory =
    from-there (nat_lt from.bank 16) to memory _
    (where-there (nat_lt to.bank 16) to memory _ (up-within to memory from.bank from.first to.count (omega arith)))
done-within (CopyDown from to) memory =
    from-there (nat_lt from.bank 16) to memory _ (where-there (nat_lt to.bank 16) to memory _
    (down-within to memory memory from.bank from.first to.count (omega arith) (stays-within to memory)))
done-within Unknown memory = stays-within no_range memory

pub expanded-within : (memory : List ℕ) (at : ℕ) → ChangesWithin (target_at memory at) memory (expanded memory at)
unfolding expanded target_at
expanded-within memory at = done-within (record_at memory at) memory
