-- What is kept of the moments of a run, the newest first (profile).
use Rattle.std.specs.Prelude.{ℕ, zero, suc, ◌-◌, nat_le, if◌then◌else◌, List, [], ◌∷◌, slice_index}
use Rattle.uxn_limits.specs.declared.limits.TheConstants.{MOST_MOMENTS, MOST_HELD}
use Rattle.uxn_stacks.specs.Cells.{Cells}
use Rattle.uxn_opcodes.specs.declared.Core.{Core}
use Rattle.uxn_undo.specs.declared.span.Span.{Span}
use Rattle.uxn_undo.specs.Spans.{covers, distance_to, span_bytes_at}
use Rattle.uxn_undo.specs.Changes.{instruction_span}

-- a moment: the address, both stacks, the bytes stored in the ports, and the bytes of bank 0 that the coming instruction may change
pub record Kept : Type 0 where
  pub at : ℕ
  pub working : Cells
  pub returns : Cells
  pub stored : List ℕ
  pub span : Span
  pub bytes : List ℕ

abbrev pub kept_at : Core → List ℕ → Kept
kept_at core stored = record {
  at = core.at;
  working = core.working;
  returns = core.returns;
  stored = stored;
  span = instruction_span core stored;
  bytes = span_bytes_at (instruction_span core stored) core.memory;
}

-- how many bytes of bank 0 are kept for a moment
abbrev pub byte_count : Kept → ℕ
byte_count kept = kept.span.count

-- the most moments and the most bytes of bank 0 that are kept
abbrev pub most_moments : ℕ
most_moments = MOST_MOMENTS

abbrev pub most_bytes : ℕ
most_bytes = MOST_HELD

-- the newest of these moments, where there is room for so many and so many bytes: moments are held from the newest on, until one more
-- is one too many, or its bytes are
unfoldable pub held_of : ℕ → ℕ → List Kept → List Kept
held_of zero room given = []
held_of (suc left) room [] = []
held_of (suc left) room (kept ∷ older) =
    if nat_le (byte_count kept) room then kept ∷ held_of left (room - byte_count kept) older else []

abbrev pub holding : List Kept → List Kept
holding given = held_of most_moments most_bytes given

-- the byte at an address before a moment's instruction, where it is this byte after it
abbrev pub byte_before : Kept → ℕ → ℕ → ℕ
byte_before kept at byte = if covers kept.span at then slice_index kept.bytes (distance_to kept.span at) else byte

-- the byte at an address before all these moments, the newest first, where it is this byte now: what the oldest of them holds that
-- covers the address
unfoldable pub byte_back : List Kept → ℕ → ℕ → ℕ
byte_back [] at byte = byte
byte_back (kept ∷ older) at byte = byte_back older at (byte_before kept at byte)
