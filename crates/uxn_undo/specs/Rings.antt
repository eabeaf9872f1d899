-- How the moments lie in two rings: records, and the bytes of bank 0 that they keep, both the newest first.
use Rattle.std.specs.Prelude.{◌≡◌, ℕ, ◌≤◌, List, [], ◌∷◌, length, take, drop, sum_by}
use Rattle.circular_buffer.specs.Buffer.{Buffer}
use Rattle.uxn_undo.specs.declared.row.Row.{Row}
use Rattle.uxn_undo.specs.declared.undo.Record.{Record}
use Rattle.uxn_undo.specs.Kept.{Kept, most_moments, most_bytes}
use Rattle.uxn_undo.specs.Slots.{row_of}

-- a record with its row and its bytes
abbrev pub moment_of : Record → Row → List ℕ → Kept
moment_of entry row bytes = record {
  at = entry.at;
  working = row.working;
  returns = row.returns;
  stored = row.stored;
  span = entry.span;
  bytes = bytes;
}

abbrev pub entry_count : Record → ℕ
entry_count entry = entry.span.count

-- each record with the row in its slot, and with as many bytes as it has addresses
unfoldable pub moments_in : List Row → List Record → List ℕ → List Kept
moments_in rows [] bytes = []
moments_in rows (newest ∷ older) bytes =
    moment_of newest (row_of rows newest) (take (entry_count newest) bytes) ∷ moments_in rows older (drop (entry_count newest) bytes)

-- the two rings hold the same moments
pub record AreRings (records : Buffer Record) (bytes : Buffer ℕ) : Type 0 where
  pub moments : records.capacity ≡ most_moments
  pub room : bytes.capacity ≡ most_bytes
  pub few : length records.items ≤ most_moments
  pub small : length bytes.items ≤ most_bytes
  pub filled : length bytes.items ≡ sum_by entry_count records.items
