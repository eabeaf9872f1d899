-- What contracts see of a source of bytes.
use Rattle.std.specs.Prelude.{◌≡◌, ℕ, true, false, List, [], ◌∷◌, Option, Some, None}
use Rattle.std.specs.Io.KnownBytes.{Consumes, IsAtEnd, Keeps}
use Rattle.uxn_io_traits.specs.Faults.{FaultTally, Counted}

-- the bytes that are left, where they are known, and what the source counts
pub record SourceState : Type 0 where
  pub left : Option (List ℕ)
  pub tally : FaultTally

-- the bytes of an answer
abbrev pub bytes_of : Option ℕ → List ℕ
bytes_of None = []
bytes_of (Some byte) = byte ∷ []

-- these bytes were taken from its start, and no call failed
pub record Took (bytes : List ℕ) (before now : SourceState) : Type 0 where
  pub left : Consumes before.left now.left bytes
  pub counted : Counted before.tally now.tally false

-- it gave a byte, or none at its end
pub record Gave (byte : Option ℕ) (before now : SourceState) : Type 0 where
  pub took : Took (bytes_of byte) before now
  pub end : byte ≡ None → IsAtEnd now.left

-- it failed, and gave nothing
pub record SourceFailed (before now : SourceState) : Type 0 where
  pub left : Keeps before.left now.left
  pub counted : Counted before.tally now.tally true
