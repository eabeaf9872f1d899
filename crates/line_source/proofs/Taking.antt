-- A source that fails after bytes of a line were taken from it.
use Rattle.std.proofs.Common.{◌∙◌, ap, sym, ℕ, List, ◌++◌, Option, Some, None, true}
use Rattle.std.specs.Io.KnownBytes.{Consumes, Keeps}
use Rattle.uxn_io_traits.specs.FaultLaws.{counted-then}
use Rattle.line_source.specs.Lines.{IsOneLine, StoppedIn}
use Rattle.line_source.specs.Source.{SourceState, SourceFailed, Took}

consumed-kept : (a b c : Option (List ℕ)) (bytes : List ℕ) → Consumes a b bytes → Keeps b c → Consumes a c bytes
consumed-kept None b c bytes one kept = tt
consumed-kept (Some left) None c bytes one kept = absurd one
consumed-kept (Some left) (Some rest) None bytes one kept = absurd kept
consumed-kept (Some left) (Some rest) (Some still) bytes one kept = one ∙ ap (λ (later : List ℕ). bytes ++ later) (sym kept)

pub fails_within : (line : List ℕ) (a b c : SourceState) → IsOneLine line → Took line a b → SourceFailed b c → StoppedIn line true a c
fails_within line a b c plain took failed = record {
  left = consumed-kept a.left b.left c.left line took.left failed.left;
  counted = counted-then a.tally b.tally c.tally true took.counted failed.counted;
  plain = plain;
}
