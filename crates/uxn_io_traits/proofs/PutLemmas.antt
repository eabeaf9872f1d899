-- A piece that is put part by part.
use Rattle.std.proofs.Common.{◌≡◌, ℕ, ◌+◌, ◌<◌, true, false, List, ◌++◌, length, take, drop, refl, ap, sym, subst, ◌∙◌, arith}
use Rattle.std.proofs.Math.Seq.{take-add}
use Rattle.std.proofs.lemmas.Bool.{true≢false}
use Rattle.std.proofs.lemmas.List.{length-drop, length-take}
use Rattle.uxn_io_traits.specs.FaultLaws.{counted-then}
use Rattle.uxn_io_traits.specs.Ended.{SinkEnded, SinkFailed}
use Rattle.uxn_io_traits.specs.EndedLaws.{sink-then}
use Rattle.uxn_io_traits.specs.State.{SinkState}

-- a prefix of the piece was put, and then a prefix of the rest
pub put-then : (piece rest : List ℕ) (at count : ℕ) → rest ≡ drop at piece → (a b c : SinkState) → SinkEnded (take at piece) false a b
    → SinkEnded (take count rest) false b c → SinkEnded (take (at + count) piece) false a c
put-then piece rest at count is a b c p q =
    subst (λ bytes. SinkEnded bytes false a c) (ap (λ (z : List ℕ). take at piece ++ take count z) is ∙ sym (take-add at count piece))
    (sink-then (take at piece) (take count rest) false a b c p q)

-- a prefix of the piece was put, and none of the rest
pub put-stop : (piece rest : List ℕ) (at : ℕ) → rest ≡ drop at piece → at < length piece → (a b c : SinkState) → SinkEnded (take at piece) false a b
    → SinkFailed rest b c → SinkEnded piece true a c
put-stop piece rest at is some a b c p q = record {
  holds = record { count = at; within = some; taken = q.contents ∙ p.holds };
  counted = counted-then a.tally b.tally c.tally true p.counted q.counted;
  blamed = λ _ room. q.blamed (rw is (omega (arith, p.left refl, room, length-drop at piece, length-take at piece)));
  left = λ no. absurd (true≢false no);
}
