use Rattle.std.proofs.Common.{arith, length}
use Rattle.std.proofs.lemmas.List.{length-drop, take_all}
use Rattle.std.proofs.lemmas.Slice.{between_to_end}
use Rattle.uxn_io_traits.specs.EndedLaws.{sink-as-it-was}
use Rattle.uxn_io_traits.proofs.PutLemmas.{put-then, put-stop}
use Rattle.uxn_io_traits.proofs.sinks.put_all.Goals as goal

pub loop-at-preserved : goal.loop-at-preserved
loop-at-preserved g c =
    let piece = c.args.piece.now in
    let rest = between_to_end piece c.loop-at.at (length piece) (omega arith) in
    record {
      within = omega (arith, simp (rest, length-drop) at c.in_ok-at.ensures.count);
      ended = put-then piece _ _ _ rest _ _ _ c.loop-at.invariant.ended c.in_ok-at.ensures.taken;
    }

pub loop-at-init : goal.loop-at-init
loop-at-init g c = record { within = omega arith; ended = sink-as-it-was _ }

pub returns : goal.returns
returns g c = record { ended = rw (take_all c.loop-at.at c.args.piece.now (omega arith)) at c.loop-at.invariant.ended }

pub returns-in_err-at : goal.returns-in_err-at
returns-in_err-at g c =
    let piece = c.args.piece.now in
    let rest = between_to_end piece c.loop-at.at (length piece) (omega arith) in
    record {
      ended = rw c.from_residual.ensures.0 (put-stop piece _ c.loop-at.at rest (omega arith) _ _ _ c.loop-at.invariant.ended c.in_err-at.ensures.failed);
    }
