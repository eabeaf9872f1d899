use Rattle.std.proofs.Common.{arith, length, ◌∙◌}
use Rattle.std.proofs.lemmas.List.{length-drop}
use Rattle.std.proofs.lemmas.Slice.{between_to_end}
use Rattle.uxn_io_traits.specs.CallLaws.{appended-then, appended-stop, still_file}
use Rattle.uxn_io_traits.proofs.trees.append_all.Goals as goal

pub append-requires : goal.append-requires
append-requires g c = still_file c.args.path.now _ _ _ c.loop-at.invariant.ended c.requires

pub loop-at-preserved : goal.loop-at-preserved
loop-at-preserved g c =
    let piece = c.args.piece.now in
    let rest = between_to_end piece c.loop-at.at (length piece) (omega arith) in
    record {
      within = omega (arith, simp (rest, length-drop) at c.in_ok-at.ensures.count);
      ended = appended-then c.args.path.now piece _ _ _ _ _ c.loop-at.invariant.ended (rw rest at c.in_ok-at.ensures.ended);
      refused = λ exact. c.in_ok-at.ensures.refused (c.loop-at.invariant.ended.counted.promise ∙ exact) ∙ c.loop-at.invariant.refused exact;
    }

pub returns-in_err-at-clause-ended : goal.returns-in_err-at-clause-ended
returns-in_err-at-clause-ended g c =
    let piece = c.args.piece.now in
    let rest = between_to_end piece c.loop-at.at (length piece) (omega arith) in
    rw c.from_residual.ensures.0 (appended-stop c.args.path.now piece _ _ _ _ c.loop-at.invariant.ended (rw rest at c.in_err-at.ensures.ended))
