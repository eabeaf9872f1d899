use Rattle.uxn_line.proofs.Common.{refl, sym, ◌∙◌}
use Rattle.uxn_line.proofs.Ending.{reach-none, reach-then, turn-reaches, move-still, works-more}
use Rattle.uxn_line.proofs.line.Line.move_on.Goals as goal

pub moves-init : goal.moves-init
moves-init g c = record { went = reach-none _ _; works = refl; machines = refl }

pub moves-preserved : goal.moves-preserved
moves-preserved g c =
    let turn = c.in_ok-turn_at.ensures in
    let moves = c.moves.invariant in
    let is = sym c.is_move.ensures ∙ c.if-is_move.true in
    record {
      went = reach-then _ _ _ _ _ _ moves.went (turn-reaches c.args.index _ _ _ _ _ turn);
      works = works-more c.moves.moved c.args.self.now c.moves.self c.turn_at.new.self moves.works (rw is at turn.came.works);
      machines = turn.came.machines ∙ moves.machines;
    }

pub returns-clause-moved : goal.returns-clause-moved
returns-clause-moved g c =
    let turn = c.in_ok-turn_at.ensures in
    let moves = c.moves.invariant in
    let is = sym c.is_move.ensures ∙ c.if-is_move.false in
    let same = rw is at turn.came.works in
    record {
      reaches = reach-then _ _ _ _ _ _ moves.went (turn-reaches c.args.index _ _ _ _ _ turn);
      still = rw same (move-still c.moves.self c.args.index _ is turn.came.cause);
      works = rw same moves.works;
      machines = turn.came.machines ∙ moves.machines;
    }
