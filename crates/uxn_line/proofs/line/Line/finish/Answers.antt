use Rattle.uxn_line.proofs.Common.{◌≡◌, ◌≤◌, rules, arith, length, Err}
use Rattle.uxn_line.proofs.Ending.{reach-none, reach-then, reach-stops, way-on, way-stops, still-finishes, finish-put}
use Rattle.uxn_line.proofs.line.Line.finish.Goals as goal
use borrow.Author.Count.{below_more}

pub machines-init : goal.machines-init
machines-init g c = record { went = reach-none _ _; still = λ machine within. absurd (omega arith) }

pub returns-in_err-move_on-clause-stops : goal.returns-in_err-move_on-clause-stops
returns-in_err-move_on-clause-stops g c =
    let result : c.from_residual.result ≡ Err c.in_err-move_on.field-0.0 = search rules in
    rw result (reach-stops _ _ _ _ _ _ c.machines.invariant.went c.in_err-move_on.ensures.stops)

pub returns-in_err-move_on-clause-put : goal.returns-in_err-move_on-clause-put
returns-in_err-move_on-clause-put g c =
    let result : c.from_residual.result ≡ Err c.in_err-move_on.field-0.0 = search rules in
    rw result (λ job begun way. way-stops job begun _ _ _ _ (way-on job begun _ _ _ _ way c.machines.invariant.went)
    c.in_err-move_on.ensures.stops)

pub machines-preserved-then-branch : goal.machines-preserved-then-branch
machines-preserved-then-branch g c = record {
  went = reach-then _ _ _ _ _ _ c.machines.invariant.went c.in_ok-move_on.ensures.moved.reaches;
  still = λ machine within. absurd (omega arith);
}

pub machines-preserved : goal.machines-preserved
machines-preserved g c =
    let moved = c.in_ok-move_on.ensures.moved in
    let same = rw c.if-branch.false at moved.works in
    record {
      went = reach-then _ _ _ _ _ _ c.machines.invariant.went moved.reaches;
      still = below_more _ c.machines.index (rw same c.machines.invariant.still) moved.still;
    }

pub returns : goal.returns
returns g c =
    let machines = c.machines.invariant in
    let past : length c.machines.self.members.items ≤ c.machines.index =
    omega (arith, c.machines-test.false, c.len.ensures, c.machines.self.members.ok.0) in
    let done = still-finishes c.args.self.now c.machines.self _ _ c.exit_code.result machines.went
    (λ machine within. machines.still machine (omega arith)) c.exit_code.ensures in
    record {
      finishes = done;
      stops = tt;
      put = λ job begun way. finish-put job begun _ _ _ _ c.exit_code.result way done;
      code = λ job begun way. (done.over job way.turned way.stands).code_is;
    }
