use Rattle.vector_loop.proofs.Common.{arith, models_of, ◌-◌}
use Rattle.uxn_opcodes.specs.declared.Turn.{Turn}
use Rattle.vector_loop.proofs.Vectors.{along-end, along-ran, along-start, ran-broke, ran-cut, ran-refused, ran-stopped}
use Rattle.vector_loop.proofs.vector.run_instructions.Goals as goal

pub loop-core-init : goal.loop-core-init
loop-core-init g c = record { within = omega arith; along = rw c.registers-registers.ensures (along-start _ _ c.args.budget _ (omega arith)); some = c.requires.budget }

pub loop-core-preserved : goal.loop-core-preserved
loop-core-preserved g c =
    let inv = c.loop-core.invariant in
    record {
      within = omega (arith, inv.within);
      along = along-ran _ _ _ _ _ c.args.budget _ c.loop-core.left inv.along _ _ _ _ (c.loop-core.left - 1) (omega (arith, inv.within, inv.some))
          (omega (arith, inv.some)) c.in-Ok.ensures.ok (rw (c.in-Ok-Ran.field-0-is, c.in-Ok.ensures.core) at c.in-Ok-Ran.ensures.instruction)
          c.in-Ok-Ran.ensures.ledger;
      some = omega (arith, inv.some, c.if-left-eq0.false);
    }

pub returns-in_default-clause-ran : goal.returns-in_default-clause-ran
returns-in_default-clause-ran g c =
    rw (c.set_registers.ensures, c.in_default.ensures.core) (along-end _ _ _ _ _ c.args.budget _ c.loop-core.left c.loop-core.invariant.along _ _ _ _
    (ran-refused _ _ c.loop-core.left (c.loop-core.left - 1) (omega (arith, c.loop-core.invariant.some)) _ c.in_default.ensures.err))

pub returns-in-Ok-Broke-clause-ran : goal.returns-in-Ok-Broke-clause-ran
returns-in-Ok-Broke-clause-ran g c =
    rw c.set_registers-in-Ok-Broke.ensures (along-end _ _ _ _ _ c.args.budget _ c.loop-core.left c.loop-core.invariant.along _ _ _ _
    (ran-broke (models_of g.T.Tree g.O.Sink g.E.Sink g.W.Watcher) _ c.loop-core.left (c.loop-core.left - 1)
    (omega (arith, c.loop-core.invariant.some)) _ _ _ c.in-Ok.ensures.ok
    (rw (c.in-Ok-Broke.field-0-is, c.in-Ok.ensures.core) at c.in-Ok-Broke.ensures.instruction) c.in-Ok-Broke.ensures.ledger))

pub returns-in-Err-clause-ran : goal.returns-in-Err-clause-ran
returns-in-Err-clause-ran g c =
    rw c.set_registers-in-Err.ensures (along-end _ _ _ _ _ c.args.budget _ c.loop-core.left c.loop-core.invariant.along _ _ _ _
    (ran-stopped (models_of g.T.Tree g.O.Sink g.E.Sink g.W.Watcher) _ c.loop-core.left (c.loop-core.left - 1)
    (omega (arith, c.loop-core.invariant.some)) _ _ _ Turn _ c.in-Ok.ensures.ok
    (rw c.in-Ok.ensures.core at c.in-Err.ensures.instruction) c.in-Err.ensures.ledger))

pub returns-then-left-eq0-clause-ran : goal.returns-then-left-eq0-clause-ran
returns-then-left-eq0-clause-ran g c =
    let inv = c.loop-core.invariant in
    rw c.set_registers-then-left-eq0.ensures (along-end _ _ _ _ _ c.args.budget (c.args.budget - 0) 0 (along-ran _ _ _ _ _ c.args.budget _ c.loop-core.left inv.along _ _ _ _ 0
    (omega (arith, inv.within, inv.some, c.if-left-eq0.true)) (omega (arith, inv.some, c.if-left-eq0.true)) c.in-Ok.ensures.ok
    (rw (c.in-Ok-Ran.field-0-is, c.in-Ok.ensures.core) at c.in-Ok-Ran.ensures.instruction) c.in-Ok-Ran.ensures.ledger)
    _ _ _ _ (ran-cut _ _))
