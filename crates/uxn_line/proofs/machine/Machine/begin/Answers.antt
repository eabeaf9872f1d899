use Rattle.uxn_line.proofs.Common.{◌≡◌, ◌==◌, true, false, refl, ap, ◌∙◌, arith, nat_tests, Core, stored_short}
use Rattle.uxn_limits.specs.declared.ports.TheConstants.{CONSOLE_VECTOR}
use Rattle.vector_loop.specs.Places.{vector_begins}
use Rattle.uxn_line.proofs.machine.Machine.begin.Goals as goal

pub returns-then-address-ne0-clause-begins : goal.returns-then-address-ne0-clause-begins
unfolding vector_begins
returns-then-address-ne0-clause-begins c held done later same rests is =
    let some : (stored_short held.devices.history CONSOLE_VECTOR == 0) ≡ false = grind (arith, nat_tests, is, c.if-address-ne0.true) in
    rw some (record {
      core = ap (λ (core : Core). record core { at = c.args.address }) same ∙ ap (λ at. record held.core { at = at }) is;
      devices = rests;
      left = refl;
    })

pub returns-else-address-ne0-clause-begins : goal.returns-else-address-ne0-clause-begins
unfolding vector_begins
returns-else-address-ne0-clause-begins c held done later same rests is =
    let none : (stored_short held.devices.history CONSOLE_VECTOR == 0) ≡ true = grind (arith, nat_tests, is, c.if-address-ne0.false) in
    rw none (record { core = same; devices = rests; left = c.requires })
