use Rattle.tal_rom.proofs.Common.{◌≡◌, ℕ, ◌*◌, ◌+◌, List, length, refl, ap, arith, length-replicate, replicate-append-replicate}
use Rattle.tal_rom.proofs.Trimming.{zeros_read}
use Rattle.tal_rom.proofs.patch.zeros.Goals as goal

pub loop-preserved : goal.loop-preserved
loop-preserved c =
    let next : 256 * c.loop.counter + 256 ≡ 256 * (c.loop.counter + 1) = omega arith in
    rw (c.in_ok-extend_from_slice.ensures.items, c.loop.invariant, replicate-append-replicate, next) refl

pub returns-clause-size : goal.returns-clause-size
returns-clause-size c =
    omega (arith, ap (λ (bytes : List ℕ). length bytes) c.loop.invariant, length-replicate {A = ℕ} (256 * c.loop.counter) 0)

pub returns-clause-each : goal.returns-clause-each
returns-clause-each c at = rw c.loop.invariant (zeros_read (256 * c.loop.counter) at)
