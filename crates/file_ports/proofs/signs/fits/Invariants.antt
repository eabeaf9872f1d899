use Rattle.std.proofs.Common.{◌≡◌, ◌^◌, nat_lt}
use Rattle.file_ports.proofs.signs.fits.Given as goal

abbrev pub invariant-loop-rest : goal.invariant-loop-rest
invariant-loop-rest l = nat_lt l.rest (16 ^ l.left) ≡ nat_lt l.value (16 ^ l.count)

abbrev pub decreases-loop-rest : goal.decreases-loop-rest
decreases-loop-rest l = l.left
