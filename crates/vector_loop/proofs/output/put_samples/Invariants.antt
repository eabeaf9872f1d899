use Rattle.vector_loop.proofs.Common.{map, sample_short, samples_bytes, take, ◌*◌, ◌≡◌}
use Rattle.vector_loop.proofs.output.put_samples.Given as goal

abbrev pub invariant-loop-i : goal.invariant-loop-i
invariant-loop-i l = take (2 * l.i) l.into ≡ samples_bytes (map sample_short (take l.i l.samples))
