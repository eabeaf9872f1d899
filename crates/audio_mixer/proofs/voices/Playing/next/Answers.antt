use Rattle.std.proofs.lemmas.Grind.{common_steps}
use Rattle.std.proofs.Common.{arith}
use Rattle.audio_mixer.proofs.voices.Playing.next.Goals as goal
use Rattle.audio_mixer.proofs.Overs.{gives-pair, not-ended, over-next}

pub returns-clause-some : goal.returns-clause-some
returns-clause-some c = grind (arith, common_steps, gives-pair, not-ended, over-next)

pub returns-in_default-clause-none : goal.returns-in_default-clause-none
returns-in_default-clause-none c = grind (arith, common_steps)
