use Rattle.std.proofs.Common.{arith}
use Rattle.std.proofs.lemmas.Grind.{common_steps}
use Rattle.audio_mixer.proofs.voices.Playing.place_ahead.Goals as goal
use Rattle.audio_mixer.proofs.Ages.{wrapped-small}

pub returns-then-place-self-clause-some : goal.returns-then-place-self-clause-some
returns-then-place-self-clause-some c = grind (arith, common_steps, wrapped-small)
