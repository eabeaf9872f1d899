use Rattle.std.proofs.lemmas.Grind.{common_steps}
use Rattle.std.proofs.Common.{arith}
use Rattle.audio_mixer.proofs.voices.Playing.new.Goals as goal
use Rattle.audio_mixer.proofs.Ages.{rest-none, place-none}

pub returns-clause-plays : goal.returns-clause-plays
returns-clause-plays c = grind (arith, common_steps, place-none, rest-none)
