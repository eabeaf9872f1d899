use Rattle.std.proofs.Common.{arith}
use Rattle.std.proofs.lemmas.Grind.{common_steps}
use Rattle.audio_mixer.proofs.voices.Playing.pass.Goals as goal
use Rattle.audio_mixer.proofs.Ages.{phase-passed}
use Rattle.audio_mixer.proofs.Passing.{place-without_end, age-passed, on-passed}

pub returns : goal.returns
returns c = grind (arith, common_steps, age-passed, on-passed, phase-passed, place-without_end)
