use Rattle.std.proofs.lemmas.Grind.{common_steps}
use Rattle.std.proofs.Common.{arith}
use Rattle.audio_mixer.proofs.voices.heard.Goals as goal

pub returns-then-byte-lt128 : goal.returns-then-byte-lt128
returns-then-byte-lt128 c = grind (arith, common_steps)

pub returns-else-byte-lt128 : goal.returns-else-byte-lt128
returns-else-byte-lt128 c = grind (arith, common_steps)
