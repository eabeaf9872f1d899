use Rattle.std.proofs.Common.{◌∙◌}
use Rattle.audio_mixer.proofs.voices.Playing.loudness.Goals as goal
use Rattle.audio_mixer.proofs.Ages.{loudness-kept-of}

pub returns-clause-value : goal.returns-clause-value
returns-clause-value c = λ age plays. c.at.ensures.value ∙ loudness-kept-of c.args.self.now age plays
