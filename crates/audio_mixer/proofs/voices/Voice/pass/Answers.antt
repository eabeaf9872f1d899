use Rattle.audio_mixer.proofs.voices.Voice.pass.Goals as goal
use Rattle.audio_mixer.proofs.Passing.{stopped-later}

pub returns-in_default-clause-sounds : goal.returns-in_default-clause-sounds
returns-in_default-clause-sounds c = λ sound sounds. stopped-later c.args.self.now sound c.in_default.is sounds
