use Rattle.audio_mixer.proofs.Frames.{stopped-adds}
use Rattle.audio_mixer.proofs.Passing.{stopped-later}
use Rattle.audio_mixer.proofs.voices.Voice.add_frame.Goals as goal

pub returns-in_default-clause-adds : goal.returns-in_default-clause-adds
returns-in_default-clause-adds c = λ sound sounds shorts. stopped-adds c.args.memory.now c.args.self.now sound c.args.into.now c.told-into c.in_default.is sounds shorts

pub returns-in_default-clause-sounds : goal.returns-in_default-clause-sounds
returns-in_default-clause-sounds c = λ sound sounds. stopped-later c.args.self.now sound c.in_default.is sounds
