use Rattle.std.specs.Prelude.{ℕ}
use Rattle.audio_mixer.proofs.voices.Playing.add_frame.Given as goal
use Rattle.audio_mixer.specs.Voices.{Plays}
use Rattle.audio_mixer.proofs.Frames.{IsAdded}

abbrev pub invariant-loop-place : goal.invariant-loop-place
invariant-loop-place l = (age : ℕ) → Plays l.fn.self l.fn.self.start age → IsAdded l.memory l.fn.self.start age l.place l.self l.fn.into l.into
