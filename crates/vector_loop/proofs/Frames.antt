-- What is shown and heard in a frame.
use Rattle.vector_loop.proofs.Common.{List, None, Option, Outputs, State, Trace, appended_to, ended_vectors, false, followed_by, heard}
use Rattle.vector_loop.proofs.Common.{makes, map, picture_bytes, sample_short, samples_bytes, with_rendered, ℕ, ◌≡◌, arith, rules}
use Rattle.std.proofs.Common.{Bool, is_some}
use Rattle.std.specs.Prelude.{ℤ}
use Rattle.audio_mixer.specs.Sounds.{endings, frame_of}
use Rattle.audio_mixer.specs.Laws.{kept_frame}

-- these samples are kept
abbrev pub kept : Outputs → List ℤ → State → Trace
kept outputs samples state = makes (appended_to outputs.samples (samples_bytes (map sample_short samples))) state

-- what is heard, by the samples that were rendered and the voices that ended
pub heard-as : (budget : ℕ) (outputs : Outputs) (state : State) (samples : List ℤ) (ended : List Bool)
    → samples ≡ frame_of state.core.memory state.devices.sounds → ended ≡ endings 735 state.devices.sounds
    → heard budget outputs state ≡ followed_by (kept outputs samples (with_rendered state)) (ended_vectors budget ended)
unfolding heard
heard-as = search (arith, rules, kept_frame)

-- the picture that is shown is kept
abbrev pub pictured : Outputs → State → Trace
pictured outputs state = makes (appended_to outputs.frames (picture_bytes state.devices)) state

pub none-is : (path : Option (List ℕ)) → is_some path ≡ false → path ≡ None
none-is = search (arith, rules)
