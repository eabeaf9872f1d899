-- A frame in which no note ends and of which no samples are requested runs nothing and changes nothing outside.
use Rattle.std.specs.Prelude.{◌≡◌, ℕ, Bool, true, false, List, [], ◌∷◌, None, slice_index_or}
use Rattle.std.proofs.Common.{cond, refl, ap, ◌∙◌}
use Rattle.audio_mixer.specs.Sounds.{frame_of, endings}
use Rattle.vector_loop.specs.declared.output.Outputs.{Outputs}
use Rattle.vector_loop.specs.State.{State, with_rendered, is_over}
use Rattle.vector_loop.specs.Trace.{Trace, stays, makes, followed_by}
use Rattle.vector_loop.specs.Event.{unless_over, give_each, vector_where, ended_vectors, heard}
use Rattle.vector_loop.specs.Outputs.{appended_to, samples_bytes}

-- one thing is given that does nothing, and then the others
skipped : {X : Type 0} (given : X → State → Trace) (item : X) (items : List X) (state : State) → given item state ≡ stays state
    → give_each given items state ≡ stays state → give_each given (item ∷ items) state ≡ stays state
unfolding give_each unless_over
skipped given item items state one more = go (is_over state)
  where
    go : (b : Bool) → followed_by (cond b (stays state) (given item state)) (give_each given items) ≡ stays state
    go true = more
    go false = ap (λ (first : Trace). followed_by first (give_each given items)) one ∙ more

-- where no note has ended no vector of a voice is run
no-vectors : (budget : ℕ) (state : State) → ended_vectors budget (false ∷ false ∷ false ∷ false ∷ []) state ≡ stays state
unfolding give_each
no-vectors budget state =
    let none : List Bool = false ∷ false ∷ false ∷ false ∷ [] in
    let given : ℕ → State → Trace = λ voice. vector_where budget (slice_index_or none voice false) voice in
    skipped given 0 (1 ∷ 2 ∷ 3 ∷ []) state refl (skipped given 1 (2 ∷ 3 ∷ []) state refl
    (skipped given 2 (3 ∷ []) state refl (skipped given 3 [] state refl refl)))

abbrev pub SilenceLaw : Type 0
SilenceLaw = (budget : ℕ) (outputs : Outputs) (state : State) → outputs.samples ≡ None
    → endings 735 state.devices.sounds ≡ false ∷ false ∷ false ∷ false ∷ [] → heard budget outputs state ≡ stays (with_rendered state)

pub silent : SilenceLaw
unfolding heard
silent budget outputs state none ends =
    ap (λ samples. followed_by (makes (appended_to samples (samples_bytes (frame_of state.core.memory state.devices.sounds))) (with_rendered state))
    (ended_vectors budget (endings 735 state.devices.sounds))) none
    ∙ ap (λ ended. ended_vectors budget ended (with_rendered state)) ends
    ∙ no-vectors budget (with_rendered state)
