-- The moments of a run are regular: a debugger keeps the log over them.
use Rattle.std.proofs.lemmas.Grind.{common_steps}
use Rattle.std.proofs.lemmas.List.{length-map}
use Rattle.std.proofs.lemmas.Option.{slice_get-map}
use Rattle.std.proofs.Common.{◌≡◌, ℕ, zero, suc, ◌+◌, ◌∙◌, List, [], ◌∷◌, map, Some, refl, ap, arith}
use Rattle.std.specs.Prelude.{fold, slice_get}
use Rattle.text_lines.specs.Scripts.{ScriptView}
use Rattle.uxn_undo.specs.Row.{IsMachine}
use Rattle.uxn_undo.specs.Runs.{given_at}
use Rattle.vector_loop.specs.Counted.{CountingLaw, AreCounted}
use Rattle.vector_loop.specs.Run.{run}
use Rattle.vector_loop.specs.State.{State}
use Rattle.vector_loop.specs.Watch.{shown_all}
unfoldable use Rattle.vector_loop.specs.Watch.{ports_stored}
use Rattle.vector_loop.specs.declared.output.Outputs.{Outputs}
use Rattle.uxn_debugger.specs.Log.{Shown, state_shown, moment_of_shown, IsRegular}
unfoldable use Rattle.uxn_debugger.specs.Log.{log_over}
use Rattle.uxn_debugger.specs.Watching.{Watching, shown, after_moment, KeepsTheLogOfRuns}
use Rattle.uxn_debugger.proofs.Earlier.{UndoLaws}
use Rattle.uxn_debugger.proofs.LogLaw.{keeps_the_log}

counted-at : (count : ℕ) (states : List State) → AreCounted count states → (index : ℕ) (s : Shown) → slice_get (map state_shown states) index ≡ Some s
    → s.moment.instructions ≡ count + index
counted-at count [] all index s is = absurd (cc)
counted-at count (state ∷ states) all zero s is = grind (arith, common_steps)
counted-at count (state ∷ states) all (suc index) s is = counted-at (count + 1) states all.1 index s is ∙ omega arith

address-at : (states : List State) (index : ℕ) (s : Shown) → slice_get (map state_shown states) index ≡ Some s → s.moment.address ≡ s.core.at
address-at = grind (arith, common_steps, slice_get-map)

given-all : (states : List State) → map moment_of_shown (map state_shown states) ≡ map given_at states
unfolding ports_stored
given-all [] = refl
given-all (state ∷ states) = ap (λ given. given_at state ∷ given) (given-all states)

-- a debugger is shown each state in turn
shown-fold : (states : List State) (held : Watching) → shown_all after_moment held states ≡ fold shown held (map state_shown states)
shown-fold [] held = refl
shown-fold (state ∷ states) held = shown-fold states (shown held (state_shown state))

module _ (laws : UndoLaws) (counting : CountingLaw) where
  is-regular : (budget : ℕ) (outputs : Outputs) (script : ScriptView) (state : State) → IsMachine state.core → state.tally.instructions ≡ 0
      → IsRegular (map state_shown (run budget outputs script state).moments) (state_shown (run budget outputs script state).last)
  is-regular = let in_row = laws.run.in_row in grind (arith, common_steps, counting, in_row, counted-at, address-at, length-map, given-all)

  pub keeps_the_log_of_runs : KeepsTheLogOfRuns
  unfolding log_over
  keeps_the_log_of_runs = grind (arith, common_steps, shown-fold, is-regular, keeps_the_log laws)
