-- Commands of which none goes back leave the same log where no moment is kept.
use Rattle.std.proofs.Common.{◌≡◌, false, List, [], ◌∷◌, Option, inl, inr, refl, sym, ap, arith, rules}
use Rattle.std.specs.Prelude.{fold}
use Rattle.std.specs.List.{list_any}
use Rattle.std.proofs.lemmas.Bool.{cases_Bool, false≢true}
use Rattle.uxn_debugger.specs.declared.command.DebugCommand.{DebugCommand}
use Rattle.uxn_debugger.specs.declared.command.DebugCommand.TheVariants.{Step, Back}
use Rattle.uxn_debugger.specs.declared.place.Place.{Place}
use Rattle.uxn_debugger.specs.declared.place.Goal.{Goal}
use Rattle.uxn_debugger.specs.Printing.{MomentView}
use Rattle.uxn_debugger.specs.Log.{Shown, before, at_end}
use Rattle.uxn_debugger.specs.Watching.{Watching, is_back, next_stop, goal_of, unless_it_goes, done, with_arrival, arrived, is_awaited, is_nothing}
use Rattle.uxn_debugger.specs.Watching.{with_kept, shown, ended}

-- a debugger that keeps no moment
abbrev without_moments : Watching → Watching
without_moments held = record held { goes_back = false; undo = [] }

-- it holds the same beside the moments, and no command that is left goes back
record IsSame (one two : Watching) : Type 0 where
  same : one ≡ without_moments two
  none : list_any is_back two.commands ≡ false

-- the moment that is shown is not read from what is kept
same_goal : (held : Watching) (place : Place) (command : DebugCommand) → goal_of (without_moments held) place 0 command ≡ goal_of held place 0 command
unfolding next_stop
same_goal = search (arith, rules)

goes_or_not : (first goal : Option Goal) (rest : List DebugCommand) (held one two : Watching) → first ≡ goal → list_any is_back rest ≡ false → IsSame one two
    → IsSame (unless_it_goes first rest (without_moments held) one) (unless_it_goes goal rest held two)
goes_or_not = search (arith, rules)

all_done : (now : MomentView) (commands : List DebugCommand) (held : Watching) → list_any is_back commands ≡ false
    → IsSame (done now 0 commands (without_moments held)) (done now 0 commands held)
unfolding done next_stop
all_done now [] held none = record { same = refl; none = refl }
all_done now (Step count ∷ rest) held none = search (arith, rules, goes_or_not, same_goal, all_done now rest)
all_done now (Back count ∷ rest) held none = absurd (false≢true (sym none))
all_done now (command ∷ rest) held none = search (arith, rules, goes_or_not, same_goal, all_done now rest)

-- a moment is shown
with_same : (s : Shown) (one two : Watching) → IsSame one two → IsSame (with_kept s one) (with_kept s two)
with_same s one two is = record { same = ap (with_kept s) is.same; none = is.none }

one_shown : (s : Shown) (held : Watching) → list_any is_back held.commands ≡ false → IsSame (shown (without_moments held) s) (shown held s)
unfolding shown arrived
one_shown s held none = elim (cases_Bool (is_awaited held.goal held.breaks s.moment.address)) [
  | inl awaited ↦ rw awaited (with_same s _ _ (all_done (before s) held.commands (with_arrival (before s) held) none))
  | inr other ↦ rw other (record { same = refl; none = none })
]

all_shown : (left : List Shown) (one two : Watching) → IsSame one two → IsSame (fold shown one left) (fold shown two left)
all_shown [] one two is = is
all_shown (s ∷ left) one two is = all_shown left (shown one s) (shown two s) (rw is.same (one_shown s two is.none))

-- and the end
end_shown : (end : Shown) (held : Watching) → list_any is_back held.commands ≡ false → (ended (without_moments held) end).log ≡ (ended held end).log
unfolding ended arrived
end_shown end held none = elim (cases_Bool (is_nothing held.goal)) [
  | inl nothing ↦ rw nothing refl
  | inr some ↦ rw some (ap (λ (w : Watching). w.log) (all_done (at_end end) held.commands (with_arrival (at_end end) held) none).same)
]

pub log_without : (moments : List Shown) (end : Shown) (held : Watching) → list_any is_back held.commands ≡ false
    → (ended (fold shown (without_moments held) moments) end).log ≡ (ended (fold shown held moments) end).log
log_without = search (arith, rules, all_shown, end_shown)
