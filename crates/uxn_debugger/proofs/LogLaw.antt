-- A debugger that is shown a run moment by moment keeps the log of the whole run.
use Rattle.std.proofs.lemmas.Grind.{common_steps}
use Rattle.std.proofs.Common.{rules}
use Rattle.std.proofs.Common.{◌≡◌, ℕ, ◌+◌, ◌-◌, ◌<◌, ◌≤◌, Bool, true, false, List, [], ◌∷◌, ◌++◌, length, drop, Option, Some, None, ◌⊎◌, inl, inr, refl, sym, ap, ◌∙◌, arith}
use Rattle.std.specs.Prelude.{fold, min, max, nat_le}
use Rattle.std.specs.List.{position_or_len, list_any}
use Rattle.std.proofs.lemmas.Bool.{cases_Bool}
use Rattle.std.proofs.lemmas.Bool.Decides.{nat_tests}
use Rattle.std.proofs.lemmas.List.{length-drop}
use Rattle.tal_words.specs.declared.name.Label.{Label}
use Rattle.uxn_undo.specs.Kept.{Kept}
use Rattle.uxn_debugger.specs.declared.command.DebugCommand.{DebugCommand}
use Rattle.uxn_debugger.specs.declared.command.DebugCommand.TheVariants.{Run, Step, Back}
use Rattle.uxn_debugger.specs.declared.place.Place.{Place}
use Rattle.uxn_debugger.specs.declared.place.Place.TheVariants.{Before, End}
use Rattle.uxn_debugger.specs.declared.place.Goal.{Goal}
use Rattle.uxn_debugger.specs.declared.place.Goal.TheVariants.{FirstMoment, MomentAfter, BreakAddress, Nothing}
use Rattle.uxn_debugger.specs.Printing.{MomentView, printed}
use Rattle.uxn_debugger.specs.Log.{Shown, before, at_end, AddressSet, IsRegular, no_breaks, breaks_after, Stand, view_at, reach, index_after, stand_at, after_command, log_of}
use Rattle.uxn_debugger.specs.Watching.{Watching, is_back, new_watching, observed_back, next_stop, back_after, unless_stopped, goal_of, obeyed, done, unless_it_goes, arrival, arrived, is_awaited, goal_later, with_kept, shown, ended, KeepsTheLog}
use Rattle.uxn_debugger.proofs.Obeying.{done-none, done-more}
use Rattle.uxn_debugger.proofs.Forward.{log_without}
use Rattle.uxn_debugger.proofs.Places.{within, drop_next}
use Rattle.uxn_debugger.proofs.Earlier.{UndoLaws, undo_at, held_within, keeps, sees_back, now_before, now_at_end, comes_before, comes_at_end}
use Rattle.uxn_debugger.proofs.Turns.{met_behind, IsFound, Finds, finds_before, finds_at_end}

-- something is waited for
abbrev IsWaiting : Goal → Type 0
IsWaiting Nothing = ⊥
IsWaiting _ = Unit {0}

module _ (labels : List Label) (moments : List Shown) (end : Shown) where
  -- what a debugger holds that was shown so many moments
  abbrev holding : ℕ → List DebugCommand → Goal → AddressSet → List ℕ → Watching
  holding i commands goal breaks log = record {
    commands = commands;
    labels = labels;
    goal = goal;
    breaks = breaks;
    log = log;
    goes_back = true;
    undo = undo_at labels moments end i;
  }

  -- the log at the end, of one that is shown these moments and the end
  abbrev log_at_end : Watching → List Shown → List ℕ
  log_at_end held left = (ended (fold shown held left) end).log

  -- the log of commands from a stand on
  abbrev log_from : Stand → List DebugCommand → List ℕ
  log_from stand commands = (fold (after_command labels moments end) stand commands).log

  abbrev standing : ℕ → ℕ → AddressSet → List ℕ → Stand
  standing index furthest breaks log = record { index = index; furthest = furthest; breaks = breaks; log = log }

  -- so far back from the moment that is shown
  abbrev standing_back : ℕ → ℕ → AddressSet → List ℕ → Stand
  standing_back i back breaks log = standing (i - back) i breaks log

  -- the index at which that is met which is waited for from an index on, where these moments are left
  abbrev met_at : Goal → AddressSet → ℕ → List Shown → ℕ
  met_at FirstMoment breaks i left = i
  met_at (MomentAfter n) breaks i left = min (i + n) (length moments)
  met_at BreakAddress breaks i left = min (i + position_or_len (λ s. breaks s.moment.address) left) (length moments)
  met_at Nothing breaks i left = length moments

  abbrev met : Goal → AddressSet → List ℕ → ℕ → Stand
  met goal breaks log index = standing index index breaks (log ++ arrival goal labels (view_at labels moments end index index))

  -- what is to be shown: the log at the end is that of the commands from where the goal is met
  abbrev Comes : ℕ → List Shown → Type 0
  Comes i left = (commands : List DebugCommand) (goal : Goal) (breaks : AddressSet) (log : List ℕ) → IsWaiting goal
      → log_at_end (holding i commands goal breaks log) left ≡ log_from (met goal breaks log (met_at goal breaks i left)) commands

  after-is : (stand : Stand) (command : DebugCommand) → after_command labels moments end stand command
      ≡ stand_at labels moments end (index_after labels moments end command stand) (max stand.furthest (index_after labels moments end command stand)) stand command
  unfolding after_command
  after-is stand command = refl

  -- nothing is done where no command is left
  nothing-later : (held : Watching) (left : List Shown) → log_at_end (record held { goal = Nothing }) left ≡ held.log
  unfolding shown ended
  nothing-later held [] = refl
  nothing-later held (s ∷ left) = nothing-later (with_kept s held) left

  module _ (laws : UndoLaws) (regular : IsRegular moments end) where
    -- so many moments can be gone back
    reaches : (i back : ℕ) (breaks : AddressSet) (log : List ℕ) → i ≤ length moments → back ≤ length (undo_at labels moments end i)
        → reach labels moments end (standing_back i back breaks log) ≡ length (undo_at labels moments end i) - back
    reaches = grind (arith, common_steps)

    -- a command that waits for nothing is done as the log says
    record Stays (i : ℕ) (place : Place) (back : ℕ) (command : DebugCommand) (breaks : AddressSet) (log : List ℕ) (held : Watching) : Type 0 where
      none : goal_of held place back command ≡ None
      index : index_after labels moments end command (standing_back i back breaks log) ≡ i - back_after held place back command
      under : back_after held place back command ≤ length (undo_at labels moments end i)

    -- one that goes on leaves the rest to what comes
    record Goes (finish : Watching → List ℕ) (place : Place) (back : ℕ) (command : DebugCommand) (rest : List DebugCommand) (stand : Stand) (held : Watching)
        : Type 0 where
      goal : Goal
      some : goal_of held place back command ≡ Some goal
      later : finish (record held { commands = rest; goal = goal }) ≡ log_from (after_command labels moments end stand command) rest

    abbrev Turn : (Watching → List ℕ) → ℕ → Place → Type 0
    Turn finish i place = (command : DebugCommand) (rest waiting : List DebugCommand) (back : ℕ) (goal : Goal) (breaks : AddressSet) (log : List ℕ)
        → back ≤ length (undo_at labels moments end i)
        → Stays i place back command breaks log (holding i waiting goal breaks log)
        ⊎ Goes finish place back command rest (standing_back i back breaks log) (holding i waiting goal breaks log)

    -- what is observed so far back
    abbrev Sees : ℕ → MomentView → Type 0
    Sees i now = (back : ℕ) → back ≤ length (undo_at labels moments end i)
        → observed_back now (undo_at labels moments end i) back ≡ view_at labels moments end i (i - back)

    stays_so : (i : ℕ) (now : MomentView) (back : ℕ) (command : DebugCommand) (waiting : List DebugCommand) (goal : Goal) (breaks : AddressSet) (log : List ℕ)
        → i ≤ length moments → Sees i now → back ≤ length (undo_at labels moments end i)
        → Stays i now.place back command breaks log (holding i waiting goal breaks log)
        → after_command labels moments end (standing_back i back breaks log) command
        ≡ standing_back i (back_after (holding i waiting goal breaks log) now.place back command) (breaks_after command breaks)
        (log ++ printed labels (length (undo_at labels moments end i) - back)
        (observed_back now (undo_at labels moments end i) (back_after (holding i waiting goal breaks log) now.place back command)) command)
    stays_so = grind (arith, common_steps, after-is, reaches, undo_at)

    -- all commands at a moment, or at the end
    done-all : (finish : Watching → List ℕ) (i : ℕ) (now : MomentView) → i ≤ length moments → Sees i now → Turn finish i now.place
        → ((held : Watching) → finish (record held { commands = []; goal = Nothing }) ≡ held.log)
        → (commands waiting : List DebugCommand) (back : ℕ) (goal : Goal) (breaks : AddressSet) (log : List ℕ) → back ≤ length (undo_at labels moments end i)
        → finish (done now back commands (holding i waiting goal breaks log)) ≡ log_from (standing_back i back breaks log) commands
    done-all finish i now le sees turn ends [] waiting back goal breaks log under = search (arith, rules, done-none)
    done-all finish i now le sees turn ends (command ∷ rest) waiting back goal breaks log under =
        let held = holding i waiting goal breaks log in
        let there = back_after held now.place back command in
        let others = done now there rest (obeyed now back command held) in
        ap finish (done-more now back command rest held)
        ∙ elim (turn command rest waiting back goal breaks log under) [
          | inl stays ↦
              ap (λ g. finish (unless_it_goes g rest held others)) stays.none
              ∙ done-all finish i now le sees turn ends rest waiting there goal (breaks_after command breaks)
              (log ++ printed labels (length (undo_at labels moments end i) - back) (observed_back now (undo_at labels moments end i) there) command) stays.under
              ∙ sym (ap (λ stand. log_from stand rest) (stays_so i now back command waiting goal breaks log le sees under stays))
          | inr goes ↦ ap (λ g. finish (unless_it_goes g rest held others)) goes.some ∙ goes.later
        ]

    -- `run` at a moment that was found
    run_found : (i : ℕ) (place : Place) (back stop : ℕ) (breaks : AddressSet) (log : List ℕ) → i ≤ length moments
        → back ≤ length (undo_at labels moments end i)
        → IsFound labels moments end laws regular i breaks place back stop
        → index_after labels moments end Run (standing_back i back breaks log) ≡ i - stop
    run_found = grind (arith, common_steps)

    -- `back`, as far as moments are held
    stays_back : (i : ℕ) (place : Place) (back count : ℕ) (waiting : List DebugCommand) (goal : Goal) (breaks : AddressSet) (log : List ℕ)
        → i ≤ length moments → back ≤ length (undo_at labels moments end i) → goal_of (holding i waiting goal breaks log) place back (Back count) ≡ None
        → Stays i place back (Back count) breaks log (holding i waiting goal breaks log)
    stays_back = search (arith, rules)

    -- `step` among moments that were shown
    step_index : (i back count : ℕ) → i ≤ length moments → back ≤ i → count ≤ back → min (i - back + count) (length moments) ≡ i - (back - count)
    step_index i back count le under within = omega arith

    module _ (i : ℕ) (s : Shown) (left : List Shown) (is : drop i moments ≡ s ∷ left) (next : Comes (i + 1) left) where
      -- what is done at a moment, which is then kept
      abbrev finish : Watching → List ℕ
      finish held = log_at_end (with_kept s held) left

      le : i ≤ length moments
      le = omega (arith, within moments i s left is)

      goes_on : (command : DebugCommand) (rest waiting : List DebugCommand) (back : ℕ) (goal then : Goal) (breaks : AddressSet) (log : List ℕ)
          → goal_of (holding i waiting goal breaks log) (Before s.moment) back command ≡ Some then → IsWaiting then → breaks_after command breaks ≡ breaks
          → index_after labels moments end command (standing_back i back breaks log) ≡ met_at then breaks (i + 1) left
          → i ≤ met_at then breaks (i + 1) left
          → ((n : ℕ) (view : MomentView) → printed labels n view command ≡ arrival then labels view)
          → Goes finish (Before s.moment) back command rest (standing_back i back breaks log) (holding i waiting goal breaks log)
      goes_on command rest waiting back goal then breaks log some waits same index later prints =
          let stand = standing_back i back breaks log in
          let there = met_at then breaks (i + 1) left in
          let furthest : max i there ≡ there = omega arith in
          record {
            goal = then;
            some = some;
            later = ap (λ undo. log_at_end (record (holding i rest then breaks log) { undo = undo }) left) (keeps labels moments end laws i s left is)
                ∙ next rest then breaks log waits
                ∙ sym (ap (λ stand. log_from stand rest)
                (after-is stand command
                ∙ ap (λ index. stand_at labels moments end index (max i index) stand command) index
                ∙ ap (λ furthest. stand_at labels moments end there furthest stand command) furthest
                ∙ ap (λ b. standing there there b (log ++ printed labels (reach labels moments end stand) (view_at labels moments end there there) command)) same
                ∙ ap (λ text. standing there there breaks (log ++ text)) (prints (reach labels moments end stand) (view_at labels moments end there there))));
          }

      turn_run : (found : Option ℕ) (rest waiting : List DebugCommand) (back : ℕ) (goal : Goal) (breaks : AddressSet) (log : List ℕ)
          → back ≤ length (undo_at labels moments end i) → next_stop breaks (undo_at labels moments end i) (Before s.moment) back ≡ found
          → Finds labels moments end laws regular i breaks (Before s.moment) back found
          → Stays i (Before s.moment) back Run breaks log (holding i waiting goal breaks log)
          ⊎ Goes finish (Before s.moment) back Run rest (standing_back i back breaks log) (holding i waiting goal breaks log)
      turn_run None rest waiting back goal breaks log under none finds =
          let start : i - back + 1 ≡ i + 1 - back = omega (arith, held_within labels moments end laws i le) in
          let inside = within moments i s left is in
          let behind : met_behind labels moments end laws regular i breaks (Before s.moment) 0 ≡ met_at BreakAddress breaks (i + 1) left =
          let first : i + 1 - 0 ≡ i + 1 = omega arith in rw (first, drop_next moments i s left is) refl in
          let index : index_after labels moments end Run (standing_back i back breaks log) ≡ met_at BreakAddress breaks (i + 1) left =
          rw start (finds ∙ behind) in
          inr (goes_on Run rest waiting back goal BreakAddress breaks log (ap unless_stopped none) tt refl index (omega arith) (λ n view. refl))
      turn_run (Some stop) rest waiting back goal breaks log under some finds = grind (arith, common_steps, le, run_found)

      turn_step : (count : ℕ) (rest waiting : List DebugCommand) (back : ℕ) (goal : Goal) (breaks : AddressSet) (log : List ℕ)
          → back ≤ length (undo_at labels moments end i)
          → Stays i (Before s.moment) back (Step count) breaks log (holding i waiting goal breaks log)
          ⊎ Goes finish (Before s.moment) back (Step count) rest (standing_back i back breaks log) (holding i waiting goal breaks log)
      turn_step count rest waiting back goal breaks log under =
          let inside = within moments i s left is in
          let held = held_within labels moments end laws i le in
          elim (cases_Bool (nat_le count back)) [
            | inl small ↦
                let few : count ≤ back = grind (arith, nat_tests) in
                inl (record {
                  none = rw small refl;
                  index = step_index i back count le (omega arith) few;
                  under = omega arith;
                })
            | inr large ↦
                let many : back < count = grind (arith, nat_tests) in
                let index : min (i - back + count) (length moments) ≡ min (i + 1 + (count - back - 1)) (length moments) = omega arith in
                inr (goes_on (Step count) rest waiting back goal (MomentAfter (count - back - 1)) breaks log (rw large refl) tt refl index (omega arith)
                (λ n view. refl))
          ]

      turn_before : Turn finish i (Before s.moment)
      turn_before Run rest waiting back goal breaks log under =
          turn_run (next_stop breaks (undo_at labels moments end i) (Before s.moment) back) rest waiting back goal breaks log under refl
          (finds_before labels moments end laws regular i breaks s left is back under)
      turn_before (Step count) rest waiting back goal breaks log under = turn_step count rest waiting back goal breaks log under
      turn_before (Back count) rest waiting back goal breaks log under = inl (stays_back i (Before s.moment) back count waiting goal breaks log le under refl)
      turn_before command rest waiting back goal breaks log under = inl (record { none = refl; index = refl; under = under })

      sees_before : Sees i (before s)
      sees_before = sees_back labels moments end laws regular i s.core s.page.read (Before s.moment)
          (comes_before labels moments end laws regular i s left is) (now_before labels moments end laws regular i s left is)

      -- a moment, by whether it is the one that is waited for
      shows-awaited : (commands : List DebugCommand) (goal : Goal) (breaks : AddressSet) (log : List ℕ) → is_awaited goal breaks s.moment.address ≡ true
          → shown (holding i commands goal breaks log) s
          ≡ with_kept s (done (before s) 0 commands (holding i commands goal breaks (log ++ arrival goal labels (before s))))
      unfolding shown arrived
      shows-awaited commands goal breaks log awaited = rw awaited refl

      shows-later : (commands : List DebugCommand) (goal : Goal) (breaks : AddressSet) (log : List ℕ) → is_awaited goal breaks s.moment.address ≡ false
          → shown (holding i commands goal breaks log) s ≡ with_kept s (holding i commands (goal_later goal) breaks log)
      unfolding shown
      shows-later commands goal breaks log other = rw other refl

      index-awaited : (goal : Goal) (breaks : AddressSet) → IsWaiting goal → is_awaited goal breaks s.moment.address ≡ true → met_at goal breaks i (s ∷ left) ≡ i
      index-awaited = grind (arith, common_steps)

      index-later : (goal : Goal) (breaks : AddressSet) → IsWaiting goal
          → is_awaited goal breaks s.moment.address ≡ false → met_at goal breaks i (s ∷ left) ≡ met_at (goal_later goal) breaks (i + 1) left
      index-later = search (arith, rules)

      still_waits : (goal : Goal) (breaks : AddressSet) (address : ℕ) → IsWaiting goal → is_awaited goal breaks address ≡ false → IsWaiting (goal_later goal)
      still_waits = search (arith, rules)

      met-later : (goal : Goal) (breaks : AddressSet) (log : List ℕ) (index : ℕ) → met (goal_later goal) breaks log index ≡ met goal breaks log index
      met-later = search (arith, rules)

      comes-awaited : (commands : List DebugCommand) (goal : Goal) (breaks : AddressSet) (log : List ℕ) → IsWaiting goal → is_awaited goal breaks s.moment.address ≡ true
          → log_at_end (holding i commands goal breaks log) (s ∷ left) ≡ log_from (met goal breaks log (met_at goal breaks i (s ∷ left))) commands
      comes-awaited commands goal breaks log waits awaited =
          let none : i - 0 ≡ i = omega arith in
          let now = now_before labels moments end laws regular i s left is in
          ap (λ h. log_at_end h left) (shows-awaited commands goal breaks log awaited)
          ∙ done-all finish i (before s) le sees_before turn_before (λ held. nothing-later (with_kept s (record held { commands = [] })) left) commands commands 0 goal breaks
          (log ++ arrival goal labels (before s)) (omega arith)
          ∙ ap (λ index. log_from (standing index i breaks (log ++ arrival goal labels (before s))) commands) none
          ∙ ap (λ view. log_from (standing i i breaks (log ++ arrival goal labels view)) commands) now
          ∙ sym (ap (λ index. log_from (met goal breaks log index) commands) (index-awaited goal breaks waits awaited))

      comes-later : (commands : List DebugCommand) (goal : Goal) (breaks : AddressSet) (log : List ℕ) → IsWaiting goal → is_awaited goal breaks s.moment.address ≡ false
          → log_at_end (holding i commands goal breaks log) (s ∷ left) ≡ log_from (met goal breaks log (met_at goal breaks i (s ∷ left))) commands
      comes-later commands goal breaks log waits other =
          ap (λ h. log_at_end h left) (shows-later commands goal breaks log other)
          ∙ ap (λ undo. log_at_end (record (holding i commands (goal_later goal) breaks log) { undo = undo }) left) (keeps labels moments end laws i s left is)
          ∙ next commands (goal_later goal) breaks log (still_waits goal breaks s.moment.address waits other)
          ∙ ap (λ stand. log_from stand commands) (met-later goal breaks log (met_at (goal_later goal) breaks (i + 1) left))
          ∙ sym (ap (λ index. log_from (met goal breaks log index) commands) (index-later goal breaks waits other))

      comes-moment : Comes i (s ∷ left)
      comes-moment = search (rules, comes-awaited, comes-later)

    module _ (i : ℕ) (is : i ≡ length moments) (none : drop i moments ≡ []) where
      -- what is done at the end
      abbrev log_there : Watching → List ℕ
      log_there held = held.log

      turn_run_at_end : (found : Option ℕ) (rest waiting : List DebugCommand) (back : ℕ) (goal : Goal) (breaks : AddressSet) (log : List ℕ)
          → back ≤ length (undo_at labels moments end i) → next_stop breaks (undo_at labels moments end i) (End end.moment) back ≡ found
          → Finds labels moments end laws regular i breaks (End end.moment) back found
          → Stays i (End end.moment) back Run breaks log (holding i waiting goal breaks log)
      turn_run_at_end = grind (arith, common_steps)

      step_at_end : (back count : ℕ) → back ≤ length (undo_at labels moments end i) → min (i - back + count) (length moments) ≡ i - (back - count)
      step_at_end back count under = let held = held_within labels moments end laws i (omega arith) in omega arith

      turn_at_end : Turn log_there i (End end.moment)
      turn_at_end Run rest waiting back goal breaks log under =
          inl (turn_run_at_end (next_stop breaks (undo_at labels moments end i) (End end.moment) back) rest waiting back goal breaks log under refl
          (finds_at_end labels moments end laws regular i breaks is none back under))
      turn_at_end (Step count) rest waiting back goal breaks log under = search (arith, rules, step_at_end)
      turn_at_end (Back count) rest waiting back goal breaks log under = search (arith, rules, stays_back)
      turn_at_end command rest waiting back goal breaks log under = inl (record { none = refl; index = refl; under = under })

      sees_at_end : Sees i (at_end end)
      sees_at_end = sees_back labels moments end laws regular i end.core end.page.read (End end.moment)
          (comes_at_end labels moments end laws regular i is none) (now_at_end labels moments end laws regular i is)

      index-ends : (goal : Goal) (breaks : AddressSet) → met_at goal breaks i [] ≡ i
      index-ends = search (arith, rules)

      ends : (commands : List DebugCommand) (goal : Goal) (breaks : AddressSet) (log : List ℕ) → IsWaiting goal
          → ended (holding i commands goal breaks log) end
          ≡ done (at_end end) 0 commands (holding i commands goal breaks (log ++ arrival goal labels (at_end end)))
      unfolding ended arrived
      ends = search (arith, rules)

      comes-end : Comes i []
      comes-end commands goal breaks log waits =
          let first : i - 0 ≡ i = omega arith in
          ap (λ (h : Watching). h.log) (ends commands goal breaks log waits)
          ∙ done-all log_there i (at_end end) (omega arith) sees_at_end turn_at_end (λ held. refl) commands commands 0 goal breaks
          (log ++ arrival goal labels (at_end end)) (omega arith)
          ∙ ap (λ index. log_from (standing index i breaks (log ++ arrival goal labels (at_end end))) commands) first
          ∙ ap (λ view. log_from (standing i i breaks (log ++ arrival goal labels view)) commands) (now_at_end labels moments end laws regular i is)
          ∙ sym (ap (λ index. log_from (met goal breaks log index) commands) (index-ends goal breaks))

    comes : (left : List Shown) (i : ℕ) → drop i moments ≡ left → i ≤ length moments → Comes i left
    comes [] i is le = comes-end i (omega (arith, length-drop i moments, ap length is)) is
    comes (s ∷ left) i is le =
        comes-moment i s left is (comes left (i + 1) (drop_next moments i s left is) (omega (arith, within moments i s left is)))

pub keeps_the_log : UndoLaws → KeepsTheLog
unfolding log_of
keeps_the_log laws commands labels moments end regular =
    let log : Bool → List Kept → List ℕ = λ goes_back undo. (ended (fold shown (record (new_watching commands labels) { goes_back = goes_back; undo = undo }) moments) end).log in
    let kept : log true [] ≡ log_of labels moments end commands =
    ap (log true) (sym laws.holding.none) ∙ comes labels moments end laws regular moments 0 refl (omega arith) commands FirstMoment no_breaks [] tt in
    elim (cases_Bool (list_any is_back commands)) [
      | inl some ↦ ap (λ goes_back. log goes_back []) some ∙ kept
      | inr none ↦
          ap (λ goes_back. log goes_back []) none
          ∙ log_without moments end (record (new_watching commands labels) { goes_back = true }) none ∙ kept
    ]
