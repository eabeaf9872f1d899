-- Commands are done one after the other.
use Rattle.std.proofs.lemmas.Grind.{common_steps}
use Rattle.std.proofs.Common.{◌≡◌, ℕ, ◌+◌, ◌<◌, ◌≤◌, List, [], ◌∷◌, length, drop, get_or, Option, Some, None, refl, sym, ap, ◌∙◌, arith, rules}
use Rattle.std.proofs.lemmas.List.{length-drop, nil_from_length}
use Rattle.uxn_debugger.specs.declared.command.DebugCommand.{DebugCommand}
use Rattle.uxn_debugger.specs.declared.place.Goal.{Goal}
use Rattle.uxn_debugger.specs.declared.place.Goal.TheVariants.{Nothing}
use Rattle.uxn_debugger.specs.Printing.{MomentView}
use Rattle.uxn_debugger.specs.Watching.{Watching, goal_of, back_after, obeyed, done, unless_it_goes}

-- what stands at a place comes next
pub next_is : {A : Type 0} (read xs : List A) (i : ℕ) (x : A) → read ≡ xs → i < length read → x ≡ get_or read i x → drop i xs ≡ x ∷ drop (i + 1) xs
next_is = grind (arith, common_steps)

pub none_left : {A : Type 0} (read xs : List A) (i : ℕ) → read ≡ xs → length read ≤ i → drop i xs ≡ []
none_left read xs i same past = rw (← same) (nil_from_length (drop i read) (omega (arith, length-drop i read)))

pub done-none : (now : MomentView) (back : ℕ) (held : Watching) → done now back [] held ≡ record held { commands = []; goal = Nothing }
unfolding done
done-none now back held = refl

pub done-more : (now : MomentView) (back : ℕ) (command : DebugCommand) (rest : List DebugCommand) (held : Watching) → done now back (command ∷ rest) held
    ≡ unless_it_goes (goal_of held now.place back command) rest held
    (done now (back_after held now.place back command) rest (obeyed now back command held))
unfolding done
done-more now back command rest held = refl

-- what is done does not depend on the commands that are held beside it
same_goes : (goal : Option Goal) (rest : List DebugCommand) (one two a b : Watching) → a ≡ b
    → ((g : Goal) → record one { commands = rest; goal = g } ≡ record two { commands = rest; goal = g })
    → unless_it_goes goal rest one a ≡ unless_it_goes goal rest two b
same_goes None rest one two a b same goes = same
same_goes (Some g) rest one two a b same goes = goes g

done-any : (now : MomentView) (back : ℕ) (commands other : List DebugCommand) (held : Watching)
    → done now back commands (record held { commands = other }) ≡ done now back commands held
done-any now back [] other held = done-none now back (record held { commands = other }) ∙ sym (done-none now back held)
done-any now back (command ∷ rest) other held =
    done-more now back command rest (record held { commands = other })
    ∙ same_goes (goal_of held now.place back command) rest (record held { commands = other }) held _ _
    (done-any now (back_after held now.place back command) rest other (obeyed now back command held)) (λ g. refl)
    ∙ sym (done-more now back command rest held)

-- a command was done that does not go on
pub was_obeyed : (now : MomentView) (back there : ℕ) (command : DebugCommand) (rest : List DebugCommand) (held new all : Watching) → held.commands ≡ command ∷ rest
    → goal_of (record held { commands = rest }) now.place back command ≡ None
    → there ≡ back_after (record held { commands = rest }) now.place back command
    → new ≡ obeyed now back command (record held { commands = rest })
    → done now back held.commands held ≡ all → done now there new.commands new ≡ all
was_obeyed now back there command rest held new all cut stays is_there is whole =
    let then = back_after held now.place back command in
    ap (λ n. done now n new.commands new) is_there
    ∙ ap (λ (w : Watching). done now then w.commands w) is
    ∙ done-any now then rest rest (obeyed now back command held)
    ∙ sym (ap (λ commands. done now back commands held) cut ∙ done-more now back command rest held
    ∙ ap (λ goal. unless_it_goes goal rest held (done now then rest (obeyed now back command held))) stays)
    ∙ whole

-- one went on
pub went : (now : MomentView) (back : ℕ) (command : DebugCommand) (rest : List DebugCommand) (goal : Goal) (held all : Watching) → held.commands ≡ command ∷ rest
    → goal_of (record held { commands = rest }) now.place back command ≡ Some goal → done now back held.commands held ≡ all
    → record held { commands = rest; goal = goal } ≡ all
went = search (arith, rules, done-more)

-- none is left
pub finished : (now : MomentView) (back : ℕ) (held all : Watching) → held.commands ≡ [] → done now back held.commands held ≡ all
    → record held { goal = Nothing } ≡ all
finished = search (arith, rules, done-none)
