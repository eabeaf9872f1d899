use Rattle.std.proofs.Common.{refl, rules, tests}
use Rattle.screen_layers.specs.Pictures.{new_picture}
use Rattle.screen_layers.proofs.ScreenLemmas.{cleared-kept, cleared-stands}
use Rattle.screen_layers.proofs.Screen.resize.Goals as goal

pub invariant_of-self : goal.invariant_of-self
invariant_of-self c =
    let can = c.if-not-can_resize.ensures in
    rw (c.clear.ensures, c.clear-2.ensures, c.clear-3.ensures) (search (rules, tests), search (rules, tests), cleared-kept _ _ _ (search (rules, tests)))

pub returns-clause-picture : goal.returns-clause-picture
returns-clause-picture c = λ picture stands.
    rw (← stands.width, ← stands.height, ← c.if-not-can_resize.ensures, c.clear.ensures, c.clear-2.ensures, c.clear-3.ensures)
    (cleared-stands c.args.width c.args.height _ (record new_picture { width = c.args.width; height = c.args.height }) refl refl c.clear-4.ensures)
