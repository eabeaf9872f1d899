use Rattle.std.proofs.Common.{refl, arith}
use Rattle.screen_layers.proofs.MarkLemmas.{draws-nothing, tile-off}
use Rattle.screen_layers.specs.declared.control.Layer.TheVariants.{Background, Foreground}
use Rattle.screen_layers.proofs.ScreenLemmas.{drawn, draws-kept}
use Rattle.screen_layers.proofs.Screen.tile.Goals as goal

pub invariant_of-self : goal.invariant_of-self
invariant_of-self c =
    (c.self.invariant.0, c.self.invariant.1, draws-kept _ _ _ c.self.invariant.2 (drawn _ Background _ c.tile.new.self c.set_tile.new.self _ refl c.tile.ensures (c.set_tile.ensures _)))

pub invariant_of-self-in-Foreground : goal.invariant_of-self-in-Foreground
invariant_of-self-in-Foreground c =
    (c.self.invariant.0, c.self.invariant.1, draws-kept _ _ _ c.self.invariant.2 (drawn _ Foreground _ c.tile-in-Foreground.new.self c.set_tile.new.self _ refl c.tile-in-Foreground.ensures (c.set_tile.ensures _)))

pub returns-then-place : goal.returns-then-place
returns-then-place c = rw (← c.self.view_is) (draws-nothing _ _ (λ x y in_x in_y. tile-off c.args.place.x c.args.place.y _ x y _ in_x (omega arith) (omega arith)))
