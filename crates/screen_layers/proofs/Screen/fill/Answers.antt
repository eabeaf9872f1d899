use Rattle.std.proofs.Common.{refl}
use Rattle.screen_layers.specs.declared.control.Layer.TheVariants.{Background, Foreground}
use Rattle.screen_layers.proofs.ScreenLemmas.{drawn, draws-kept}
use Rattle.screen_layers.proofs.Screen.fill.Goals as goal

pub invariant_of-self : goal.invariant_of-self
invariant_of-self c =
    (c.self.invariant.0, c.self.invariant.1, draws-kept _ _ _ c.self.invariant.2 (drawn _ Background _ c.fill.new.self c.set_fill.new.self _ refl c.fill.ensures (c.set_fill.ensures _)))

pub invariant_of-self-in-Foreground : goal.invariant_of-self-in-Foreground
invariant_of-self-in-Foreground c =
    (c.self.invariant.0, c.self.invariant.1, draws-kept _ _ _ c.self.invariant.2 (drawn _ Foreground _ c.fill-in-Foreground.new.self c.set_fill.new.self _ refl c.fill-in-Foreground.ensures (c.set_fill.ensures _)))
