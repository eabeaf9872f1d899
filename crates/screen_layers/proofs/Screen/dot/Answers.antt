use Rattle.std.proofs.Common.{refl, arith}
use Rattle.screen_layers.proofs.MarkLemmas.{draws-nothing, dot-off}
use Rattle.screen_layers.specs.declared.control.Layer.TheVariants.{Background, Foreground}
use Rattle.screen_layers.proofs.ScreenLemmas.{drawn, draws-kept}
use Rattle.screen_layers.proofs.Screen.dot.Goals as goal
use Rattle.screen_layers.proofs.Screen.dot.Goals.{else-x-size-via-then-x-size+else-y-size, else-x-size-via-else-x-size}

pub invariant_of-self : goal.invariant_of-self
invariant_of-self c =
    (c.self.invariant.0, c.self.invariant.1, draws-kept _ _ _ c.self.invariant.2 (drawn _ Background _ c.dot.new.self c.set_dot.new.self _ refl c.dot.ensures (c.set_dot.ensures _)))

pub invariant_of-self-in-Foreground : goal.invariant_of-self-in-Foreground
invariant_of-self-in-Foreground c =
    (c.self.invariant.0, c.self.invariant.1, draws-kept _ _ _ c.self.invariant.2 (drawn _ Foreground _ c.dot-in-Foreground.new.self c.set_dot.new.self _ refl c.dot-in-Foreground.ensures (c.set_dot.ensures _)))

pub returns-else-x-size : goal.returns-else-x-size
returns-else-x-size c =
    rw (← c.self.view_is) (draws-nothing _ _ (λ x y in_x in_y. dot-off c.args.x c.args.y _ x y _ _ in_x in_y
    (λ across down. elim c.else-x-size.branch [ else-x-size-via-then-x-size+else-y-size w ↦ absurd (omega arith) | else-x-size-via-else-x-size w ↦ absurd (omega arith) ])))
