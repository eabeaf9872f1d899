use Rattle.std.proofs.Common.{true, false, sym}
use Rattle.screen_layers.proofs.ScreenLemmas.{stands-after, drawn-by}
use Rattle.screen_layers.proofs.Screen.pixel.Goals as goal

pub returns-then-has_bit-clause-drawn : goal.returns-then-has_bit-clause-drawn
returns-then-has_bit-clause-drawn c = λ picture stands.
    stands-after c.args.self.now c.fill.new.self c.args.x c.args.y c.args.control picture (rw (drawn-by _ _ _ _ _ true (sym c.if-has_bit.ensures)) c.fill.ensures) stands

pub returns-else-has_bit-clause-drawn : goal.returns-else-has_bit-clause-drawn
returns-else-has_bit-clause-drawn c = λ picture stands.
    stands-after c.args.self.now c.dot.new.self c.args.x c.args.y c.args.control picture (rw (drawn-by _ _ _ _ _ false (sym c.if-has_bit.ensures)) c.dot.ensures) stands
