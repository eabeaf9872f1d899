use Rattle.std.proofs.Common.{arith}
use Rattle.screen_layers.proofs.BlendLemmas.{over-pair, over-colour}
use Rattle.screen_layers.proofs.tile.Inks.over.Goals as goal

pub returns-clause-pixel : goal.returns-clause-pixel
returns-clause-pixel c =
    rw (← c.self.view_is, c.choose-3.ensures, c.choose.ensures, c.choose-2.ensures)
    (over-pair c.self.inside.blend c.args.under c.self.inside.colours c.self.inside.kept c.args.low c.args.high (omega arith) c.self.invariant)

pub returns-clause-colour : goal.returns-clause-colour
returns-clause-colour c = λ fits. over-colour c.self.inside.blend c.args.under _ c.args.low c.args.high fits (rw c.self.view_is (returns-clause-pixel c))
