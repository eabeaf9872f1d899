use Rattle.std.proofs.Common.{slice_index, ap, ◌∙◌}
use Rattle.screen_layers.proofs.ComposedLemmas.{row-pixel, row-values}
use Rattle.screen_layers.proofs.Screen.composed.Goals as goal

pub returns-clause-values : goal.returns-clause-values
returns-clause-values c =
    let in_y = rw (← c.self.view_is) at c.requires.row in
    let unmarked = rw (← c.self.view_is) at c.requires.composed in
    rw (← c.self.view_is) (λ picture stands. row-values _ picture c.row.result.now c.args.y stands in_y c.row.ensures.length
    (λ x h. ap (λ row. slice_index row x) c.row.ensures.pixels ∙ row-pixel c.self.inside.composed c.self.inside.size.width x c.args.y h
    ∙ c.self.invariant.2.rows c.args.y in_y unmarked x h))
