use Rattle.std.proofs.Common.{slice_index, ap, ◌∙◌}
use Rattle.screen_frame.specs.Colours.{shown}
use Rattle.screen_frame.specs.Ppm.{row_bytes}
use Rattle.screen_layers.specs.Layers.{pixel_at}
use Rattle.screen_layers.proofs.ComposedLemmas.{row-pixel, row-values}
use Rattle.screen_layers.proofs.Screen.marked_row.Goals as goal

pub returns : goal.returns
returns c =
    let in_y = rw (← c.self.view_is) at c.requires.row in
    let width = c.self.inside.size.width in
    rw (← c.self.view_is) (λ picture stands. c.ppm_row.ensures ∙ ap (λ values. row_bytes c.args.palette.now.colours values)
    (row-values _ picture c.compose_row.new.into c.args.y stands in_y (c.compose_row.ensures.count ∙ c.row.ensures.length)
    (λ x h. c.compose_row.ensures.values x (rw c.row.ensures.length h)
    ∙ ap (λ f. shown f (slice_index c.row-2.result.now x)) (ap (λ row. slice_index row x) c.row.ensures.pixels ∙ row-pixel c.self.inside.foreground width x c.args.y h)
    ∙ ap (λ b. shown (pixel_at width c.self.inside.foreground x c.args.y) b) (ap (λ row. slice_index row x) c.row-2.ensures.pixels ∙ row-pixel c.self.inside.background width x c.args.y h))))
