use Rattle.std.proofs.Common.{ℕ, ◌*◌, length, ap, ◌∙◌, arith}
use Rattle.std.proofs.lemmas.List.{length-take-le}
use Rattle.screen_layers.proofs.Rows.{row_within}
use Rattle.screen_layers.proofs.Spans.{length-span}
use Rattle.screen_layers.proofs.Screen.picture_row.Goals as goal

pub ppm_row-requires-clause-room : goal.ppm_row-requires-clause-room
ppm_row-requires-clause-room c =
    let width = c.self.inside.size.width in
    let in_y = rw (← c.self.view_is) at c.requires.row in
    let held = rw (← c.self.view_is) at c.composed.ensures.held in
    let room = row_within c.args.y c.self.inside.size.height width in_y in
    let row = ap length held ∙ length-span (c.args.y * width) width c.self.inside.composed (omega (arith, room, c.self.invariant.2.composed)) in
    omega (arith, row, length-take-le {A = ℕ})
