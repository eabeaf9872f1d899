use Rattle.std.proofs.Common.{arith, ◌+◌, ◌<◌}
use Rattle.std.proofs.lemmas.List.{drop-set-add, length-set}
use Rattle.std.proofs.lemmas.List.Elements.{All-set}
use Rattle.screen_layers.proofs.DotLemmas.{dot-painted}
use Rattle.screen_layers.proofs.LeadLemmas.{size_behind}
use Rattle.screen_layers.proofs.plane.Plane.dot.Goals as goal

pub index_mut-requires : goal.index_mut-requires
index_mut-requires c = omega (arith, size_behind c.self.inside.pixels.items c.args.self.now c.self.view_is, c.start.ensures.within c.requires.place.1)

pub invariant_of-self : goal.invariant_of-self
invariant_of-self c =
    let items = c.self.inside.pixels.items in
    let place = c.start.result + c.from.result in (
      c.self.invariant.0,
      omega (arith, length-set items (48 + place) c.args.colour, c.self.invariant.1),
      rw (drop-set-add 48 items place c.args.colour) (All-set (λ colour. colour < 4) _ place c.args.colour c.requires.colour c.self.invariant.2),
    )

pub returns : goal.returns
returns c =
    let place = c.start.result + c.from.result in
    rw (drop-set-add 48 c.self.inside.pixels.items place c.args.colour, c.self.view_is)
    (dot-painted c.args.self.now c.args.size.width c.args.size.height c.args.x c.args.y c.args.colour place c.requires.plane c.requires.place.0 c.requires.place.1 (omega arith))
