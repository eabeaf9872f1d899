use Rattle.std.proofs.Common.{arith, ap, length, ◌+◌, ◌-◌, ◌*◌, ◌<◌}
use Rattle.std.proofs.lemmas.List.Elements.{All-take, All-drop}
use Rattle.screen_layers.proofs.LeadLemmas.{size_behind, span-behind}
use Rattle.screen_layers.proofs.plane.Plane.row.Goals as goal

pub slice_bounds-result-end : goal.slice_bounds-result-end
slice_bounds-result-end c =
    omega (arith, size_behind c.self.inside.pixels.items c.args.self.now c.self.view_is, ap length c.deref.ensures.value, c.start-start.ensures.within c.requires.row)

pub returns-clause-pixels : goal.returns-clause-pixels
returns-clause-pixels c =
    span-behind c.self.inside.pixels.items c.deref.result.now c.args.self.now (c.args.y * c.args.size.width) c.start-start.result
    (48 + c.start-start.result + c.from.result - (48 + c.start-start.result)) c.args.size.width c.deref.ensures.value c.self.view_is (omega arith) (omega arith)

pub returns-clause-colours : goal.returns-clause-colours
returns-clause-colours c =
    rw (returns-clause-pixels c) (All-take (λ colour. colour < 4) _ _ (All-drop (λ colour. colour < 4) _ c.args.self.now (rw c.self.view_is at c.self.invariant.2)))
