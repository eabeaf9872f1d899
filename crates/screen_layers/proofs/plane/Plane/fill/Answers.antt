use Rattle.std.proofs.Common.{arith, ap, length, ◌∙◌}
use Rattle.screen_layers.proofs.LeadLemmas.{before-of, all-are-written}
use Rattle.screen_layers.proofs.plane.Plane.fill.Goals as goal

pub fill_area-requires-clause-plane : goal.fill_area-requires-clause-plane
fill_area-requires-clause-plane c = ap length (before-of _ _ _ c.deref_mut.ensures.value c.self.view_is) ∙ c.requires.plane

pub invariant_of-self : goal.invariant_of-self
invariant_of-self c =
    let w = all-are-written c.self.inside.pixels.items _ _ _ c.self.inside.pixels.len c.deref_mut.ensures.value c.self.view_is (omega arith) (omega arith) c.fill_area.ensures.painted.count in
    (c.self.invariant.0, w.room, rw w.after (c.fill_area.ensures.colours c.requires.colour (rw w.before (rw c.self.view_is at c.self.invariant.2))))

pub returns : goal.returns
returns c =
    let w = all-are-written c.self.inside.pixels.items _ _ _ c.self.inside.pixels.len c.deref_mut.ensures.value c.self.view_is (omega arith) (omega arith) c.fill_area.ensures.painted.count in
    rw w.after (rw w.before at c.fill_area.ensures.painted)
