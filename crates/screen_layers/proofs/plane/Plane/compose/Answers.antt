use Rattle.std.proofs.Common.{arith, ap, length, ◌+◌, ◌-◌, ◌<◌}
use Rattle.screen_layers.proofs.LeadLemmas.{size_behind, are-written}
use Rattle.screen_layers.proofs.Spans.{row-painted, All-put_mid}
use Rattle.screen_layers.proofs.plane.Plane.compose.Goals as goal

pub slice_bounds-compose_row-end : goal.slice_bounds-compose_row-end
slice_bounds-compose_row-end c =
    omega (arith, size_behind c.self.inside.pixels.items c.args.self.now c.self.view_is, ap length c.deref_mut.ensures.value, c.start-from.ensures.within c.requires.row)

pub invariant_of-self : goal.invariant_of-self
invariant_of-self c =
    let size = size_behind c.self.inside.pixels.items c.args.self.now c.self.view_is in
    let room = c.start-from.ensures.within c.requires.row in
    let k = 48 + c.start-from.result + c.from.result - (48 + c.start-from.result) in
    let w = are-written c.self.inside.pixels.items c.deref_mut.result.now c.args.self.now c.compose_row.new.into c.start-from.result k c.self.inside.pixels.len
    c.deref_mut.ensures.value c.self.view_is (omega arith) (omega arith) (omega (arith, c.compose_row.ensures.count)) in (
      c.self.invariant.0,
      w.room,
      rw w.after (All-put_mid (λ colour. colour < 4) c.start-from.result k c.args.self.now c.compose_row.new.into (rw c.self.view_is at c.self.invariant.2)
          (c.compose_row.ensures.colours c.requires.front c.requires.back)),
    )

pub returns : goal.returns
returns c =
    let size = size_behind c.self.inside.pixels.items c.args.self.now c.self.view_is in
    let room = c.start-from.ensures.within c.requires.row in
    let k = 48 + c.start-from.result + c.from.result - (48 + c.start-from.result) in
    let w = are-written c.self.inside.pixels.items c.deref_mut.result.now c.args.self.now c.compose_row.new.into c.start-from.result k c.self.inside.pixels.len
    c.deref_mut.ensures.value c.self.view_is (omega arith) (omega arith) (omega (arith, c.compose_row.ensures.count)) in
    rw w.after (row-painted c.args.self.now c.compose_row.new.into c.args.size.width c.args.size.height c.args.y c.start-from.result k _
    (omega arith) (omega (arith, c.compose_row.ensures.count)) (omega arith) (omega arith)
    (λ x h. c.compose_row.ensures.values x (rw c.requires.foreground h)))
