use Rattle.std.proofs.Common.{◌≡◌, ◌+◌, ◌*◌, ◌<◌, arith}
use Rattle.std.specs.Vec.{vec_len}
use Rattle.std.proofs.lemmas.List.Elements.{All-replicate}
use Rattle.screen_layers.proofs.LeadLemmas.{cleared-behind}
use Rattle.screen_layers.proofs.plane.Plane.clear.Goals as goal

pub returns : goal.returns
returns c = cleared-behind (c.args.size.height * c.args.size.width) _ _ _ _ c.clear.ensures.items (rw (c.resize.ensures.succeeds (omega arith)) at c.resize.ensures.items) (omega arith)

pub invariant_of-self : goal.invariant_of-self
invariant_of-self c =
    let size : vec_len c.resize.new.self ≡ 48 + c.start.result = rw (c.resize.ensures.succeeds (omega arith)) at c.resize.ensures.len in
    (omega arith, omega arith, rw (returns c) (All-replicate (λ colour. colour < 4) (c.args.size.height * c.args.size.width) 0 (omega arith)))
