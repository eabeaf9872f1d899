use Rattle.uxn_undo.proofs.Common.{◌≡◌, ℕ, ◌+◌, ◌-◌, ◌∷◌, ◌++◌, take, List, ap, ◌∙◌, arith, map, slice_index, range_with_len, Buffer, buffer}
use Rattle.uxn_undo.proofs.Common.{address_after_span}
use Rattle.uxn_undo.proofs.Joined.{put_one}
use Rattle.uxn_undo.proofs.undo.put_bytes.Goals as goal

pub loop-less-preserved : goal.loop-less-preserved
loop-less-preserved c =
    let known = c.in-Some.ensures in
    let next : c.in-Some.less + 1 ≡ c.loop-less.left = omega arith in
    let byte = λ (count : ℕ). slice_index c.args.memory.now (address_after_span c.args.span count) in
    let others = c.args.bytes.now.items in
    let capacity = c.args.bytes.now.capacity in
    record {
      within = omega arith;
      items =
          c.push_front.ensures.items
          ∙ ap (λ (b : Buffer ℕ). buffer (take b.capacity (c.get.result ∷ b.items)) b.capacity) c.loop-less.invariant.items
          ∙ ap (λ z. buffer (take capacity (z ∷ (map byte (range_with_len c.loop-less.left (c.args.span.count - c.loop-less.left)) ++ others))) capacity)
          (c.get.ensures ∙ ap (λ at. slice_index c.args.memory.now at) c.address_after_span.ensures)
          ∙ ap (λ (z : List ℕ). buffer z capacity) (put_one byte c.loop-less.left c.in-Some.less c.args.span.count capacity others next
          c.loop-less.invariant.within c.requires);
    }
