use Rattle.std.proofs.lemmas.Grind.{common_steps}
use Rattle.std.proofs.Common.{◌-◌, ap, ◌∙◌, arith}
use Rattle.uxn_io_traits.specs.ByteList.{ByteList}
use Rattle.uxn_io.proofs.InMemory.SoundLemmas.{copied}
use Rattle.uxn_io.proofs.memory.places.copies.Goals as goal

pub loop-i-preserved : goal.loop-i-preserved
loop-i-preserved c = record {
  nodes =
      copied c.args.nodes.now (c.loop-i.i - 1) c.loop-i.i c.index-nodes-i.result c.in_ok-bytes.bytes _ _ (omega arith) (omega (arith, c.loop-i-test.true)) c.index-nodes-i.is c.loop-i.invariant.nodes
      (ap (λ (b : ByteList). b.list) c.in_ok-bytes.ensures.copy ∙ c.as_slice.ensures)
      c.put.ensures.nodes;
  ordered = c.put.ensures.ordered;
  places = c.put.ensures.used c.args.room c.in_ok-bytes.ensures.room c.loop-i.invariant.places;
  few = omega (arith, c.put.ensures.few, c.loop-i.invariant.few);
  total = c.put.ensures.capacity ∙ c.loop-i.invariant.total;
}

pub put-requires : goal.put-requires
put-requires c = grind (arith, common_steps)

pub returns : goal.returns
returns c = grind (arith, common_steps)
