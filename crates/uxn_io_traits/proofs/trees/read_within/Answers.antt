use Rattle.std.proofs.Common.{arith, refl}
use Rattle.uxn_io_traits.specs.EndedLaws.{looked-then}
use Rattle.uxn_io_traits.specs.RequestLaws.{reads-later}
use Rattle.uxn_io_traits.proofs.ReadLemmas.{reads_on, length_grown, prefix_grown, prefix_all}
use Rattle.uxn_io_traits.proofs.trees.read_within.Goals as goal

pub returns-then-taken-eq0-clause-answer : goal.returns-then-taken-eq0-clause-answer
returns-then-taken-eq0-clause-answer g c =
    prefix_all _ _ c.loop-bytes.bytes.items _ _ _ _ c.args.limit c.from.ensures c.if-taken-eq0.true (omega (arith, c.loop-bytes.invariant.size))
    c.loop-bytes.invariant.prefix
    (reads_on _ _ _ _ _ _ _ _ c.loop-bytes.invariant.looked.contents (omega (arith, c.loop-bytes.bytes.ok.0)) c.in_ok-taken.ensures.answer)

pub loop-bytes-preserved : goal.loop-bytes-preserved
loop-bytes-preserved g c = record {
  looked = looked-then _ _ _ _ c.loop-bytes.invariant.looked c.in_ok-taken.ensures.looked;
  within =
      let grown = length_grown c.loop-bytes.bytes.items c.read.new.into c.extend_from_slice.new.self.items c.in_ok-taken.taken (omega (arith, c.in_ok-taken.ensures.count)) c.in_ok-extend_from_slice.ensures.items in
      omega (arith, grown, c.extend_from_slice.new.self.ok.0, c.loop-bytes.bytes.ok.0);
  prefix =
      prefix_grown _ _ c.loop-bytes.bytes.items _ c.read.new.into _ _ c.in_ok-taken.taken (omega (arith, c.in_ok-taken.ensures.count)) refl c.in_ok-extend_from_slice.ensures.items
      c.loop-bytes.invariant.prefix
      (reads_on _ _ _ _ _ _ _ _ c.loop-bytes.invariant.looked.contents (omega (arith, c.loop-bytes.bytes.ok.0)) c.in_ok-taken.ensures.answer);
  requests =
      let grown = length_grown c.loop-bytes.bytes.items c.read.new.into c.extend_from_slice.new.self.items c.in_ok-taken.taken (omega (arith, c.in_ok-taken.ensures.count)) c.in_ok-extend_from_slice.ensures.items in
      reads-later c.args.path.now _ _ _ _ _ _ c.len.ensures (omega (arith, grown, c.extend_from_slice.new.self.ok.0, c.if-taken-eq0.false))
      c.loop-bytes.invariant.requests c.in_ok-taken.ensures.requests;
  size = omega arith;
}
