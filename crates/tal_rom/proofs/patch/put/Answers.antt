use Rattle.tal_rom.proofs.Common.{◌≡◌, ◌≤◌, ◌+◌, length, take, get_or, refl, sym, arith, length-take, slice_set, take_more, set_past, overlaid}
use Rattle.tal_rom.proofs.Moving.{overlaid-push}
use Rattle.tal_rom.proofs.patch.put.Goals.{then-index-len, else-index-len}
use Rattle.tal_rom.proofs.patch.put.Goals as goal

pub loop-offset-preserved : goal.loop-offset-preserved
loop-offset-preserved c =
    let bytes = c.args.bytes.now in
    let i = c.loop-offset.offset in
    let size : length (take i bytes) ≡ i = omega (arith, length-take i bytes) in
    let next : overlaid c.args.memory.now.items c.args.at (take (i + 1) bytes)
    ≡ slice_set c.loop-offset.memory.items (c.args.at + i) (get_or bytes i 0) =
    rw (take_more bytes i 0 c.loop-offset-test.true, overlaid-push, size, c.loop-offset.invariant) refl in
    elim c.if-index-len.branch [
      | then-index-len w ↦ rw w.memory-is (sym next)
      | else-index-len w ↦ (
          let past : length c.loop-offset.memory.items ≤ c.args.at + i =
          omega (arith, w.if-index-len.false, c.len.ensures, c.loop-offset.memory.ok.0) in
          rw (w.memory-is, next) (sym (set_past c.loop-offset.memory.items (c.args.at + i) (get_or bytes i 0) past)))
    ]
