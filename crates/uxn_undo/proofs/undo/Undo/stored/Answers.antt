use Rattle.uxn_undo.proofs.Common.{◌-◌, slice_get, slice_index}
use Rattle.uxn_undo.proofs.Slots.{part_of}
use Rattle.uxn_undo.proofs.undo.Undo.stored.Goals as goal

pub returns : goal.returns
returns c = rw c.from.ensures (part_of (λ row. slice_index row.stored c.args.port) (slice_get c.args.self.now (c.args.back - 1)) c.row.result.now c.row.ensures)
