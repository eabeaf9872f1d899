use Rattle.uxn_undo.proofs.Common.{◌+◌, ◌%◌, ◌<◌, length, refl, sym, arith, vec_len, vec_capacity, Record, no_row}
use Rattle.std.proofs.lemmas.Bool.{false≢true}
use Rattle.uxn_undo.specs.Slots.{slot_row}
use Rattle.uxn_undo.proofs.Keeping.{has-room, keeps}
use Rattle.uxn_undo.proofs.Slots.{put_slots}
use Rattle.uxn_undo.proofs.undo.Undo.keep.Goals as goal

pub put_bytes-requires : goal.put_bytes-requires
put_bytes-requires g c =
    let inside = c.self.inside in
    rw (← c.from.ensures) (has-room inside.rows.items inside.records inside.bytes c.args.self.now c.make_room.new.self c.from.result c.self.view_is
    c.self.invariant.0 c.make_room.ensures (omega (arith, c.from.ensures))).room

pub invariant_of-self : goal.invariant_of-self
invariant_of-self g c =
    let inside = c.self.inside in
    let slot = inside.next in
    let small : slot < 65536 = c.self.invariant.1.small in
    let newest : Record = record { at = c.args.core.now.at; slot = slot; span = c.instruction_span-span.result } in
    let kept = keeps inside.rows.items inside.records inside.bytes c.args.self.now c.make_room.new.self c.from.result c.self.view_is c.self.invariant.0
    c.make_room.ensures (omega (arith, c.from.ensures)) (vec_len inside.rows) c.put_row.new.rows.items newest
    (slot_row c.args.core.now c.stored_page-stored.result.now) c.args.core.now.memory (sym c.from.ensures) c.put_row.ensures.others
    (c.put_row.ensures.here no_row) small c.self.invariant.1.order in
    let slots = put_slots (vec_len inside.rows) (vec_capacity inside.rows) slot (vec_len c.put_row.new.rows) (vec_capacity c.put_row.new.rows)
    ((slot + 1) % 65536) newest inside.records.items c.self.invariant.1 refl small (omega (arith, c.from.ensures)) c.put_row.ensures.size
    c.put_row.ensures.room refl in
    rw (c.in-Ok.ensures.ok, c.put_bytes.ensures) (kept.rings, slots)

pub returns : goal.returns
returns g c =
    let inside = c.self.inside in
    let newest : Record = record { at = c.args.core.now.at; slot = inside.next; span = c.instruction_span-span.result } in
    let kept = keeps inside.rows.items inside.records inside.bytes c.args.self.now c.make_room.new.self c.from.result c.self.view_is c.self.invariant.0
    c.make_room.ensures (omega (arith, c.from.ensures)) (vec_len inside.rows) c.put_row.new.rows.items newest
    (slot_row c.args.core.now c.stored_page-stored.result.now) c.args.core.now.memory (sym c.from.ensures) c.put_row.ensures.others
    (c.put_row.ensures.here no_row) c.self.invariant.1.small c.self.invariant.1.order in
    rw (c.in-Ok.ensures.ok, c.put_bytes.ensures, ← c.stored_page-stored.ensures, ← c.instruction_span-span.ensures) kept.holds

pub unreachable-requires : goal.unreachable-requires
unreachable-requires g c =
    let inside = c.self.inside in
    let has = has-room inside.rows.items inside.records inside.bytes c.args.self.now c.make_room.new.self c.from.result c.self.view_is c.self.invariant.0
    c.make_room.ensures (omega (arith, c.from.ensures)) in
    let room : length inside.records.items < inside.records.capacity = omega (arith, has.few, c.self.invariant.0.moments) in
    false≢true (c.in-Err.ensures.variant.1 room)
