use Rattle.std.proofs.Common.{rules}
use Rattle.uxn_undo.proofs.Common.{◌-◌, drop, sym, ◌∙◌, arith, moments_in}
use Rattle.uxn_undo.proofs.Joined.{length_held, in_bytes, begins_next, next_back, byte_found, all_back}
use Rattle.uxn_undo.proofs.undo.Undo.byte.Goals as goal
use Rattle.uxn_undo.proofs.undo.Undo.byte.Goals.{in-Some, in_default}

pub nth-requires : goal.nth-requires
nth-requires c = omega (arith, length_held c.self.inside.rows.items c.self.inside.records.items c.self.inside.bytes.items c.args.self.now c.self.view_is)

pub byte_in-byte-requires : goal.byte_in-byte-requires
byte_in-byte-requires c =
    let rows = c.self.inside.rows.items in
    let records = c.self.inside.records.items in
    rw c.from.ensures (in_bytes records c.self.inside.bytes.items c.loop-index.index c.loop-index.begin c.args.at c.in-Some.distance
    c.nth.result.now c.self.invariant.0.filled c.nth.ensures
    c.loop-index.invariant.begins c.in-Some.ensures)

pub loop-index-preserved : goal.loop-index-preserved
loop-index-preserved = search (arith, rules, begins_next, byte_found, in-Some, in_default, next_back)

pub returns : goal.returns
returns c =
    rw (← c.self.view_is) (sym (c.loop-index.invariant.same
    ∙ all_back (c.args.back - c.loop-index.index) (moments_in c.self.inside.rows.items (drop c.loop-index.index c.self.inside.records.items) (drop c.loop-index.begin c.self.inside.bytes.items))
    c.args.at c.loop-index.byte (omega arith)))
