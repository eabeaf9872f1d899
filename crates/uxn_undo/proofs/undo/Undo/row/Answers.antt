use Rattle.std.proofs.Common.{rules}
use Rattle.uxn_undo.proofs.Common.{◌≡◌, ◌-◌, ◌<◌, List, length, Some, refl, sym, ap, ◌∙◌, arith, slice_index_or, vec_len, Row, row_of, row_in, no_row}
use Rattle.std.proofs.lemmas.List.{get_or_default}
use Rattle.uxn_undo.proofs.Joined.{at_moment, length_held}
use Rattle.uxn_undo.proofs.Slots.{slot_within}
use Rattle.uxn_undo.proofs.undo.Undo.row.Goals as goal

pub nth-requires : goal.nth-requires
nth-requires c = omega (arith, length_held c.self.inside.rows.items c.self.inside.records.items c.self.inside.bytes.items c.args.self.now c.self.view_is)

pub bounds-rows-from : goal.bounds-rows-from
bounds-rows-from = search (arith, rules, slot_within)

pub returns : goal.returns
returns c =
    let rows = c.self.inside.rows.items in
    let records = c.self.inside.records.items in
    let r = c.nth.result.now in
    let row = c.index-rows-from.result in
    let there : r.slot < length rows =
    rw (← c.as_slice-rows.ensures.value, c.as_slice-rows.ensures.len) (slot_within (vec_len c.self.inside.rows) c.self.inside.next records
    (c.args.back - 1) r c.self.invariant.1.order c.nth.ensures) in
    let here : row ≡ slice_index_or rows r.slot row =
    c.index-rows-from.is ∙ ap (λ k. slice_index_or c.as_slice-rows.result.now k row) c.from.ensures
    ∙ ap (λ (z : List Row). slice_index_or z r.slot row) c.as_slice-rows.ensures.value in
    rw (← c.self.view_is) (at_moment rows (λ kept. row_in kept) (row_of rows) (λ r bytes. refl) records c.self.inside.bytes.items (c.args.back - 1) r
    c.nth.ensures
    ∙ ap (λ (z : Row). Some z) (get_or_default rows r.slot no_row row there ∙ sym here))
