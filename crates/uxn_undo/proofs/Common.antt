-- The names that most proofs of this crate cite, passed on from one place. Declares nothing.
pub use Rattle.std.proofs.Common.{Bool, List, None, Some, [], ap, arith, cond, drop, false, inl, inr, length, refl, suc, sym, take, true, zero, ℕ}
pub use Rattle.std.proofs.Common.{◌%◌, ◌++◌, ◌+◌, ◌-◌, ◌/◌, ◌<◌, ◌==◌, ◌∙◌, ◌∷◌, ◌≡◌, ◌≢◌, ◌≤◌}
pub use Rattle.std.proofs.lemmas.Bool.{cases_Bool, cases_lt, eqb-true}
pub use Rattle.std.proofs.lemmas.Bool.Decides.{nat_tests}
pub use Rattle.std.proofs.lemmas.List.{get_or-drop, get_or-take, length-append, length-map, length-take, length-take-le, take-take}
pub use Rattle.std.proofs.lemmas.List.FromFn.{get_or-map-range_with_len, length-map-range_with_len}
pub use Rattle.std.proofs.lemmas.List.Sums.{sum_by-cons}
pub use Rattle.std.specs.List.{range_with_len}
pub use Rattle.std.specs.Prelude.{Option, map, min, option_map, slice_get, slice_index, slice_index_or, slice_set, sum_by}
pub use Rattle.std.specs.Vec.{vec_capacity, vec_len}
pub use Rattle.circular_buffer.specs.Buffer.{Buffer, buffer}
pub use Rattle.uxn_opcodes.specs.Rule.{OpEffect, core_of, ruled, sides_of}
pub use Rattle.uxn_opcodes.specs.Table.{mode_of}
pub use Rattle.uxn_opcodes.specs.declared.Core.{Core}
pub use Rattle.uxn_opcodes.specs.declared.operation.Width.{Width}
pub use Rattle.uxn_opcodes.specs.declared.operation.Width.TheVariants.{Byte, Short}
pub use Rattle.uxn_stacks.specs.Cells.{Cells, byte_below}
pub use Rattle.uxn_undo.specs.Kept.{Kept, byte_count, most_bytes, most_moments}
pub use Rattle.uxn_undo.specs.Laws.{DiffersWithin, Follow, GivenMoments}
pub use Rattle.uxn_undo.specs.Rings.{AreRings, entry_count, moment_of}
unfoldable pub use Rattle.uxn_undo.specs.Rings.{moments_in}
pub use Rattle.uxn_undo.specs.Row.{HoldsBytes, IsMachine}
pub use Rattle.uxn_undo.specs.Slots.{no_row, row_in, row_of}
pub use Rattle.uxn_undo.specs.Spans.{address_after_span, covers, distance_to, span_bytes_at, span_in_bank}
pub use Rattle.uxn_undo.specs.declared.row.Row.{Row}
pub use Rattle.uxn_undo.specs.declared.span.Span.{Span}
pub use Rattle.uxn_undo.specs.declared.undo.Record.{Record}
