-- The names that most proofs of this crate cite, passed on from one place. Declares nothing.
pub use Rattle.std.proofs.Common.{◌≡◌, ℕ, ◌+◌, ◌-◌, ◌≤◌, not, List, length, take, drop, refl, ◌∙◌, ap, arith, reverse, ◌^◌, ◌<◌, Bool, true, false}
pub use Rattle.std.proofs.Common.{[], ◌∷◌, ◌++◌, Option, Some, None, Ok, cond, sym, length-append, append-nil, inl, inr, zero, suc, get_or}
pub use Rattle.std.proofs.Common.{append_assoc, ◌||◌, map, slice_get, ◌&&◌, ◌⊎◌, length-drop, Err, Result, add-one}
pub use Rattle.std.specs.Prelude.{◌==◌, MatchOption, is_some, fold, slice_set, unwrap_or, if◌then◌else◌, nat_lt}
pub use Rattle.std.proofs.Math.Dec.{ltb}
pub use Rattle.std.proofs.Math.Seq.{take-append_seam}
pub use Rattle.std.proofs.lemmas.Bool.{eqb-true, ltb-false, lt-ltb, cases_lt, ne_eqb, eq-eqb, and_parts, or_cases, le-ltb}
pub use Rattle.std.proofs.lemmas.Bool.Decides.{nat_tests}
pub use Rattle.std.proofs.lemmas.List.{take-append-drop, take-append-le, drop-take, drop-drop, take_more, map-append, length-map, take_all}
pub use Rattle.std.proofs.lemmas.List.{reverse-append, drop_more}
pub use Rattle.std.proofs.lemmas.List.Folds.{list_any-append}
pub use Rattle.std.proofs.lemmas.List.Sums.{prefix_len_is, fold-append}
pub use Rattle.std.specs.List.{prefix_len, list_any, AllByRecursion}
pub use Rattle.std.specs.Option.{option_to_list, option_map, option_copied, option_map_or}
pub use Rattle.tal_labels.specs.Adding.{shape_added, open_word, word_added, open_given, adding_kinds, validated_added}
unfoldable pub use Rattle.tal_labels.specs.Adding.{added_fault, open_ones}
pub use Rattle.tal_labels.specs.Answers.{next_address, next_scope, label_of, waiting_step, FindsNone}
pub use Rattle.tal_labels.specs.Labels.{defined_name, labels_given, label_name, last_label, label_at, HasNoBlank, IsNamed}
unfoldable pub use Rattle.tal_labels.specs.Labels.{scope_after, labels_of}
pub use Rattle.tal_labels.specs.Placers.{PlacerModel, PlacerIsMaintained, next_fault, closed_labels, closed_opener, openers_step, WereAdded, kept_by}
pub use Rattle.tal_labels.specs.Placers.{closed_at, PlacesNext, IsStep}
pub use Rattle.tal_labels.specs.Places.{pad_value, moves, moved_since_pad, form_moves}
unfoldable pub use Rattle.tal_labels.specs.Places.{address_after, addresses_of}
pub use Rattle.tal_labels.specs.Placing.{is_mark_form, is_defined, place_kinds, validated_place, ends_above, lambda_address, placed_given, ends_given}
pub use Rattle.tal_labels.specs.Placing.{LieApart, formed_marks, Layout, layout_of, formed_size}
unfoldable pub use Rattle.tal_labels.specs.Placing.{placed_of, placing_fault, place_fault, ends_of}
pub use Rattle.tal_labels.specs.Shapes.{closer_of, shape_kinds, closing_distance, validated_shape, open_after, is_at, closes_one_of}
unfoldable pub use Rattle.tal_labels.specs.Shapes.{open_count, shape_fault, closers_of}
pub use Rattle.tal_labels.specs.declared.placed.PlacedWord.{PlacedWord}
pub use Rattle.tal_labels.specs.declared.placer.Placer.{Placer}
pub use Rattle.tal_words.proofs.OrderLemmas.{last_of-more, no_word, collected-more, get_or-each, length-each, each-end, each-step, each-more}
pub use Rattle.tal_words.proofs.FirstLemmas.{no_kind}
pub use Rattle.tal_words.proofs.PassLemmas.{none-at, fault-here, fault-later, fault-behind, fault-prefix, fault_or-none}
pub use Rattle.tal_words.specs.Braces.{opens, closes, matching_after, one_if}
pub use Rattle.tal_words.specs.Faults.{fault_at, phase_fault, Validated, Gives}
pub use Rattle.tal_words.specs.Forms.{size, encoded}
unfoldable pub use Rattle.tal_words.specs.Forms.{form}
pub use Rattle.tal_words.specs.Labels.{address_named}
pub use Rattle.tal_words.specs.Names.{scope_of, first_scope, full_name, slash, rune_of}
unfoldable pub use Rattle.tal_words.specs.Names.{name_fault}
pub use Rattle.tal_words.specs.Order.{each, last_of, collected}
pub use Rattle.tal_words.specs.Source.{bytes_at, expanded_text}
pub use Rattle.tal_words.specs.declared.fault.Fault.{Fault}
pub use Rattle.tal_words.specs.declared.fault.FaultKind.{FaultKind}
pub use Rattle.tal_words.specs.declared.form.Form.{Form}
pub use Rattle.tal_words.specs.declared.form.Form.TheVariants.{LabelDef, LambdaEnd, Pad, SubDef}
pub use Rattle.tal_words.specs.declared.span.Expanded.{Expanded}
pub use Rattle.tal_words.specs.declared.span.Span.{Span}
