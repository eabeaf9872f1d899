-- The names that most proofs of this crate cite, passed on from one place. Declares nothing.
pub use Rattle.std.proofs.Common.{◌≡◌, ℕ, ◌+◌, true, false, not, List, [], ◌∷◌, ◌++◌, length, map, Option, None, refl, ap, arith, sym, ◌∙◌}
pub use Rattle.std.proofs.Common.{append-nil, ◌<◌, ◌≤◌, Bool, ◌&&◌, get_or, Some, cond, find, take, length-take, Ok, drop, ◌-◌, rules, ◌*◌, replicate}
pub use Rattle.std.proofs.Common.{inl, inr, length-append, Err, ◌≢◌, suc, ◌||◌, zero}
pub use Rattle.std.specs.Prelude.{slice_set, if◌then◌else◌, fold, unwrap_or, min, is_some}
pub use Rattle.std.proofs.Math.Seq.{get_or-append_right}
pub use Rattle.std.proofs.lemmas.Bool.{false_from_ne_true, ne_eqb}
pub use Rattle.std.proofs.lemmas.Bool.Decides.{nat_tests, Decides-eqb}
pub use Rattle.std.proofs.lemmas.List.{map-append, length-set, get_or-set_other, take_more, set_past, length-map, get_or_append_left}
pub use Rattle.std.proofs.lemmas.List.{length-replicate, replicate-append-replicate, get_or_past, get_or-replicate, ext_get_or, get_or-drop}
pub use Rattle.std.proofs.lemmas.List.{length-drop, drop_min, get_or-take}
pub use Rattle.std.proofs.lemmas.List.Folds.{find-append, list_any-append}
pub use Rattle.std.proofs.lemmas.List.FromFn.{get_or-map-range_with_len, length-map-range_with_len}
pub use Rattle.std.proofs.lemmas.List.Sums.{count_by-le-length, length-filter}
pub use Rattle.std.proofs.lemmas.Result.{err_from_is_err_and, IfOk-weaker, on_ok_weaker}
pub use Rattle.std.proofs.lemmas.Slice.Eq.{slice_eq-Decides, bytes_eq-Decides}
pub use Rattle.std.specs.Global.{Vec}
pub use Rattle.std.specs.List.{filter, list_any, range_with_len, AllByRecursion, list_all, flat_map}
pub use Rattle.std.specs.Str.{bytes_eq}
pub use Rattle.tal_labels.proofs.CallerLemmas.{place_fault-none, lie_apart}
pub use Rattle.tal_labels.proofs.IndexLemmas.{vec_eq, none_since}
pub use Rattle.tal_labels.proofs.LayingLemmas.{scope_after-append, labels_of-append}
pub use Rattle.tal_labels.specs.Adding.{word_added}
unfoldable pub use Rattle.tal_labels.specs.Adding.{added_fault, open_ones}
pub use Rattle.tal_labels.specs.Answers.{next_scope, label_of}
pub use Rattle.tal_labels.specs.Labels.{defined_name}
unfoldable pub use Rattle.tal_labels.specs.Labels.{labels_of, scope_after}
pub use Rattle.tal_labels.specs.Placers.{WereAdded, closed_at, closed_labels, closed_opener, openers_step, IsOpenAt}
unfoldable pub use Rattle.tal_labels.specs.Places.{address_after}
pub use Rattle.tal_labels.specs.Placing.{LieApart, lambda_address, placed_given, Layout, layout_of, is_mark_form, is_defined}
unfoldable pub use Rattle.tal_labels.specs.Placing.{placed_of, place_fault, ends_of}
pub use Rattle.tal_labels.specs.declared.placed.PlacedWord.{PlacedWord}
pub use Rattle.tal_macros.proofs.GivenLemmas.{given-whole, next-visited, given-more, given-few}
unfoldable pub use Rattle.tal_macros.specs.Expansion.{expanded_of, expansion_fault}
pub use Rattle.tal_macros.specs.Steps.{Progress, given, words_left, advanced, next_word}
pub use Rattle.tal_rom.specs.Answers.{HasAddress, CoverOnce}
pub use Rattle.tal_rom.specs.Assembly.{IsAssembled}
unfoldable pub use Rattle.tal_rom.specs.Assembly.{layout, first_fault, rom_of}
pub use Rattle.tal_rom.specs.Filling.{overlaid, filled_hole, is_definition, is_reference}
pub use Rattle.tal_rom.specs.Holes.{known_in, known_address, wanted_of, wanted_in}
pub use Rattle.tal_rom.specs.Passing.{IsOnItsWay, IsRom, AreAdded}
pub use Rattle.tal_rom.specs.Patchers.{added_span, span_of_word, IsAbove, IsBelow, AreAscending, WasGiven, WerePatched, PatchModel, PatchHolds}
pub use Rattle.tal_rom.specs.Patchers.{ComesNext, AreFilled, AreOpen, holes_by, hole_at, name_hole, holes_named, added_in, with_word, with_label}
pub use Rattle.tal_rom.specs.Patchers.{with_end, model_of}
pub use Rattle.tal_rom.specs.Patching.{Added, waits_by, waits, is_far_by, is_far, known_piece, added_given}
unfoldable pub use Rattle.tal_rom.specs.Patching.{added_of, waiting_count, all_fit, image_of}
pub use Rattle.tal_rom.specs.References.{target_of, reference_kinds, validated_reference, target_in, form_target}
unfoldable pub use Rattle.tal_rom.specs.References.{reference_fault, scope_behind}
pub use Rattle.tal_rom.specs.Rom.{piece_given, rom_limit, Piece, covers, byte_of_piece, before_trimmed}
unfoldable pub use Rattle.tal_rom.specs.Rom.{byte_at, pieces_of, rom_image, trimmed}
pub use Rattle.tal_rom.specs.declared.hole.Hole.{Hole}
pub use Rattle.tal_rom.specs.declared.hole.Named.{Named}
pub use Rattle.tal_rom.specs.declared.names.Names.{Names}
pub use Rattle.tal_rom.specs.declared.patch.Patch.{Patch}
pub use Rattle.tal_words.proofs.BlankFree.{all_joined}
pub use Rattle.tal_words.proofs.FormLemmas.{length-encoded}
pub use Rattle.tal_words.proofs.OrderLemmas.{each-end, each-more, no_word, get_or-each, last_of-more, by_last, both_nil, last_of_all}
pub use Rattle.tal_words.proofs.PassLemmas.{fault_or-none, fault-here, fault-later}
pub use Rattle.tal_words.specs.Braces.{opens, closes}
pub use Rattle.tal_words.specs.Faults.{phase_fault, fault_at, Gives}
pub use Rattle.tal_words.specs.Forms.{size, reaches, encoded_reference, encoded}
unfoldable pub use Rattle.tal_words.specs.Forms.{form}
pub use Rattle.tal_words.specs.Labels.{address_named}
pub use Rattle.tal_words.specs.Names.{first_scope, full_name, name_after_rune}
pub use Rattle.tal_words.specs.Order.{each, collected}
pub use Rattle.tal_words.specs.Source.{expanded_text}
pub use Rattle.tal_words.specs.declared.fault.Fault.{Fault}
pub use Rattle.tal_words.specs.declared.fault.FaultKind.{FaultKind}
pub use Rattle.tal_words.specs.declared.form.Form.{Form}
pub use Rattle.tal_words.specs.declared.form.Form.TheVariants.{Refer, Pad, Text, LabelDef, SubDef, LambdaEnd}
pub use Rattle.tal_words.specs.declared.form.Rune.{Rune}
pub use Rattle.tal_words.specs.declared.name.Label.{Label}
pub use Rattle.tal_words.specs.declared.span.Expanded.{Expanded}
pub use Rattle.uxn_limits.specs.declared.limits.TheConstants.{TEXT_LIMIT, VISIT_LIMIT}
