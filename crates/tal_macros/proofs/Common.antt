-- The names that most proofs of this crate cite, passed on from one place. Declares nothing.
pub use Rattle.std.proofs.Common.{ap, sym, ◌∙◌, ◌≡◌, ℕ, suc, ◌+◌, ◌-◌, ◌<◌, ◌≤◌, Bool, true, false, ◌&&◌, ◌==◌, List, [], ◌∷◌, map, length, take, drop}
pub use Rattle.std.proofs.Common.{Option, Some, None, refl, arith, ◌++◌, zero, append-nil, add-one, inl, length-append, ◌⊎◌, inr, is_some}
pub use Rattle.std.proofs.Common.{append_assoc}
pub use Rattle.std.specs.Prelude.{if◌then◌else◌, unwrap_or, Vec, not}
pub use Rattle.std.proofs.lemmas.Bool.{ne_eqb, eqb-true, lt-leb}
pub use Rattle.std.proofs.lemmas.Grind.{common_steps, flat_map-append}
pub use Rattle.std.proofs.lemmas.List.{drop_all, drop_more, map-append, length-map, length-take, take-append-drop, drop-drop, length-drop}
pub use Rattle.std.specs.List.{find, flat_map, AllByRecursion}
pub use Rattle.std.specs.Option.{option_map, option_or, option_to_list}
pub use Rattle.tal_macros.specs.Bodies.{body_words, word_at, known_macros}
pub use Rattle.tal_macros.specs.Expansion.{body_after, body_named, Macro, Part, Plain, Head, Inside, Visited, body_defined, part_of, parts_from}
pub use Rattle.tal_macros.specs.Expansion.{head_length, macro_given, visits_given, without_uses, visit_kinds, visited, head_faults, validated_visits}
pub use Rattle.tal_macros.specs.Expansion.{validated_part}
unfoldable pub use Rattle.tal_macros.specs.Expansion.{known_at, visits, visit_list, parts_of, expanded_of, expansion_fault}
pub use Rattle.tal_macros.specs.Heads.{is_head, IsBody}
pub use Rattle.tal_macros.specs.Passing.{fault_of, Passes, Visits, Follows, Continues, RefusesInSteps, open_visits, steps_from, to_go}
unfoldable pub use Rattle.tal_macros.specs.Passing.{left, rest}
pub use Rattle.tal_macros.specs.Steps.{reached, Progress, given, words_left, next_word, count_to_next, advanced, steps_given, visit_steps}
pub use Rattle.tal_macros.specs.Steps.{ExpansionStep}
unfoldable pub use Rattle.tal_macros.specs.Steps.{visits_before_fault}
pub use Rattle.tal_macros.specs.declared.body.Body.{Body}
pub use Rattle.tal_macros.specs.declared.pass.Pass.{Pass}
unfoldable pub use Rattle.tal_words.specs.Comments.{words_of}
pub use Rattle.tal_words.specs.Faults.{Validated, fault_at, when, phase_fault}
unfoldable pub use Rattle.tal_words.specs.Names.{name_fault}
pub use Rattle.tal_words.specs.Order.{collected}
pub use Rattle.tal_words.specs.PlainTexts.{IsBlankFree, IsPlainWord}
pub use Rattle.tal_words.specs.Source.{begins, is_only, word_text, bytes_at, expanded_text}
pub use Rattle.tal_words.specs.declared.fault.FaultKind.{FaultKind}
pub use Rattle.tal_words.specs.declared.span.Expanded.{Expanded}
pub use Rattle.tal_words.specs.declared.span.Word.{Word}
pub use Rattle.uxn_limits.specs.declared.limits.TheConstants.{MACRO_DEPTH, VISIT_LIMIT}
