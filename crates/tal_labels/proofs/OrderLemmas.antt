-- What is wrong with a word stands in the order of its kinds.
use Rattle.std.proofs.Common.{◌≡◌, ℕ, Bool, true, List, Result, Ok, Err, refl}
use Rattle.tal_words.specs.declared.span.Expanded.{Expanded}
use Rattle.tal_words.specs.declared.form.Form.{Form}
use Rattle.tal_words.specs.declared.fault.FaultKind.{FaultKind}
use Rattle.tal_words.specs.declared.fault.FaultKind.TheVariants.{StrayBrace, OpenBrace, LabelTwice, ZeroPage, Outside, Rewind}
use Rattle.tal_words.specs.FirstFault.{are_in_order}
use Rattle.tal_words.proofs.FirstLemmas.{two_in_order, four_in_order}
use Rattle.tal_labels.specs.Shapes.{shape_kinds}
use Rattle.tal_labels.specs.Placing.{validated_place}

pub shape_in_order : (form : Result Form FaultKind) (text : List ℕ) (depth : ℕ) (is_closed : Bool)
    → are_in_order (shape_kinds form text depth is_closed) ≡ true
shape_in_order (Err kind) text depth is_closed = refl
shape_in_order (Ok shape) text depth is_closed = two_in_order _ _ true true StrayBrace OpenBrace StrayBrace StrayBrace refl

pub place_in_order : (source : List ℕ) (before after : List Expanded) (word : Expanded)
    → are_in_order (validated_place source before word after).kinds ≡ true
place_in_order source before after word = four_in_order _ _ _ _ LabelTwice ZeroPage Outside Rewind refl
