use Rattle.tal_labels.proofs.Common.{◌≡◌, ℕ, Bool, not, ◌&&◌, List, [], ◌∷◌, length, Option, Some, None, refl, sym, ◌∙◌, ap, arith, ◌==◌, is_some}
use Rattle.tal_labels.proofs.Common.{nat_tests, Expanded, Fault, Placer, added_fault, open_ones, place_fault, WereAdded}
use Rattle.tal_labels.proofs.OpenLemmas.{twice}
use Rattle.tal_labels.proofs.IndexLemmas.{none_since}
use Rattle.tal_labels.proofs.AddingLemmas.{place-none, added-none}
use Rattle.tal_labels.proofs.placer.Placer.finish.Goals as goal

whole_step : (faulty : Bool) (added place : Option Fault) (openers ones : List ℕ) → faulty ≡ is_some added → (added ≡ None → openers ≡ ones)
    → (added ≡ None → ones ≡ [] → place ≡ None) → (place ≡ None → (added ≡ None) × (ones ≡ [])) → (not faulty && length openers == 0) ≡ not (is_some place)
whole_step faulty added place openers [] e same sound parts = grind (arith, nat_tests)
whole_step faulty added place openers (one ∷ ones) e same sound parts = grind (arith, nat_tests)

-- a placer is whole where no word has a fault
whole_is : (source : List ℕ) (words : List Expanded) (placer : Placer) → WereAdded source words placer → (whole : Bool) → whole ≡ (not placer.is_faulty && length placer.openers.items == 0)
    → is_some (place_fault source words) ≡ not whole
whole_is source words placer so whole e =
    let step = whole_step _ (added_fault source words) (place_fault source words) _ (open_ones source words) so.faulty (λ none. (so.kept none).openers) (place-none source words) (added-none source words) in
    twice (is_some (place_fault source words)) ∙ ap not (sym (e ∙ step))

pub returns-then-not-is_whole : goal.returns-then-not-is_whole
returns-then-not-is_whole c source words so = rw (whole_is source words c.args.self so _ c.if-not-is_whole.ensures) refl

pub returns : goal.returns
returns c source words so =
    let none = whole_is source words c.args.self so _ c.if-not-is_whole.ensures in
    let kept = so.kept (added-none source words (none_since _ none)).0 in
    rw none (ap Some (rw (kept.placed, kept.labels) at c.new.ensures))
