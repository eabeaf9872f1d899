use Rattle.tal_labels.proofs.Common.{◌≡◌, ap, sym, ◌∙◌, List, Option, Some, None, false, Err, length, take, drop, get_or, arith, refl, ℕ, ◌<◌, ◌≤◌}
use Rattle.tal_labels.proofs.Common.{cond, is_some, take_more, take_all, Expanded, Fault, Gives, phase_fault, each, no_word, each-end, Placer}
use Rattle.tal_labels.proofs.Common.{FindsNone, added_fault, shape_fault, Layout, layout_of, validated_place, placing_fault, place_fault, PlacerModel}
use Rattle.tal_labels.proofs.Common.{PlacerIsMaintained, WereAdded, PlacesNext, kept_by}
use Rattle.std.proofs.Common.{length-take}
use Rattle.std.proofs.lemmas.Result.{err_from_is_err_and}
use Rattle.tal_words.specs.declared.fault.AsmStop.{AsmStop}
use Rattle.tal_words.specs.declared.fault.AsmStop.TheVariants.{Refused, NoMemory}
use Rattle.tal_labels.proofs.AddingLemmas.{place-later, place-here}
use Rattle.tal_labels.proofs.CallerLemmas.{lie_apart}
use Rattle.tal_labels.proofs.placing.place.Goals as goal

placing_next : (source : List ℕ) (words : List Expanded) (o : Option Fault) → shape_fault source words ≡ None → placing_fault source words ≡ o → place_fault source words ≡ o
unfolding place_fault
placing_next source words o e f = rw e f

stopped_shape : (source : List ℕ) (words : List Expanded) (stop : AsmStop) → FindsNone (Err stop) (shape_fault source words) → Gives (λ layout. layout) (Err stop) (place_fault source words) (layout_of source words)
unfolding place_fault
stopped_shape source words (Refused found) e = rw e refl
stopped_shape source words NoMemory e = tt

stopped_place : (source : List ℕ) (words : List Expanded) (k : ℕ) (new : PlacerModel) (stop : AsmStop) → shape_fault source words ≡ None → k < length words
    → phase_fault (each (validated_place source) (take k words) (drop k words)) ≡ placing_fault source words
    → PlacesNext source (take k words) (get_or words k no_word) (Err stop) new → Gives (λ layout. layout) (Err stop) (place_fault source words) (layout_of source words)
stopped_place source words k new (Refused found) shaped within so e = placing_next source words (Some found) shaped (sym so ∙ place-here source words k found shaped within e)
stopped_place source words k new NoMemory shaped within so e = tt

-- after the last word
ended : (source : List ℕ) (words : List Expanded) (k : ℕ) (placer : Placer) → length words ≤ k → PlacerIsMaintained source (take k words) (kept_by placer) → placer.is_faulty ≡ false → shape_fault source words ≡ None
    → phase_fault (each (validated_place source) (take k words) (drop k words)) ≡ placing_fault source words
    → (o : Option Layout) → ((source : List ℕ) (words : List Expanded) → WereAdded source words placer → o ≡ cond (is_some (place_fault source words)) None (Some (layout_of source words)))
    → (o ≡ Some (layout_of source words)) × (place_fault source words ≡ None) × (placing_fault source words ≡ None)
ended source words k placer past kept flag shaped so o e =
    let whole = rw (take_all k words past) at kept in
    let placed : placing_fault source words ≡ None = sym so ∙ ap phase_fault (each-end (validated_place source) words k past) in
    let sound = placing_next source words None shaped placed in
    (rw sound at (e source words (record { faulty = rw whole.sound flag; kept = λ _. whole })), sound, placed)

inside : (a b : Layout) → Some a ≡ Some b → a ≡ b
inside a b e = cc

pub loop-word-init : goal.loop-word-init
unfolding added_fault placing_fault
loop-word-init c =
    let new = c.new-placer.ensures c.args.source.now in
    record { kept = new.kept refl; flag = new.faulty; sound = refl }

pub loop-word-preserved : goal.loop-word-preserved
loop-word-preserved c =
    let k = c.loop-word.word-index in
    let few : length (take k c.args.words.now) < 2147483647 = omega (arith, c.requires.few, length-take k c.args.words.now) in
    let placed = c.in_ok-place_next.ensures.value (take k c.args.words.now) few c.loop-word.invariant.kept in
    record {
      kept = rw (take_more c.args.words.now k no_word c.loop-word-test.true) placed.3;
      flag = c.in_ok-place_next.ensures.flag ∙ c.loop-word.invariant.flag;
      sound = place-later c.args.source.now c.args.words.now k c.in_ok-check_shapes.ensures c.loop-word-test.true placed.0 ∙ c.loop-word.invariant.sound;
    }

pub returns-in_err-check_shapes-clause-value : goal.returns-in_err-check_shapes-clause-value
returns-in_err-check_shapes-clause-value c =
    let p = err_from_is_err_and c.from_residual.result c.from_residual.ensures.1 in
    rw (p.1, p.2) (stopped_shape c.args.source.now c.args.words.now c.in_err-check_shapes.field-0.0 c.in_err-check_shapes.ensures)

pub returns-in_err-place_next-clause-value : goal.returns-in_err-place_next-clause-value
returns-in_err-place_next-clause-value c =
    let p = err_from_is_err_and c.from_residual-in_err-place_next.result c.from_residual-in_err-place_next.ensures.1 in
    let k = c.loop-word.word-index in
    let few : length (take k c.args.words.now) < 2147483647 = omega (arith, c.requires.few, length-take k c.args.words.now) in
    rw (p.1, p.2) (stopped_place c.args.source.now c.args.words.now k (kept_by c.place_next.new.self) c.in_err-place_next.field-0.0 c.in_ok-check_shapes.ensures c.loop-word-test.true
    c.loop-word.invariant.sound (c.in_err-place_next.ensures.value (take k c.args.words.now) few c.loop-word.invariant.kept))

pub unreachable-requires : goal.unreachable-requires
unreachable-requires c =
    let so = c.loop-word.invariant in let never = (ended _ _ _ _ c.loop-word-test.false so.kept so.flag c.in_ok-check_shapes.ensures so.sound None c.in-None.ensures).0 in
    cc

pub returns-clause-value : goal.returns-clause-value
returns-clause-value c =
    let so = c.loop-word.invariant in let all = ended _ _ _ _ c.loop-word-test.false so.kept so.flag c.in_ok-check_shapes.ensures so.sound (Some c.in-Some.placed) c.in-Some.ensures in
    (all.1, inside _ _ all.0)

pub returns-clause-apart : goal.returns-clause-apart
returns-clause-apart c =
    let so = c.loop-word.invariant in let all = ended _ _ _ _ c.loop-word-test.false so.kept so.flag c.in_ok-check_shapes.ensures so.sound (Some c.in-Some.placed) c.in-Some.ensures in
    rw (ap (λ (layout : Layout). layout.words) (inside _ _ all.0)) (lie_apart c.args.source.now c.args.words.now c.in_ok-check_shapes.ensures all.2)
