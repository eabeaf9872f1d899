use Rattle.tal_rom.proofs.Common.{◌≡◌, None, Some, rules, sym, ap, ◌∙◌}
use Rattle.tal_rom.proofs.Checking.{nothing_checked, next_checked, faulty_reference, all_checked, word-address}
use Rattle.tal_rom.proofs.references.check_references.Goals as goal

pub loop-word-init : goal.loop-word-init
loop-word-init c = nothing_checked _ _ _ (rw c.words-words.ensures c.requires)

pub reference_kind-requires : goal.reference_kind-requires
reference_kind-requires c = word-address _ _ _ _ _ c.loop-word-test.true c.loop-word.invariant

pub loop-word-preserved : goal.loop-word-preserved
loop-word-preserved c =
    let none : c.reference_kind.result ≡ None = search rules in
    next_checked _ _ _ _ _ c.loop-word-test.true c.loop-word.invariant _ _ c.text-text.ensures c.in_ok-target.ensures _
    (sym c.reference_kind.ensures ∙ none) c.next_scope-scope.ensures

pub returns-in-Some : goal.returns-in-Some
returns-in-Some c =
    let fault =
    faulty_reference _ _ _ _ _ c.loop-word-test.true c.loop-word.invariant _ _ c.text-text.ensures c.in_ok-target.ensures c.in-Some.kind
    (sym c.in-Some.ensures) in
    rw c.words-words.ensures at (fault ∙ sym (ap Some c.new.ensures))

pub returns : goal.returns
returns c = rw c.words-words.ensures at (all_checked _ _ _ _ _ c.loop-word-test.false c.loop-word.invariant)
