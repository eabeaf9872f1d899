use Rattle.tal_rom.proofs.Common.{◌≡◌, refl, sym, ap, ◌∙◌, arith, IfOk-weaker, expanded_of, Progress, given, words_left, advanced, given-whole, next-visited}
use Rattle.tal_rom.proofs.OnePass.{few, was_given, further, ended, faulty, not_taken}
use Rattle.tal_rom.proofs.assembly.add_all.Goals as goal

pub add-requires-in-Some-clause-given : goal.add-requires-in-Some-clause-given
add-requires-in-Some-clause-given c =
    let next = rw c.in-Ok-Some.field-0-is at c.in-Ok-Some.ensures.answer in (
      given c.loop-word.expander,
      was_given _ _ _ _ c.loop-word.invariant c.in-Ok-Some.word next c.in-Some.placed
          (λ words few added. sym c.in-Some.is ∙ c.in_ok-placed-in-Ok-Some.ensures.value words few added),
    )

pub loop-word-smaller : goal.loop-word-smaller
loop-word-smaller c =
    let next = rw c.in-Ok-Some.field-0-is at c.in-Ok-Some.ensures.answer in
    let moved : c.next.new.self ≡ advanced c.loop-word.expander = c.in-Ok-Some.ensures.progress in
    omega (arith, next-visited (words_left c.loop-word.expander) c.in-Ok-Some.word next, ap (λ (p : Progress). p.visited) moved)

pub loop-word-preserved : goal.loop-word-preserved
loop-word-preserved c =
    let next = rw c.in-Ok-Some.field-0-is at c.in-Ok-Some.ensures.answer in
    let moved : c.next.new.self ≡ advanced c.loop-word.expander = c.in-Ok-Some.ensures.progress in
    rw moved (further _ _ _ _ c.loop-word.invariant c.in-Ok-Some.word next c.in-Some.placed
    (λ words few added. sym c.in-Some.is ∙ c.in_ok-placed-in-Ok-Some.ensures.value words few added) _ _
    (rw moved at c.in-Ok-Some.ensures.bound) c.in_ok-placed-in-Ok-Some.ensures.added c.in_ok-add-in-Some.ensures.added)

pub returns-in-Ok-None : goal.returns-in-Ok-None
returns-in-Ok-None c =
    let so = c.loop-word.invariant in
    let next = rw c.in-Ok-None.field-0-is at c.in-Ok-None.ensures.answer in
    let faultless = rw so.reads at next.1 in
    let whole = given-whole c.loop-word.expander next.0 next.1 ∙ ap expanded_of so.reads in
    IfOk-weaker c.rom.result _ _ (λ found of_words.
    ended c.args.source.now c.loop-word.placer faultless (rw whole at so.added) found (of_words _ _ (rw whole at so.patched))) c.rom.ensures

pub returns-in-None : goal.returns-in-None
returns-in-None c =
    let so = c.loop-word.invariant in
    let next = rw c.in-Ok-Some.field-0-is at c.in-Ok-Some.ensures.answer in
    let none = sym c.in-None.is ∙ c.in_ok-placed-in-Ok-Some.ensures.value (given c.loop-word.expander) (few _ _ _ _ so) so.added in
    rw so.reads at (not_taken c.loop-word.expander c.in-Ok-Some.word next (rw (← so.reads) at none))

pub returns-in-Err-Refused : goal.returns-in-Err-Refused
returns-in-Err-Refused c =
    let next = rw c.in-Err-Refused.field-0-is at c.in-Err-Refused.ensures.answer in
    faulty c.args.source.now (rw (rw c.loop-word.invariant.reads at next.1) refl)
