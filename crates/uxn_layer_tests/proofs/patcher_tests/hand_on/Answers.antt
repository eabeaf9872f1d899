use Rattle.std.proofs.Common.{◌≡◌, sym, ◌∙◌}
use Rattle.tal_macros.specs.Steps.{given, advanced}
use Rattle.tal_rom.proofs.OnePass.{was_given, further}
use Rattle.uxn_layer_tests.proofs.patcher_tests.hand_on.Goals as goal

pub add-requires-in-Some-2-clause-given : goal.add-requires-in-Some-2-clause-given
add-requires-in-Some-2-clause-given c =
    let next = rw c.in-Some.is at c.in_ok-word.ensures.answer in (
      given c.args.expander.now,
      was_given _ _ _ _ c.requires.so c.in-Some.word next c.in-Some-2.placed
          (λ words few added. sym c.in-Some-2.is ∙ c.in_ok-placed.ensures.value words few added),
    )

pub returns-in-Some-2 : goal.returns-in-Some-2
returns-in-Some-2 c = λ _.
    let next = rw c.in-Some.is at c.in_ok-word.ensures.answer in
    let moved : c.next.new.self ≡ advanced c.args.expander.now = c.in_ok-word.ensures.progress in
    rw moved (further _ _ _ _ c.requires.so c.in-Some.word next c.in-Some-2.placed
    (λ words few added. sym c.in-Some-2.is ∙ c.in_ok-placed.ensures.value words few added) _ _
    (rw moved at c.in_ok-word.ensures.bound) c.in_ok-placed.ensures.added c.in_ok-add.ensures.added)
