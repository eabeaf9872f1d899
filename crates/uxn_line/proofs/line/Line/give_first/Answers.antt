use Rattle.uxn_line.proofs.Common.{List, drop, refl, ap, sym, ◌∙◌, Waits, PendingInput}
use Rattle.uxn_line.proofs.Feeding.{found-open, idle-at, first-came, none-is}
use Rattle.uxn_line.proofs.Running.{still-came}
use Rattle.uxn_line.proofs.line.Line.give_first.Goals as goal

pub returns-in_default : goal.returns-in_default
returns-in_default c =
    let line = c.args.self.now in
    let none = none-is line.input_queue (sym c.take.ensures.value ∙ c.in_default.is) in
    rw (c.take.ensures.rest ∙ ap (λ (queue : List PendingInput). drop 1 queue) none ∙ sym none) (still-came line 0 Waits refl
    (λ job turned stands. absurd ((idle-at c.requires.0 _ (stands.each 0 c.requires.0 c.requires.1.there).stands c.requires.1.idle
    c.requires.1.goes_on).some (sym stands.script ∙ none))))

pub returns : goal.returns
returns c =
    let line = c.args.self.now in
    let member = c.index_mut.result.now in
    first-came line _ member c.give.new.self _ c.is_empty-last.result (found-open line 0 member c.requires c.index_mut.ensures.value) refl refl
    (sym c.take.ensures.value ∙ c.in-Some.is) c.take.ensures.rest c.is_empty-last.ensures c.give.ensures
