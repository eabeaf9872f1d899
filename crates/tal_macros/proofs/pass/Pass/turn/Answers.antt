use Rattle.tal_macros.proofs.Common.{◌++◌, inl, Option, refl, ap, ◌∙◌, arith, ◌∷◌, [], length, length-append, option_to_list, Body, known_macros, left}
use Rattle.tal_macros.proofs.PassLemmas.{pending-push, continues-same}
use Rattle.tal_macros.proofs.pass.Pass.turn.Goals as goal

pub returns-in-Some-pop : goal.returns-in-Some-pop
unfolding left
returns-in-Some-pop c =
    let s = c.args.self.now in
    let parts = c.pop.ensures.items ∙ ap (λ (last : Option Body). c.pop.new.self.items ++ option_to_list last) c.in-Some-pop.is in
    let around = pending-push c.args.source.now c.args.words.now (known_macros c.args.words.now s.macros.entries) s.origin s.outer.items c.pop.new.self.items s.body c.in-Some-pop.body parts in
    (inl (record { continues = continues-same _ _ (rw (around, c.in_default.ensures.word) refl); count = refl }), omega (arith, ap length parts, length-append c.pop.new.self.items (c.in-Some-pop.body ∷ [])))
