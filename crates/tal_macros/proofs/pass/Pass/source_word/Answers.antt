use Rattle.tal_macros.proofs.Common.{inl, refl, ap, sym, ◌∙◌, arith, begins, known_macros, left}
use Rattle.std.proofs.lemmas.Result.{err_from_is_err_and}
use Rattle.tal_macros.proofs.PassLemmas.{steps-end, steps-source, continues-same, left-nothing}
use Rattle.tal_macros.proofs.pass.Pass.source_word.Goals as goal

pub returns-then-self-words : goal.returns-then-self-words
unfolding left
returns-then-self-words c = (
  rw (c.requires.body, c.requires.outer) (steps-end c.args.source.now c.args.words.now (known_macros c.args.words.now c.args.self.now.macros.entries) c.args.self.now.count c.args.self.now.at c.if-self-words.true),
  record { continues = continues-same _ _ refl; count = refl },
)

pub returns-in_err-body : goal.returns-in_err-body
unfolding left
returns-in_err-body c =
    let p = err_from_is_err_and c.from_residual.result c.from_residual.ensures.1 in
    rw (p.1, p.2)
    (rw (c.requires.body, c.requires.outer, left-nothing) (c.in_err-body.ensures.stops c.args.self.now.count), record { continues = continues-same _ _ (rw c.in_err-body.ensures.known refl); count = refl })

pub returns-in_ok-body : goal.returns-in_ok-body
unfolding left
returns-in_ok-body c = (
  inl (record { continues = rw (c.requires.body, c.requires.outer, left-nothing, left-nothing) (c.in_ok-body.ensures.continues c.args.self.now.count); count = refl }),
  omega (arith, c.in_ok-body.ensures.ahead, c.in_ok-body.ensures.within),
)

pub returns-else-begins : goal.returns-else-begins
unfolding left
returns-else-begins c =
    let plain = ap (begins 37) (sym c.text.ensures) ∙ sym c.begins.ensures ∙ c.if-begins.false in
    let steps = steps-source c.args.source.now c.args.words.now (known_macros c.args.words.now c.args.self.now.macros.entries) c.args.self.now.count c.args.self.now.at (omega arith) plain in
    (inl (record { continues = continues-same _ _ (rw (c.requires.body, c.requires.outer) steps); count = refl }), omega arith)
