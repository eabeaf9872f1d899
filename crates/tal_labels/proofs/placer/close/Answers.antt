use Rattle.tal_labels.proofs.Common.{◌≡◌, ℕ, zero, suc, ◌<◌, ◌≤◌, List, [], ◌∷◌, length, get_or, Some, refl, sym, ◌∙◌, ap, arith, slice_set}
use Rattle.tal_labels.proofs.Common.{PlacedWord, closed_at, closed_labels}
use Rattle.tal_labels.proofs.placer.close.Goals as goal

closed_at-set : (at address : ℕ) (words : List PlacedWord) (word : PlacedWord) → word ≡ get_or words at word → at < length words → slice_set words at (record word { lambda = Some address }) ≡ closed_at at address words
closed_at-set at address [] word e h = absurd (omega arith)
closed_at-set zero address (first ∷ words) word e h = (let contents : PlacedWord → List PlacedWord = λ w. record w { lambda = Some address } ∷ words in ap contents e)
closed_at-set (suc at) address (first ∷ words) word e h = ap (λ ws. first ∷ ws) (closed_at-set at address words word e (omega arith))

closed_at-past : (at address : ℕ) (words : List PlacedWord) → length words ≤ at → closed_at at address words ≡ words
closed_at-past at address [] h = refl
closed_at-past zero address (first ∷ words) h = absurd (omega arith)
closed_at-past (suc at) address (first ∷ words) h = ap (λ ws. first ∷ ws) (closed_at-past at address words (omega arith))

pub returns-then-at-len : goal.returns-then-at-len
returns-then-at-len c =
    closed_at-set c.in-Some.at c.args.address c.args.words.now.items c.index-word.result.now c.index-word.ensures (omega (arith, c.len.ensures))
    ∙ ap (λ o. closed_labels o c.args.address c.args.words.now.items) (sym c.in-Some.is)

pub returns-else-at-len : goal.returns-else-at-len
returns-else-at-len c =
    grind (arith, closed_at-past c.in-Some.at c.args.address c.args.words.now.items (omega (arith, c.len.ensures)), c.in-Some.is)
