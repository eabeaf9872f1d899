use Rattle.tal_labels.proofs.Common.{◌≡◌, ℕ, ◌+◌, List, [], ◌∷◌, ◌++◌, length, Option, Some, None, refl, sym, ◌∙◌, ap, arith, MatchOption}
use Rattle.tal_labels.proofs.Common.{option_to_list, last_of, last_of-more}
use Rattle.tal_labels.proofs.placer.match_brace.Goals as goal

-- what is taken from the end is the last
popped : (before after : List ℕ) (o : Option ℕ) (m n : ℕ) → before ≡ after ++ option_to_list o → n ≡ length before → MatchOption o ((n ≡ 0) × (m ≡ 0)) (λ _. m + 1 ≡ n) → o ≡ last_of (λ at. Some at) before
popped before after (Some x) m n e size h = sym (ap (last_of (λ at. Some at)) e ∙ last_of-more (λ at. Some at) after x)
popped [] after None m n e size h = refl
popped (first ∷ before) after None m n e size h = absurd (omega (arith, h.0))

pub returns-then-closes-clause-value : goal.returns-then-closes-clause-value
returns-then-closes-clause-value c =
    grind (arith, popped c.args.openers.now.items c.pop.new.self.items c.pop.result _ _ c.pop.ensures.items (omega arith) c.pop.ensures.cases, c.if-opens.ensures, c.if-closes.ensures)
