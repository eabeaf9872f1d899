use Rattle.std.proofs.Common.{append_assoc, length-append}
use Rattle.tal_macros.proofs.Common.{◌≡◌, ◌∷◌, [], ◌++◌, length, ap, sym, ◌∙◌, arith, expanded_of, Progress, given, words_left, advanced}
use Rattle.tal_macros.proofs.GivenLemmas.{given-more, given-whole, given-few, next-visited}
use Rattle.tal_macros.proofs.expansion.Expander.rest.Goals as goal

pub loop-expanded-smaller : goal.loop-expanded-smaller
loop-expanded-smaller c =
    let next = rw c.in-Some.is at c.in_ok-word.ensures.answer in
    let moved : c.next.new.self ≡ advanced c.loop-expanded.self = c.in_ok-word.ensures.progress in
    omega (arith, next-visited (words_left c.loop-expanded.self) c.in-Some.word next, ap (λ (p : Progress). p.visited) moved, c.next.ensures.bound)

pub loop-expanded-preserved : goal.loop-expanded-preserved
loop-expanded-preserved c =
    let next = rw c.in-Some.is at c.in_ok-word.ensures.answer in
    let moved : c.next.new.self ≡ advanced c.loop-expanded.self = c.in_ok-word.ensures.progress in
    record {
      words =
          ap (λ words. given c.args.self.now ++ words) c.in_ok-push.ensures.items ∙ sym (append_assoc (given c.args.self.now) c.loop-expanded.expanded.items (c.in-Some.word ∷ []))
          ∙ ap (λ words. words ++ c.in-Some.word ∷ []) c.loop-expanded.invariant.words
          ∙ sym (given-more c.loop-expanded.self c.in-Some.word next) ∙ ap given (sym moved);
      source = ap (λ (p : Progress). p.source) moved ∙ c.loop-expanded.invariant.source;
      bound = c.next.ensures.bound;
    }

pub returns-clause-value : goal.returns-clause-value
returns-clause-value c =
    let next = rw c.in_default.is at c.in_ok-word.ensures.answer in
    let source = c.loop-expanded.invariant.source in
    let faultless = rw source at next.1 in (
      faultless,
      c.loop-expanded.invariant.words ∙ given-whole c.loop-expanded.self next.0 next.1 ∙ ap expanded_of source,
    )

pub returns-clause-few : goal.returns-clause-few
returns-clause-few c =
    omega (arith, ap length c.loop-expanded.invariant.words, length-append (given c.args.self.now) c.loop-expanded.expanded.items, given-few c.loop-expanded.self, c.loop-expanded.invariant.bound)
