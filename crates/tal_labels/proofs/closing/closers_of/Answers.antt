use Rattle.tal_labels.proofs.Common.{arith, ◌≡◌, ◌∙◌, ap, sym, get_or, ◌+◌, ◌-◌, ◌<◌, length, drop, take, reverse, cond, None, slice_get}
use Rattle.tal_labels.proofs.Common.{reverse-append, opens, expanded_text, each, closer_of, closers_of, no_word}
use Rattle.tal_labels.proofs.ClosingLemmas.{waiting_from, waiting-step, closer-step}
use Rattle.tal_labels.proofs.closing.closers_of.Goals as goal

pub loop-at-preserved : goal.loop-at-preserved
loop-at-preserved c =
    let source = c.args.source.now in
    let words = c.args.words.now in
    let at = c.loop-at.at - 1 in
    let next : c.loop-at.at ≡ at + 1 = omega arith in
    let within : at < length words = omega (arith, c.loop-at.invariant.within) in
    let text = expanded_text source (get_or words at no_word) in
    let read : c.text.result.now ≡ text = c.text.ensures in
    let rest = waiting_from source (at + 1) (drop (at + 1) words) in
    let waits : reverse c.loop-at.waiting.items ≡ rest = c.loop-at.invariant.waiting ∙ ap (λ n. waiting_from source n (drop n words)) next in
    let found : c.in_ok-closer.closer ≡ cond (opens text) (slice_get rest 0) None = rw (← read, ← waits) c.in_ok-closer.ensures.value in
    let later = c.loop-at.invariant.closers ∙ ap (λ n. each (closer_of source) (take n words) (drop n words)) next in
    record {
      within = omega arith;
      waiting = c.in_ok-closer.ensures.rest ∙ rw (read, waits) (sym (waiting-step source words at no_word within));
      closers = rw (c.in_ok-push.ensures.items, reverse-append, found, later) (sym (closer-step source words at no_word within));
    }

pub returns : goal.returns
unfolding closers_of
returns c =
    let first : c.loop-at.at ≡ 0 = omega arith in
    c.reverse.ensures.items ∙ rw first at c.loop-at.invariant.closers
