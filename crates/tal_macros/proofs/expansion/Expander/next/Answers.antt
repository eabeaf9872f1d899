use Rattle.tal_macros.proofs.Common.{ap, sym, ◌∙◌, reached, fault_of}
use Rattle.tal_macros.proofs.FollowLemmas.{follows-turn, follows-given, next-given, next-none}
use Rattle.tal_macros.proofs.expansion.Expander.next.Goals as goal

pub loop-word-preserved : goal.loop-word-preserved
loop-word-preserved c =
    let turn = rw c.in-Ok-Passed.field-0-is at c.in-Ok-Passed.ensures in
    record {
      follows = follows-turn _ _ _ _ _ c.loop-word.invariant.follows turn.0;
      kept = c.loop-word.invariant.kept;
    }

pub invariant_of-self : goal.invariant_of-self
invariant_of-self c =
    let turn = rw c.in-Ok-Word.field-0-is at c.in-Ok-Word.ensures in
    follows-given _ _ _ _ _ c.loop-word.invariant.follows _ turn.3

pub returns-in-Ok-Word : goal.returns-in-Ok-Word
returns-in-Ok-Word c =
    let turn = rw c.in-Ok-Word.field-0-is at c.in-Ok-Word.ensures in
    let next = next-given _ _ _ _ _ c.loop-word.invariant.follows _ turn.3 turn.1 _ turn.2 in
    rw (← c.loop-word.invariant.kept) (record { answer = next.0; progress = next.1; bound = turn.3.bound })

pub returns-in-Ok-End : goal.returns-in-Ok-End
returns-in-Ok-End c =
    let turn = rw c.in-Ok-End.field-0-is at c.in-Ok-End.ensures in
    let follows = c.loop-word.invariant.follows in
    let next = next-none _ _ _ _ _ follows (ap reached turn.0) turn.1 in
    rw (← c.loop-word.invariant.kept) (record { answer = (next.0, sym follows.faults ∙ ap fault_of turn.0); progress = next.1; bound = next.2 })

pub returns-in-Err-Refused : goal.returns-in-Err-Refused
returns-in-Err-Refused c =
    let turn = rw c.in-Err-Refused.field-0-is at c.in-Err-Refused.ensures in
    let follows = c.loop-word.invariant.follows in
    let next = next-none _ _ _ _ _ follows turn.0.visits turn.1 in
    rw (← c.loop-word.invariant.kept) (record { answer = (next.0, sym follows.faults ∙ turn.0.faulty); progress = next.1; bound = next.2 })
