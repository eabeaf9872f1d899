use Rattle.tal_labels.proofs.Common.{◌≡◌, ◌<◌, length, ◌∙◌, arith}
use Rattle.std.proofs.Common.{rules, ◌%◌}
use Rattle.std.proofs.lemmas.List.{get_or_read}
use Rattle.tal_labels.proofs.ChainLemmas.{linked_when}
use Rattle.tal_labels.proofs.chains.link.Goals as goal

pub returns-clause-ok : goal.returns-clause-ok
returns-clause-ok c = λ hashes chained.
    let lasts = c.args.lasts.now.items in
    let room = c.len.result in
    let is_room : room ≡ length lasts = c.len.ensures ∙ c.args.lasts.now.ok.0 in
    let some : 0 < room = omega (arith, is_room, c.requires.some) in
    let below : c.args.hash % room < room = omega arith in
    let read = get_or_read lasts (c.args.hash % room) c.index.result.now (omega (arith, below, is_room)) c.index.ensures 0 in
    linked_when hashes lasts c.args.nexts.now.items _ _ c.args.hash room c.len-2.result c.index.result.now is_room below
    (omega (arith, c.len-2.ensures, c.in_ok-push.ensures.len, c.args.nexts.now.ok.0)) read (search rules) (search rules) chained
