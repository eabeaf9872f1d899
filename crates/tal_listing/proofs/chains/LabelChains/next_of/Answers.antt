use Rattle.std.proofs.Common.{arith}
use Rattle.std.proofs.lemmas.List.{get_or_read}
use Rattle.tal_words.specs.declared.name.Label.{Label}
use Rattle.tal_listing.proofs.chains.LabelChains.next_of.Goals as goal

pub returns : goal.returns
returns c = λ (d : Label).
    let read = get_or_read c.args.self.now.next.items c.args.place c.index.result.now (omega (arith, c.requires.chained.next_size)) c.index.ensures 0 in
    rw read (c.requires.chained.nexts c.args.place d (omega arith) c.requires.within)
