use Rattle.tal_rom.proofs.Common.{refl, arith, expanded_of}
use Rattle.tal_rom.proofs.AssemblyLemmas.{assembled}
use Rattle.tal_rom.proofs.OnePass.{contents, patched, faulty}
use Rattle.tal_rom.proofs.assembly.in_one_pass.Goals as goal

pub returns-in-Some-finish : goal.returns-in-Some-finish
returns-in-Some-finish c =
    let source = c.args.source.now in
    let so = rw c.in-Some.is at c.in_ok-rom.ensures in
    let laid = contents _ _ _ (c.in-Some-finish.ensures source (expanded_of source) so.added) in
    let found = patched source (expanded_of source) c.in-Some-finish.placed c.in-Some.rom.items laid.1 so.patched in
    rw (c.into_parts-places.ensures.words, c.into_parts-places.ensures.labels)
    (assembled source c.requires.sound _ refl so.faultless c.in-Some-finish.placed laid.1 laid.0 c.in-Some.rom.items found.0 found.1)

pub returns-in-None : goal.returns-in-None
returns-in-None c =
    let source = c.args.source.now in
    let so = rw c.in-Some.is at c.in_ok-rom.ensures in
    let none = c.in-None.ensures source (expanded_of source) so.added in
    faulty source (grind arith)
