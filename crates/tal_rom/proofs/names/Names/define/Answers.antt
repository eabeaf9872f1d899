use Rattle.std.proofs.Common.{refl}
use Rattle.tal_rom.proofs.NameLemmas.{inserts, known_defined, wanted_defined}
use Rattle.tal_rom.proofs.names.Names.define.Goals as goal

pub returns-clause-known : goal.returns-clause-known
returns-clause-known c other = known_defined _ _ _ _ (inserts _ _ c.args.name _ c.in_ok-before.ensures.entries) other c.args.address refl

pub returns-clause-wanted : goal.returns-clause-wanted
returns-clause-wanted c other = wanted_defined _ _ _ _ (inserts _ _ c.args.name _ c.in_ok-before.ensures.entries) other c.new.ensures.items
