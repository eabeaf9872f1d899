use Rattle.std.proofs.Common.{arith}
use Rattle.tal_rom.proofs.Trimming.{trimmed-take}
use Rattle.tal_rom.proofs.rom.written_len.Goals as goal

pub returns-clause-value : goal.returns-clause-value
returns-clause-value c = trimmed-take _ _ (omega arith) (λ k from within. c.loop-at.invariant.zeros k from (omega arith)) c.loop-at.invariant.last
