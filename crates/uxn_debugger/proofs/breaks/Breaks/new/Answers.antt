use Rattle.uxn_debugger.proofs.BitSets.{none_in_zeros}
use Rattle.uxn_debugger.proofs.breaks.Breaks.new.Goals as goal

pub returns : goal.returns
returns c = none_in_zeros 1024
