-- What ports are to an instruction (Varvara device reference), and who is to blame for a stop (profile).
use Rattle.std.specs.Prelude.{ℕ, Result, Ok, Err}
use Rattle.uxn_io_traits.specs.Faults.{Blame, Nobody, TheTree, ASink}
use Rattle.uxn_opcodes.specs.declared.Core.{Core}
use Rattle.uxn_opcodes.specs.declared.Stop.{Stop}
use Rattle.uxn_opcodes.specs.declared.Stop.TheVariants.{TreeFault, SinkFault, NoMemory}

-- the rules of ports with states S: which byte a port may read, how a write of a byte to a port may leave the ports
-- and the machine, and how one that stops may leave them
pub record Rules (S : Type 0) : Type 1 where
  pub reads : S → Core → ℕ → ℕ → Type 0
  pub wrote : S → Core → ℕ → ℕ → S → Core → Type 0
  pub stopped : S → Core → ℕ → ℕ → Stop → S → Core → Type 0

-- who is to blame for how a call ended
abbrev pub result_blame : {T : Type 0} → Result T Stop → Blame
result_blame (Ok value) = Nobody
result_blame (Err TreeFault) = TheTree
result_blame (Err SinkFault) = ASink
result_blame (Err NoMemory) = Nobody
