-- The instructions of a vector over any ports: how many ran whole, and what ended them (Varvara device reference; profile: the budget).
use Rattle.std.specs.Prelude.{◌≡◌, ℕ, zero, suc, ◌+◌, ◌<◌, ◌≤◌, ◌⊎◌, Result, Ok, Err}
use Rattle.std.proofs.Common.{arith}
use Rattle.uxn_opcodes.specs.declared.Core.{Core}
use Rattle.uxn_opcodes.specs.declared.Stop.{Stop}
use Rattle.uxn_opcodes.specs.declared.Stop.TheVariants.{NoMemory}
use Rattle.uxn_opcodes.specs.declared.Turn.TheVariants.{Ran, Broke as Break}
use Rattle.uxn_opcodes.specs.Ports.{Rules}
use Rattle.uxn_opcodes.specs.Instruction.{Instruction}
use Rattle.vector_loop.specs.declared.tally.Tally.{Tally}
use Rattle.vector_loop.specs.declared.tally.VectorEnd.{VectorEnd}
use Rattle.vector_loop.specs.declared.tally.VectorEnd.TheVariants.{Broke, Cut}
use Rattle.vector_loop.specs.State.{counting_vector}

-- BRK is an instruction that ran, and one at which a vector stops has not
abbrev pub budget_with_break : Result VectorEnd Stop → ℕ → ℕ
budget_with_break (Ok Broke) number = number + 1
budget_with_break (Ok Cut) number = number
budget_with_break (Err stop) number = number

-- each instruction that ran is counted, and a cut; and before them a vector, as it begins
abbrev pub counting_run : Result VectorEnd Stop → ℕ → Tally → Tally
counting_run (Ok Cut) number tally = record tally { instructions = tally.instructions + number; cuts = tally.cuts + 1 }
counting_run (Ok Broke) number tally = record tally { instructions = tally.instructions + number }
counting_run (Err stop) number tally = record tally { instructions = tally.instructions + number }

abbrev pub counting_ran : Result VectorEnd Stop → ℕ → Tally → Tally
counting_ran end number tally = counting_run end number (counting_vector tally)

module _ {S : Type 0} (rules : Rules S) where
  -- so many instructions ran, one after the other, and none of them was BRK
  abbrev pub RunsWithin : ℕ → Core → S → Core → S → Type 0
  RunsWithin zero core ports core_new ports_new = (core_new ≡ core) × (ports_new ≡ ports)
  RunsWithin (suc number) core ports core_new ports_new =
      (middle : Core) × ((between : S) × (Instruction rules core ports (Ok Ran) middle between
      × RunsWithin number middle between core_new ports_new))

  -- then came BRK, or as many had run as may, or an instruction stopped, or the watcher refused before one: but for the second, fewer
  -- had run
  abbrev pub EndsBy : Type 0 → Result VectorEnd Stop → (number most : ℕ) → Core → S → Core → S → Type 0
  EndsBy refuses (Ok Broke) number most core ports core_new ports_new =
      (number < most) × Instruction rules core ports (Ok Break) core_new ports_new
  EndsBy refuses (Ok Cut) number most core ports core_new ports_new = (number ≡ most) × ((core_new ≡ core) × (ports_new ≡ ports))
  EndsBy refuses (Err stop) number most core ports core_new ports_new =
      (number < most) × (Instruction rules core ports (Err stop) core_new ports_new
      ⊎ ((stop ≡ NoMemory) × (refuses × ((core_new ≡ core) × (ports_new ≡ ports)))))

  -- so many instructions ran whole until a vector ended or stopped at the next
  pub record RanWhole (refuses : Type 0) (most : ℕ) (core : Core) (ports : S) (result : Result VectorEnd Stop) (core_new : Core)
      (ports_new : S) (before : ℕ) : Type 0 where
    pub middle : Core
    pub between : S
    pub runs : RunsWithin before core ports middle between
    pub ends : EndsBy refuses result before most middle between core_new ports_new

  -- and exactly so many are counted, with the BRK
  pub record CountsWhole (refuses : Type 0) (most : ℕ) (core : Core) (ports : S) (result : Result VectorEnd Stop) (core_new : Core)
      (ports_new : S) (tally tally_new : Tally) : Type 0 where
    pub before : ℕ
    pub ran : RanWhole refuses most core ports result core_new ports_new before
    pub counted : tally_new ≡ counting_ran result (budget_with_break result before) tally

  -- no more than may
  pub ran-within : (refuses : Type 0) (most : ℕ) (core : Core) (ports : S) (result : Result VectorEnd Stop) (core_new : Core) (ports_new : S)
      (before : ℕ) → RanWhole refuses most core ports result core_new ports_new before → budget_with_break result before ≤ most
  ran-within refuses most core ports (Ok Broke) core_new ports_new before ran = omega (arith, ran.ends.0)
  ran-within refuses most core ports (Ok Cut) core_new ports_new before ran = omega (arith, ran.ends.0)
  ran-within refuses most core ports (Err stop) core_new ports_new before ran = omega (arith, ran.ends.0)

  -- one more ran before them
  pub ends-more : (refuses : Type 0) (result : Result VectorEnd Stop) (number most : ℕ) (core core_new : Core) (ports ports_new : S)
      → EndsBy refuses result number most core ports core_new ports_new
      → EndsBy refuses result (suc number) (suc most) core ports core_new ports_new
  ends-more refuses (Ok Broke) number most core core_new ports ports_new ends = (omega (arith, ends.0), ends.1)
  ends-more refuses (Ok Cut) number most core core_new ports ports_new ends = (omega (arith, ends.0), ends.1)
  ends-more refuses (Err stop) number most core core_new ports ports_new ends = (omega (arith, ends.0), ends.1)
