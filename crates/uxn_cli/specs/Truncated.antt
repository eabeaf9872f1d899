-- What follows of a call that ends early.
use Rattle.std.specs.Prelude.{◌≡◌, ℕ, ◌⊎◌, List, Option, Result}
use Rattle.uxn_io_traits.specs.Faults.{Counts, Rose}
use Rattle.uxn_io_traits.specs.Outside.{World, changed_by}
use Rattle.uxn_io_traits.specs.Known.{IsPrefixOf}
use Rattle.uxn_io_traits.specs.AtPath.{contents_at, HoldsFilePrefix}
use Rattle.uxn_cli.specs.declared.task_files.refusal.Refusal.{Refusal}
use Rattle.uxn_cli.specs.Statuses.{IsEarly}
use Rattle.uxn_cli.specs.Call.{Call, OfVerdict}
use Rattle.uxn_cli.specs.Outcome.{outcome_of, IsOutputOf}
use Rattle.uxn_cli.specs.Verdict.{Work}

-- the tree's count of faults rose with 136, and a sink's with 137
pub record RaisesACount (before now : Counts) (status : ℕ) : Type 0 where
  pub tree : status ≡ 136 → Rose before.tree.faults now.tree.faults
  pub sinks : status ≡ 137 → Rose before.out.faults now.out.faults ⊎ Rose before.err.faults now.err.faults

-- an output holds what it held, and then a prefix of what it is to get
pub record HoldsPrefix (before now whole : Option (List ℕ)) : Type 0 where
  pub kept : IsPrefixOf before now
  pub prefix : IsPrefixOf now whole

-- each output has a prefix of what the outcome gives it; so has each file that is written, its pictures and its samples too, or it is as
-- it was
pub record HoldsPrefixes (verdict : Result Work Refusal) (before now : World) : Type 0 where
  pub out : HoldsPrefix before.out now.out (changed_by before (outcome_of before.files verdict).changes).out
  pub err : HoldsPrefix before.err now.err (changed_by before (outcome_of before.files verdict).changes).err
  pub files : (path : List ℕ) → IsOutputOf verdict path
      → HoldsFilePrefix (contents_at path before.files) (contents_at path now.files)
      (contents_at path (changed_by before (outcome_of before.files verdict).changes).files)

abbrev pub LeavesPrefixes : Call → Type 0
LeavesPrefixes c = OfVerdict c (λ verdict. IsEarly c.status → HoldsPrefixes verdict c.before.world c.now.world)
