-- How faults are counted, and who is to blame for how a call ended (profile).
use Rattle.std.specs.Prelude.{◌≡◌, ℕ, ◌+◌, ◌-◌, ◌^◌, ◌≤◌, ◌⊎◌, min, Bool, true, false, if◌then◌else◌}

-- one more, up to the last value of a count
abbrev pub one_more : ℕ → ℕ
one_more n = min (n + 1) (2 ^ 64 - 1)

-- a count of faults rose, or stood at its last value, which counts as risen
pub record Rose (before now : ℕ) : Type 0 where
  pub later : before ≤ now
  pub risen : one_more before ≤ now

-- what an object counts: its faults; and whether it promises to be exact, so that it counts one for each call that failed, and
-- none for another
pub record FaultTally : Type 0 where
  pub faults : ℕ
  pub exact : Bool

-- over a call of one object: its count does not fall, and rose where the call failed; by exactly one, and else not, where it is exact
pub record Counted (before now : FaultTally) (failed : Bool) : Type 0 where
  pub later : before.faults ≤ now.faults
  pub rose : failed ≡ true → Rose before.faults now.faults
  pub once : before.exact ≡ true → now.faults ≡ (if failed then one_more before.faults else before.faults)
  pub promise : now.exact ≡ before.exact

-- what the tree, the standard output and the error output count
pub record Counts : Type 0 where
  pub tree : FaultTally
  pub out : FaultTally
  pub err : FaultTally

abbrev pub counts : FaultTally → FaultTally → FaultTally → Counts
counts tree out err = record { tree = tree; out = out; err = err }

-- who is to blame for how a call ended: nobody where it answered, or memory ran out
pub data Blame : Type 0 where
  Nobody : Blame
  TheTree : Blame
  ASink : Blame

-- over a call of all three: which of them failed
pub record AllCounted (before now : Counts) (tree_failed out_failed err_failed : Bool) : Type 0 where
  pub tree : Counted before.tree now.tree tree_failed
  pub out : Counted before.out now.out out_failed
  pub err : Counted before.err now.err err_failed

-- over a call that ended so: the object to blame failed, and no other did
abbrev pub Ledger : Counts → Counts → Blame → Type 0
Ledger before now Nobody = AllCounted before now false false false
Ledger before now TheTree = AllCounted before now true false false
Ledger before now ASink = AllCounted before now false true false ⊎ AllCounted before now false false true
