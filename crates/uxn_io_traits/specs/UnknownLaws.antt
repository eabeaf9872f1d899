-- Laws of calls of a tree and a sink of unknown contents: what they count is all that contracts see of such a call.
use Rattle.std.specs.Prelude.{◌≡◌, ℕ, ◌-◌, ◌^◌, ◌≤◌, Bool, true, false, List, refl}
use Rattle.std.proofs.Common.{arith}
use Rattle.std.proofs.lemmas.Bool.{false≢true}
use Rattle.uxn_io_traits.specs.Faults.{Counted, one_more}
use Rattle.uxn_io_traits.specs.FaultLaws.{counted-same, counted-one}
use Rattle.uxn_io_traits.specs.Outside.{Change}
use Rattle.uxn_io_traits.specs.declared.refused.RefusedFiles.{RefusedFiles}
use Rattle.uxn_io_traits.specs.Ended.{TreeEnded, TreeLooked, SinkEnded, SinkFailed}
use Rattle.uxn_io_traits.specs.CallLaws.{unknown-ended, unknown-looked}
use Rattle.uxn_io_traits.specs.Unknown.{exactly, unknown_tree, unknown_sink}

-- what is counted of a call: nothing, or one fault
pub nothing_counted : (faults : ℕ) → Counted (exactly faults) (exactly faults) false
nothing_counted faults = counted-same _

pub fault_counted : (before now : ℕ) → before ≤ 2 ^ 64 - 1 → now ≡ one_more before → Counted (exactly before) (exactly now) true
fault_counted before now fits is = counted-one _ _ fits is refl

-- a call that looked at the tree
pub looked : (failed : Bool) (before now : ℕ) (refused later : RefusedFiles) → Counted (exactly before) (exactly now) failed → later ≡ refused
    → TreeLooked failed (unknown_tree before refused) (unknown_tree now later)
looked failed before now refused later counted same = unknown-looked failed _ _ refl refl refl (λ _. same) counted

-- a call that was to change it
pub ended : (changes : List Change) (failed : Bool) (before now : ℕ) (refused later : RefusedFiles)
    → Counted (exactly before) (exactly now) failed
    → TreeEnded changes failed (unknown_tree before refused) (unknown_tree now later)
ended changes failed before now refused later counted = unknown-ended changes failed _ _ refl refl refl counted

-- a sink took bytes
pub sink_took : (bytes : List ℕ) (faults : ℕ) → SinkEnded bytes false (unknown_sink faults) (unknown_sink faults)
sink_took bytes faults = record { holds = refl; counted = nothing_counted faults; blamed = λ is. absurd (false≢true is); left = λ _. omega arith }

-- and failed to take any
pub sink_failed : (piece : List ℕ) (before now : ℕ) → before ≤ 2 ^ 64 - 1 → now ≡ one_more before
    → SinkFailed piece (unknown_sink before) (unknown_sink now)
sink_failed piece before now fits is = record { contents = refl; counted = fault_counted before now fits is; blamed = λ less. omega (arith, less) }
