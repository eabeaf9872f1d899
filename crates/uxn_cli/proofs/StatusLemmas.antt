-- Which statuses are exit codes, those of refusals, and those of early ends; and who is to blame for one.
use Rattle.uxn_cli.proofs.Common.{◌≡◌, ℕ, ◌≤◌, ◌⊎◌, arith, common_steps, true, false, refl, Refusal}
use Rattle.std.proofs.lemmas.Bool.Decides.{nat_tests}
use Rattle.uxn_io_traits.specs.Faults.{Ledger, AllCounted, Nobody, Counts, Rose}
use Rattle.uxn_opcodes.specs.declared.Stop.{Stop}
use Rattle.uxn_cli.specs.Blame.{stop_blame, status_blame}
use Rattle.uxn_cli.specs.Statuses.{status_of, early_status, IsEarly}

-- ---- exit codes are at most 127, a refusal has a greater status, and neither is that of an early end

refusal-large : (refusal : Refusal) → 128 ≤ status_of refusal
refusal-large refusal = grind arith

refusal-apart : (refusal : Refusal) → (status_of refusal ≤ 135) ⊎ (139 ≤ status_of refusal)
refusal-apart refusal = grind arith

early-number : (stop : Stop) → (136 ≤ early_status stop) × (early_status stop ≤ 138)
early-number stop = grind arith

pub refuses-no-exit : (code : ℕ) → code ≤ 127 → (refusal : Refusal) → code ≡ status_of refusal → ⊥
refuses-no-exit code small refusal is = omega (arith, refusal-large refusal)

pub exit-not-early : (code : ℕ) → code ≤ 127 → IsEarly code → ⊥
exit-not-early code small early = omega (arith, early-number early.0)

pub refusal-not-early : (refusal : Refusal) → IsEarly (status_of refusal) → ⊥
refusal-not-early refusal early = (let one = refusal-apart refusal in omega (arith, early-number early.0))

-- ---- who is to blame

pub blame_early : (stop : Stop) → status_blame (early_status stop) ≡ stop_blame stop
blame_early stop = grind arith

pub blameless : (answer : ℕ) → (answer ≡ 136 → ⊥) → (answer ≡ 137 → ⊥) → status_blame answer ≡ Nobody
blameless answer tree sink = grind (arith, nat_tests)

-- which counts rose with a status
pub tree_rose : (before now : Counts) (status : ℕ) → Ledger before now (status_blame status) → status ≡ 136 → Rose before.tree.faults now.tree.faults
tree_rose before now status ledger is = (let rose : AllCounted before now true false false = rw is at ledger in rose.tree.rose refl)

pub sink_rose : (before now : Counts) (status : ℕ) → Ledger before now (status_blame status) → status ≡ 137
    → Rose before.out.faults now.out.faults ⊎ Rose before.err.faults now.err.faults
sink_rose = grind (arith, common_steps)
