-- Which of some paths meet and clash, and what tests find among them.
use Rattle.uxn_cli.proofs.Common.{Bool, List, None, Some, [], arith, bytes_eq, cond, count_by, false, find, refl, true, ℕ, ◌++◌, ◌+◌, ◌∷◌, ◌≡◌}
use Rattle.uxn_cli.proofs.Common.{◌≤◌, common_steps, bytes_eq-Decides, list_any, clashes, meets, IfSome, Task, RunTask, DebugTask, Run}
use Rattle.uxn_cli.proofs.Common.{root_of, outputs_of}
use Rattle.file_ports.specs.Device.{suits}
unfoldable use Rattle.file_ports.specs.RootPart.{is_in}
use Rattle.std.proofs.lemmas.Bool.{false_from_ne_true}
use Rattle.std.proofs.lemmas.Bool.Decides.{nat_tests}
use Rattle.std.proofs.lemmas.List.Sums.{sum_by-cons, sum_by-append}
use Rattle.uxn_arguments.specs.Places.{HasApartOutputs}
use Rattle.uxn_io_traits.specs.PathText.{is_under}

-- one where a test holds
abbrev pub one_if : Bool → ℕ
one_if b = cond b 1 0

-- ---- what is found

module _ (p : List ℕ → Bool) where
  -- where none passes a test, the first does not, nor does one of the others
  pub none_parts : (path : List ℕ) (paths : List (List ℕ)) → find p (path ∷ paths) ≡ None → (p path ≡ false) × (find p paths ≡ None)
  none_parts path paths none = (grind (arith, common_steps), grind (arith, common_steps))

  pub none_last : (first last : List (List ℕ)) → find p (first ++ last) ≡ None → find p last ≡ None
  none_last [] last none = none
  none_last (path ∷ first) last none = none_last first last (none_parts path (first ++ last) none).1

  pub none_among : (paths : List (List ℕ)) (path : List ℕ) → find p paths ≡ None → list_any (bytes_eq path) paths ≡ true → p path ≡ false
  none_among [] path none among = absurd cc
  none_among (other ∷ paths) path none among = (let rest = none_among paths path in grind (arith, common_steps, rest, bytes_eq-Decides))

  -- nor does one pass a test that fewer pass
  pub none_each : (q : List ℕ → Bool) (paths : List (List ℕ)) → ((path : List ℕ) → p path ≡ false → q path ≡ false) → find p paths ≡ None
      → find q paths ≡ None
  none_each q [] fewer none = refl
  none_each q (path ∷ paths) fewer none = (let rest = none_each q paths fewer in grind (arith, common_steps, rest, fewer))

  -- how many pass
  pub count-first : (path : List ℕ) (paths : List (List ℕ)) → count_by p (path ∷ paths) ≡ one_if (p path) + count_by p paths
  count-first path paths = sum_by-cons (λ q. one_if (p q)) path paths

  pub count-parts : (first last : List (List ℕ)) → count_by p (first ++ last) ≡ count_by p first + count_by p last
  count-parts first last = sum_by-append (λ q. one_if (p q)) first last

-- ---- what meets

-- paths that do not meet are two, and neither lies beneath the other
pub meets_parts : (path other : List ℕ) → meets path other ≡ false
    → (bytes_eq path other ≡ false) × (is_under path other ≡ false) × (is_under other path ≡ false)
meets_parts path other apart = (grind (arith, common_steps), grind (arith, common_steps), grind (arith, common_steps))

-- a path among others meets one
pub meets_one : (path : List ℕ) (paths : List (List ℕ)) → list_any (bytes_eq path) paths ≡ true → 1 ≤ count_by (meets path) paths
meets_one path [] among = absurd cc
meets_one path (other ∷ paths) among =
    let rest = meets_one path paths in
    let sum = count-first (meets path) other paths in
    grind (arith, common_steps, rest, sum)

-- ---- what clashes

-- a path that does not clash meets one place at most, and is no input
pub clash_parts : (inputs places : List (List ℕ)) (path : List ℕ) → clashes inputs places path ≡ false
    → (count_by (meets path) places ≤ 1) × (list_any (bytes_eq path) inputs ≡ false)
unfolding clashes
clash_parts inputs places path apart = (grind (arith, nat_tests), grind (arith, nat_tests))

pub clash_from : (inputs places : List (List ℕ)) (path : List ℕ) → count_by (meets path) places ≤ 1 → list_any (bytes_eq path) inputs ≡ false
    → clashes inputs places path ≡ false
unfolding clashes
clash_from inputs places path few input = grind (arith, nat_tests, common_steps)

-- outputs that do not clash with more places do not with fewer
pub no_clash-fewer : (inputs more places paths : List (List ℕ)) → find (clashes inputs (more ++ places)) paths ≡ None
    → find (clashes inputs places) paths ≡ None
no_clash-fewer = grind (arith, common_steps, none_each, clash_parts, clash_from, count-parts)

-- ---- outputs that do not clash lie outside the root, and the root is not beneath them

-- an output does not meet the root
apart_from : (inputs outputs : List (List ℕ)) (root path : List ℕ) → find (clashes inputs (root ∷ outputs)) outputs ≡ None
    → list_any (bytes_eq path) outputs ≡ true → meets path root ≡ false
apart_from = grind (arith, common_steps, clash_parts, none_among, false_from_ne_true, one_if, count-first, meets_one)

-- the outputs of a task lie apart from its root
pub all-apart : (task : Task) → HasApartOutputs task
    → IfSome (root_of task) (λ r. (path : List ℕ) → list_any (bytes_eq path) (outputs_of task) ≡ true → meets path r ≡ false)
all-apart = grind (arith, common_steps, apart_from)

pub apart-outside : (root path : List ℕ) → meets path root ≡ false → is_in root path ≡ false
unfolding is_in
apart-outside root path apart = let parts = meets_parts path root apart in rw (parts.0, parts.1) refl

-- so a device at its path would not suit the root
pub outputs-outside : (task : Task) (path : List ℕ) → HasApartOutputs task → list_any (bytes_eq path) (outputs_of task) ≡ true
    → suits (root_of task) (Some path) ≡ false
outputs-outside = grind (arith, common_steps, apart_from, apart-outside)

-- nor is the log of a debugger beneath it
pub log-outside : (run : RunTask) (debug : DebugTask) → HasApartOutputs (Run run (Some debug))
    → IfSome run.root (λ r. (path : List ℕ) → is_in r path ≡ true → bytes_eq path debug.log ≡ false)
log-outside run debug apart =
    let out = λ (path : List ℕ). outputs-outside (Run run (Some debug)) path apart in grind (arith, common_steps, out, false_from_ne_true)
