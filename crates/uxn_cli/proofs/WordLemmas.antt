-- What the words ask for.
use Rattle.uxn_cli.proofs.Common.{List, Ok, Err, Option, Some, None, ap, arith, common_steps, refl, sym, ◌∙◌, ℕ, ◌≡◌, ◌∷◌, ◌++◌, false}
use Rattle.uxn_cli.proofs.Common.{bytes_eq, option_to_list, list_any, IfOk, []}
use Rattle.uxn_cli.proofs.Common.{Task, RunTask, DebugTask, Run, then_steps, inputs_of, meets, clashes, apart, word_refusal, result_as}
unfoldable use Rattle.uxn_cli.proofs.Common.{request}
use Rattle.std.proofs.lemmas.Bool.{or_parts}
use Rattle.std.proofs.lemmas.List.Folds.{list_any-append}
use Rattle.uxn_arguments.specs.Options.{run_outputs}
use Rattle.uxn_arguments.specs.Places.{first_clash, HasApartOutputs}
use Rattle.uxn_arguments.specs.Words.{task_of}
use Rattle.std.specs.Option.{option_map_or}
use Rattle.uxn_cli.specs.declared.task_files.refusal.Refusal.TheVariants.{NoOutput}
use Rattle.uxn_cli.proofs.PlaceLemmas.{clash_parts, clash_from, count-first, count-parts, none_each, none_last}

-- what legal words ask for
words-read : (words : List (List ℕ)) (task : Task) → task_of words ≡ Ok task → request words ≡ apart task
unfolding request
words-read words task e = ap (λ s. then_steps (result_as word_refusal s) apart) e

-- outputs of what is requested do not clash
by-clash : (task found : Task) (clash : Option (List ℕ)) → option_map_or (λ path. Err (NoOutput path)) clash (Ok task) ≡ Ok found
    → (task ≡ found) × (clash ≡ None)
by-clash task found None is = (cc, refl)
by-clash task found (Some path) is = absurd cc

is_apart : (task found : Task) → apart task ≡ Ok found → (task ≡ found) × (first_clash task ≡ None)
is_apart task found is = by-clash task found (first_clash task) is

clash-apart : (task : Task) (clash : Option (List ℕ)) → first_clash task ≡ clash
    → IfOk (option_map_or (λ path. Err (NoOutput path)) clash (Ok task)) HasApartOutputs
clash-apart task None is = is
clash-apart task (Some path) is = tt

pub requested_apart : (words : List (List ℕ)) → IfOk (request words) HasApartOutputs
unfolding request
requested_apart words = elim (task_of words) as (λ said. IfOk (then_steps (result_as word_refusal said) apart) HasApartOutputs)
    [ Ok task ↦ clash-apart task (first_clash task) refl | Err fault ↦ tt ]

-- ---- `debug` and `play` with the same items but the commands, the log and the symbols

module _ (run : RunTask) (debug : DebugTask) where
  abbrev debugs : Task
  debugs = Run run (Some debug)

  abbrev plays : Task
  plays = Run run None

  -- what `play` reads `debug` reads too
  inputs-fewer : (path : List ℕ) → list_any (bytes_eq path) (inputs_of debugs) ≡ false → list_any (bytes_eq path) (inputs_of plays) ≡ false
  inputs-fewer = grind (arith, common_steps, or_parts, list_any-append)

  clash-fewer : first_clash debugs ≡ None → first_clash plays ≡ None
  clash-fewer none =
      let root = option_to_list run.root in
      let written = run_outputs run None in
      let places = root ++ (debug.log ∷ written) in
      none_each (clashes (inputs_of debugs) places) (clashes (inputs_of plays) (root ++ written)) written
      (λ path apart.
      let both = clash_parts (inputs_of debugs) places path apart in
      let all = count-parts (meets path) root (debug.log ∷ written) in
      let last = count-first (meets path) debug.log written in
      clash_from (inputs_of plays) (root ++ written) path (omega (arith, count-parts (meets path) root written))
      (inputs-fewer path both.1))
      (none_last (clashes (inputs_of debugs) places) (debug.log ∷ []) written none)

-- both calls are requested, and no output clashes
pub record RequestsBoth (words others : List (List ℕ)) (run : RunTask) (debug : DebugTask) : Type 0 where
  pub apart : first_clash (Run run (Some debug)) ≡ None
  pub debugs : request words ≡ Ok (Run run (Some debug))
  pub plays : request others ≡ Ok (Run run None)

pub requests-both : (words others : List (List ℕ)) (run : RunTask) (debug : DebugTask) (requested : Task) → task_of words ≡ Ok (Run run (Some debug))
    → task_of others ≡ Ok (Run run None) → request words ≡ Ok requested → RequestsBoth words others run debug
requests-both words others run debug requested debugs plays is =
    let found = is_apart (Run run (Some debug)) requested (sym (words-read words _ debugs) ∙ is) in
    record {
      apart = found.1;
      debugs = is ∙ ap Ok (sym found.0);
      plays = words-read others _ plays
          ∙ ap (λ (clash : Option (List ℕ)). option_map_or (λ path. Err (NoOutput path)) clash (Ok (Run run None))) (clash-fewer run debug found.1);
    }
