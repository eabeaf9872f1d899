-- Outputs that can be made, and are no included files.
use Rattle.uxn_cli.proofs.Common.{Bool, if◌then◌else◌, ◌&&◌, List, None, Some, Ok, Err, [], ap, arith, bytes_eq, find, get_or, length, not, refl, sym, true, false}
use Rattle.uxn_cli.proofs.Common.{ℕ, ◌<◌, ◌∙◌, ◌∷◌, ◌≡◌, common_steps, get_or-map, length-map, bytes_eq-Decides, list_any, can_create}
use Rattle.uxn_cli.proofs.Common.{Nodes, AreFree, CanAnswer, Gives, free_outputs, paths_of, Output}
unfoldable use Rattle.uxn_cli.proofs.Common.{free_output}
use Rattle.uxn_io_traits.specs.Inquiry.{unless_refused}
use Rattle.std.proofs.lemmas.List.Folds.{list_any_at}
use Rattle.uxn_cli.specs.declared.task_files.refusal.Refusal.TheVariants.{NoOutput}

-- outputs that are free can be made, where the contents are known
pub free-can : (nodes : Nodes) (included paths : List (List ℕ)) → AreFree (Some nodes) included paths → None ≡ find (λ path. not (can_create nodes path)) paths
unfolding free_output
free-can nodes included [] free = refl
free-can nodes included (path ∷ paths) free = (let rest = free-can nodes included paths in grind (arith, common_steps, rest))

-- over unknown contents one of them could also not be made
go-on : (included paths : List (List ℕ)) (other : List ℕ) (reply taken : Bool)
    → CanAnswer (unless_refused (λ (free : Unit {0}). free_outputs included paths) (if reply && not taken then Ok (tt {0}) else Err (NoOutput other))) (Ok (tt {0}))
    → (reply ≡ true) × (taken ≡ false) × AreFree None included paths
go-on included paths other true false can = (refl, refl, can)
go-on included paths other true true can = absurd cc
go-on included paths other false taken can = absurd cc

pub free-unmade : (included paths : List (List ℕ)) (path : List ℕ) → list_any (bytes_eq path) paths ≡ true → AreFree None included paths
    → Gives None (free_outputs included paths) (Err (NoOutput path))
unfolding free_output
free-unmade included [] path among free = absurd cc
free-unmade included (other ∷ paths) path among free =
    let first = go-on included paths other free.0 (list_any (bytes_eq other) included) free.2 in
    elim (bytes_eq path other) as (λ b. bytes_eq path other ≡ b → Gives None (free_outputs included (other ∷ paths)) (Err (NoOutput path))) [
      | true ↦ λ is. (false, tt, ap (λ p. Err (NoOutput p)) (sym ((bytes_eq-Decides path other).0 is)))
      | false ↦ λ is. (true, tt, rw first.1 (free-unmade included paths path (rw is at among) first.2))
    ] refl

-- a file that was requested is among them
pub output_among : (outputs : List Output) (at : ℕ) (output : Output) → at < length outputs → output ≡ get_or outputs at output
    → list_any (bytes_eq output.path) (paths_of outputs) ≡ true
output_among outputs at output lt is =
    list_any_at (bytes_eq output.path) (paths_of outputs) at output.path (omega (arith, length-map outputs (λ (o : Output). o.path)))
    ((bytes_eq-Decides _ _).1 (sym (get_or-map (λ (o : Output). o.path) outputs at output output.path lt ∙ ap (λ (o : Output). o.path) (sym is))))
