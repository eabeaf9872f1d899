-- What stands where files are appended to.
use Rattle.uxn_cli.proofs.Common.{IfSome, IsSome, List, Option, [], ap, arith, map, option_map, refl, ℕ, ◌∷◌, ◌≡◌, common_steps, map-append}
use Rattle.uxn_cli.proofs.Common.{All-weaker, with_appended, File, Nodes, file_at, get_put, put_other, same_or_other, paths_of, observed_texts}
use Rattle.uxn_cli.proofs.Common.{AreFiles, Text, Output}
use Rattle.std.specs.FinMap as fin

-- an append leaves each file a file
insert-file : (nodes : Nodes) (path other bytes : List ℕ) → IsSome (file_at nodes other) → IsSome (file_at (fin.insert nodes path (File bytes)) other)
insert-file = grind (arith, common_steps, get_put, put_other, same_or_other)

appended-file : (nodes : Nodes) (path other bytes : List ℕ) → IsSome (file_at nodes other) → IsSome (file_at (with_appended path bytes nodes) other)
appended-file nodes path other bytes h = grind (arith, common_steps, insert-file)

pub keep_files : (texts : List Text) (path bytes : List ℕ) (now new : Option Nodes) → new ≡ option_map (with_appended path bytes) now
    → IfSome now (AreFiles texts) → IfSome new (AreFiles texts)
keep_files texts path bytes now new e files = grind (arith, common_steps, appended-file, All-weaker)

pub ruleset pushed = (map-append)

-- the paths of files that are written
pub observed_paths : (outputs : List Output) → map (λ (t : Text). t.path) (observed_texts outputs) ≡ paths_of outputs
observed_paths [] = refl
observed_paths (output ∷ outputs) = ap (λ ps. output.path ∷ ps) (observed_paths outputs)
