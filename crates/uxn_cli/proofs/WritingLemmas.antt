-- Files that are made and filled: what holds of each change that makes one, and of each byte that is added, holds of all changes.
use Rattle.uxn_cli.proofs.Common.{Option, Some, None, List, ℕ, [], ◌∷◌, AllByRecursion, option_to_list, Change, Creates, ToFile, Text}
use Rattle.uxn_cli.proofs.Common.{text_paths, creating_all, filling_all, appending}
unfoldable use Rattle.uxn_cli.proofs.Common.{writing}
use Rattle.uxn_io_traits.specs.EachLaws.{each-of, each-append, each-map}
use Rattle.uxn_io_traits.specs.Ended.{IsOfTree, AreOfTree}
use Rattle.uxn_cli.specs.World.{requested_output}

module _ (P : Change → Type 0) where
  abbrev pub Fills : List ℕ → Type 0
  Fills file = (byte : ℕ) → P (ToFile file byte)

  pub creating-keeps : (paths : List (List ℕ)) → AllByRecursion (λ path. P (Creates path)) paths → AllByRecursion P (creating_all paths)
  creating-keeps [] makes = tt
  creating-keeps (path ∷ paths) makes = (makes.0, creating-keeps paths makes.1)

  pub filling-keeps : (texts : List Text) → AllByRecursion Fills (text_paths texts) → AllByRecursion P (filling_all texts)
  filling-keeps [] fills = tt
  filling-keeps (text ∷ texts) fills =
      each-append P (appending text.path text.bytes) (filling_all texts) (each-map P (λ byte. ToFile text.path byte) text.bytes fills.0)
      (filling-keeps texts fills.1)

  pub text-keeps : (file : Option (List ℕ)) (text : List ℕ) → AllByRecursion Fills (option_to_list file)
      → AllByRecursion P (filling_all (requested_output file text))
  text-keeps None text fills = tt
  text-keeps (Some file) text fills = filling-keeps (requested_output (Some file) text) fills

-- so they are changes of a tree
pub made-of-tree : (paths : List (List ℕ)) → AreOfTree (creating_all paths)
made-of-tree paths = each-map IsOfTree (λ path. Creates path) paths (λ path. tt)

pub filled-of-tree : (texts : List Text) → AreOfTree (filling_all texts)
filled-of-tree texts = filling-keeps IsOfTree texts (each-of _ (λ path byte. tt) (text_paths texts))

pub written-of-tree : (texts : List Text) → AreOfTree (writing texts)
unfolding writing
written-of-tree texts =
    each-append IsOfTree (creating_all (text_paths texts)) (filling_all texts) (made-of-tree (text_paths texts)) (filled-of-tree texts)
