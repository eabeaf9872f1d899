-- Laws of what stands at a path after changes: it depends on what stood there before, and on nothing else.
use Rattle.std.specs.Prelude.{◌≡◌, ℕ, false, List, [], ◌∷◌, ◌++◌, Option, Some, None, IfSome, refl}
use Rattle.std.specs.Option.{option_map, unwrap_or}
use Rattle.std.specs.List.{AllByRecursion}
use Rattle.std.specs.Str.{bytes_eq}
use Rattle.std.specs.FinMap as nodes_map
use Rattle.std.proofs.Common.{ap, sym, ◌∙◌, cond, arith, true≢false}
use Rattle.std.proofs.lemmas.Grind.{common_steps}
use Rattle.std.proofs.lemmas.Slice.Eq.{bytes_eq-Decides}
use Rattle.uxn_io_traits.specs.Files.{Nodes, Node, File, bytes_of}
use Rattle.uxn_io_traits.specs.Outside.{Change, ToOut, ToErr, Creates, ToFile, Removes, World, changed_files, changed_by, files_by, IsCutOff}
use Rattle.uxn_io_traits.specs.AtPath.{contents_at, Spares}
use Rattle.uxn_io_traits.specs.ChangeLaws.{files-contents}
use Rattle.uxn_io_traits.specs.EachLaws.{each-parts}
use Rattle.uxn_io_traits.specs.NodeLaws.{get_put, get_taken, put_elsewhere, taken_elsewhere}

differs : (path other : List ℕ) → bytes_eq path other ≡ false → path ≡ other → ⊥
differs path other e same = true≢false (sym ((bytes_eq-Decides path other).1 same) ∙ e)

-- another path keeps its node
inserted-other : (nodes : Nodes) (path other : List ℕ) (node : Node) → bytes_eq path other ≡ false
    → nodes_map.get (nodes_map.insert nodes other node) path ≡ nodes_map.get nodes path
inserted-other nodes path other node apart = put_elsewhere nodes other path node (differs path other apart)

removed-other : (nodes : Nodes) (path other : List ℕ) → bytes_eq path other ≡ false
    → nodes_map.get (nodes_map.remove nodes other) path ≡ nodes_map.get nodes path
removed-other nodes path other apart = taken_elsewhere nodes other path (differs path other apart)

module _ (path : List ℕ) where
  -- what stands there after a change, and after changes in order
  abbrev pub node_after : Change → Option Node → Option Node
  node_after (Creates other) there = cond (bytes_eq path other) (Some (File [])) there
  node_after (ToFile other byte) there = cond (bytes_eq path other) (Some (File (unwrap_or (bytes_of there) [] ++ byte ∷ []))) there
  node_after (Removes other) there = cond (bytes_eq path other) None there
  node_after change there = there

  abbrev pub node_by : List Change → Option Node → Option Node
  node_by [] there = there
  node_by (change ∷ changes) there = node_by changes (node_after change there)

  node-one : (nodes : Nodes) (change : Change) → nodes_map.get (changed_files change nodes) path ≡ node_after change (nodes_map.get nodes path)
  node-one nodes (ToOut byte) = refl
  node-one nodes (ToErr byte) = refl
  node-one nodes (Creates other) = grind (arith, common_steps, inserted-other, get_put, bytes_eq-Decides)
  node-one nodes (ToFile other byte) = grind (arith, common_steps, inserted-other, get_put, bytes_eq-Decides)
  node-one nodes (Removes other) = grind (arith, common_steps, removed-other, get_taken, bytes_eq-Decides)

  pub node-by : (nodes : Nodes) (changes : List Change) → nodes_map.get (files_by nodes changes) path ≡ node_by changes (nodes_map.get nodes path)
  node-by nodes [] = refl
  node-by nodes (change ∷ changes) = node-by (changed_files change nodes) changes ∙ ap (node_by changes) (node-one nodes change)

  pub node-append : (first more : List Change) (there : Option Node) → node_by (first ++ more) there ≡ node_by more (node_by first there)
  node-append [] more there = refl
  node-append (change ∷ first) more there = node-append first more (node_after change there)

  pub contents-by : (world : World) (changes : List Change)
      → contents_at path (changed_by world changes).files ≡ option_map (node_by changes) (contents_at path world.files)
  contents-by world changes = rw (files-contents world changes) (grind (arith, common_steps, node-by))

  -- where a path is left alone, what stands there stays
  spared-one : (change : Change) (there : Option Node) → Spares path change → node_after change there ≡ there
  spared-one (ToOut byte) there s = refl
  spared-one (ToErr byte) there s = refl
  spared-one (Creates other) there s = rw s refl
  spared-one (ToFile other byte) there s = rw s refl
  spared-one (Removes other) there s = rw s refl

  pub spared-by : (changes : List Change) (there : Option Node) → AllByRecursion (Spares path) changes → node_by changes there ≡ there
  spared-by [] there s = refl
  spared-by (change ∷ changes) there s = ap (node_by changes) (spared-one change there s.0) ∙ spared-by changes there s.1

  pub spared : (world : World) (changes : List Change) → AllByRecursion (Spares path) changes
      → contents_at path (changed_by world changes).files ≡ contents_at path world.files
  spared world changes s = contents-by world changes ∙ still (contents_at path world.files)
    where
      still : (contents : Option (Option Node)) → option_map (node_by changes) contents ≡ contents
      still None = refl
      still (Some there) = ap (λ node. Some node) (spared-by changes there s)

  pub spared-prefix : (before now : World) (changes : List Change) → AllByRecursion (Spares path) changes
      → IsCutOff before now changes → contents_at path now.files ≡ contents_at path before.files
  spared-prefix before now changes s cut = ap (λ w. contents_at path w.files) cut.left
      ∙ spared before cut.made (each-parts (Spares path) cut.made cut.rest (rw cut.parts at s)).0

  -- a path that is left alone keeps its node
  pub kept-node : (before now : Option Nodes) → contents_at path now ≡ contents_at path before
      → IfSome before (λ old. IfSome now (λ new. nodes_map.get new path ≡ nodes_map.get old path))
  kept-node None now e = tt
  kept-node (Some old) None e = tt
  kept-node (Some old) (Some new) e = cc

pub files-after : (path : List ℕ) (a b : World) (changes : List Change) → contents_at path a.files ≡ contents_at path b.files
    → contents_at path (changed_by a changes).files ≡ contents_at path (changed_by b changes).files
files-after path a b changes e = contents-by path a changes ∙ ap (option_map (node_by path changes)) e ∙ sym (contents-by path b changes)
