-- Nodes that a tree can hold are a tree.
use Rattle.std.proofs.Common.{arith, ◌≡◌, ℕ, Bool, true, false, cond, inl, inr, ◌+◌, ◌<◌, List, [], ◌∷◌, drop, length, get_or, Option, Some, IsSome}
use Rattle.std.proofs.Common.{Result, Ok, Err, refl, ap, sym, subst, ◌∙◌}
use Rattle.std.proofs.lemmas.Grind.{common_steps}
use Rattle.std.specs.List.{All, list_all}
use Rattle.std.specs.Cmp.Lexicographic.{nat_list_cmp_total}
use Rattle.std.specs.FinMap as map
use Rattle.std.specs.FinMap.Entries.{find}
use Rattle.std.proofs.lemmas.List.Elements.{All-get_or}
use Rattle.uxn_io.specs.declared.memory.trees.Node.{Node as StoredNode}
use Rattle.std.proofs.lemmas.Bool.{and_parts}
use Rattle.uxn_io_traits.specs.ByteList.{ByteList}
use Rattle.uxn_io_traits.specs.Files.{Node, Nodes, IsTree, has_parent}
use Rattle.uxn_io_traits.specs.PathText.{path_of}
use Rattle.uxn_io.specs.InMemory.Places.{node_of, nodes_of, place_of, AreOrdered, IsPlace}
use Rattle.uxn_io.specs.InMemory.Trees.{is_sound, can_hold}
use Rattle.uxn_io.proofs.InMemory.PlaceLemmas.{entries_of, text_cmp, get_held, find_new, within_there, path_there}
use Rattle.uxn_io_traits.specs.NodeLaws.{same_or_other}

-- the parent of a path that is found among sound nodes
sound_parent : (all held : List (List ℕ × StoredNode)) (room : ℕ) (path : List ℕ) → list_all (is_sound all room) held ≡ true → IsSome (find text_cmp path (entries_of held)) → has_parent (nodes_of all) path ≡ true
sound_parent all [] room path sound some = cc
sound_parent all (e ∷ held) room path sound some = elim (same_or_other path e.0) [
  | inl same ↦ let P : List ℕ → Type 0 = λ p. has_parent (nodes_of all) p ≡ true in subst P (sym same) ((and_parts _ _ (and_parts _ _ (and_parts (is_sound all room e) _ sound).0).0).1)
  | inr other ↦ let P : Bool → Type 0 = λ b. IsSome (cond b (Some (node_of e.1)) (find text_cmp path (entries_of held))) in sound_parent all held room path ((and_parts (is_sound all room e) _ sound).1) (subst P other some)
]

-- what is held is at a path
held_path : (held : List (List ℕ × StoredNode)) (room : ℕ) (path : List ℕ) → AreOrdered held → All (IsPlace room) held → IsSome (map.get (nodes_of held) path) → path_of path ≡ Ok path
held_path held room path ordered places some =
    elim (place_of path held) as (λ (r : Result ℕ ℕ). r ≡ place_of path held → path_of path ≡ Ok path) [
      | Ok at ↦ λ is.
          let d : List ℕ × StoredNode = (path, record { folder = false; bytes = record { list = []; spare = 0 } }) in
          let P : List ℕ → Type 0 = λ p. path_of p ≡ Ok p in
          subst P (path_there path held at d is) (All-get_or (IsPlace room) held at d (within_there path held at is) places).path
      | Err at ↦ λ is.
          let P : Option Node → Type 0 = λ o. IsSome o in
          let no : false ≡ true = subst P (get_held held path ordered ∙ find_new path held at ordered is) some in
          cc
    ] refl

pub held_tree : (nodes held : List (List ℕ × StoredNode)) (room : ℕ) → can_hold nodes room ≡ true → nodes_of held ≡ nodes_of nodes → AreOrdered held → All (IsPlace room) held → IsTree (nodes_of held)
held_tree nodes held room sound same ordered places = record {
  paths = λ path some. held_path held room path ordered places some;
  parents = λ path some.
      let P : Option Node → Type 0 = λ o. IsSome o in
      let Q : Nodes → Type 0 = λ n. has_parent n path ≡ true in
      let found : map.get (nodes_of held) path ≡ find text_cmp path (entries_of nodes) = ap (λ (n : Nodes). map.get n path) same ∙ map.get-from_entries nat_list_cmp_total (entries_of nodes) path in
      subst Q (sym same) (sound_parent nodes nodes room path sound (subst P found some));
}

-- one node more was copied
pub copied : (nodes : List (List ℕ × StoredNode)) (i j : ℕ) (e : List ℕ × StoredNode) (bytes : ByteList) (m new : Nodes) → i < length nodes
    → j ≡ i + 1 → e ≡ get_or nodes i e → m ≡ nodes_of (drop j nodes) → bytes.list ≡ e.1.bytes.list
    → new ≡ map.insert m e.0 (node_of (record { folder = e.1.folder; bytes = bytes })) → new ≡ nodes_of (drop i nodes)
copied nodes i j e bytes m new lt next is before same after = grind (arith, common_steps)
