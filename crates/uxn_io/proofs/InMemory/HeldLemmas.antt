-- Places stay places where a file is put or taken away, and what they then represent.
use Rattle.std.proofs.Common.{◌≡◌, ℕ, suc, ◌+◌, ◌≤◌, true, false, List, ◌∷◌, take, drop, length, get_or, set, Ok, Err, ap, sym, subst, ◌∙◌, arith}
use Rattle.std.specs.List.{All, insert, remove}
use Rattle.std.specs.FinMap as map
use Rattle.std.proofs.Math.ListN.{length-set}
use Rattle.std.proofs.lemmas.List.Elements.{All-set, All-get_or, All-append, All-take, All-drop, All-cons}
use Rattle.std.proofs.lemmas.List.Edits.{length-insert, length-remove}
use Rattle.uxn_io.specs.declared.memory.trees.Node.{Node as StoredNode}
use Rattle.uxn_io_traits.specs.ByteList.{HasRoom, ByteList}
use Rattle.uxn_io_traits.specs.Files.{Node, File, Nodes, IsTree, is_folder, has_parent}
use Rattle.uxn_io_traits.specs.PathText.{path_of}
use Rattle.uxn_io.specs.InMemory.Places.{node_of, nodes_of, place_of, AreOrdered, IsPlace, IsFree, ArePlaces}
use Rattle.uxn_io.proofs.InMemory.PlaceLemmas.{put_there, put_new, put_as, ordered_as, nodes_as, within_there, within_new, remove_nodes, remove_ordered}
use Rattle.uxn_io.proofs.InMemory.TreeLemmas.{tree_put, tree_remove}

-- a node was written at its place
pub set_nodes : (held : List (List ℕ × StoredNode)) (path : List ℕ) (at : ℕ) (d : List ℕ × StoredNode) (node : StoredNode) → AreOrdered held → Ok at ≡ place_of path held → nodes_of (set held at ((get_or held at d).0, node)) ≡ map.insert (nodes_of held) path (node_of node)
set_nodes held path at d node ordered is = nodes_as _ _ (put_as held _ path (node_of node) ordered (put_there path held at d node is))

pub set_ordered : (held : List (List ℕ × StoredNode)) (path : List ℕ) (at : ℕ) (d : List ℕ × StoredNode) (node : StoredNode) → AreOrdered held → Ok at ≡ place_of path held → AreOrdered (set held at ((get_or held at d).0, node))
set_ordered held path at d node ordered is = ordered_as _ _ (put_as held _ path (node_of node) ordered (put_there path held at d node is))

pub set_places : (room : ℕ) (held : List (List ℕ × StoredNode)) (path : List ℕ) (at : ℕ) (d : List ℕ × StoredNode) (node : StoredNode) → Ok at ≡ place_of path held → HasRoom room node.bytes → All (IsPlace room) held → All (IsPlace room) (set held at ((get_or held at d).0, node))
set_places room held path at d node is fits all =
    All-set (IsPlace room) held at _ (record { path = (All-get_or (IsPlace room) held at d (within_there path held at is) all).path; fits = fits }) all

-- a node was inserted at the place of its path
pub insert_nodes : (held : List (List ℕ × StoredNode)) (path : List ℕ) (at : ℕ) (node : StoredNode) → AreOrdered held → Err at ≡ place_of path held → nodes_of (insert held at (path, node)) ≡ map.insert (nodes_of held) path (node_of node)
insert_nodes held path at node ordered is = nodes_as _ _ (put_as held _ path (node_of node) ordered (put_new path held at node is))

pub insert_ordered : (held : List (List ℕ × StoredNode)) (path : List ℕ) (at : ℕ) (node : StoredNode) → AreOrdered held → Err at ≡ place_of path held → AreOrdered (insert held at (path, node))
insert_ordered held path at node ordered is = ordered_as _ _ (put_as held _ path (node_of node) ordered (put_new path held at node is))

pub insert_places : (room : ℕ) (held : List (List ℕ × StoredNode)) (path : List ℕ) (at : ℕ) (node : StoredNode) → path_of path ≡ Ok path → HasRoom room node.bytes → All (IsPlace room) held → All (IsPlace room) (insert held at (path, node))
insert_places room held path at node text fits all =
    All-append (IsPlace room) (take at held) ((path, node) ∷ drop at held) (All-take (IsPlace room) at held all)
    (All-cons (IsPlace room) (path, node) (drop at held) (record { path = text; fits = fits }) (All-drop (IsPlace room) at held all))

pub remove_places : (room : ℕ) (held : List (List ℕ × StoredNode)) (at : ℕ) → All (IsPlace room) held → All (IsPlace room) (remove held at)
remove_places room held at all =
    All-append (IsPlace room) (take at held) (drop (suc at) held) (All-take (IsPlace room) at held all) (All-drop (IsPlace room) (suc at) held all)

-- places where a file was written at its place
pub set_held : (held : List (List ℕ × StoredNode)) (free : List ByteList) (room c1 c2 : ℕ) (path : List ℕ) (at : ℕ) (d : List ℕ × StoredNode) (node : StoredNode) (bytes : List ℕ) → ArePlaces held free room c1 c2 → Ok at ≡ place_of path held → path_of path ≡ Ok path → has_parent (nodes_of held) path ≡ true → is_folder (map.get (nodes_of held) path) ≡ false → node_of node ≡ File bytes → HasRoom room node.bytes → ArePlaces (set held at ((get_or held at d).0, node)) free room c1 c2
set_held held free room c1 c2 path at d node bytes are is text parent file stands fits =
    let P : Nodes → Type 0 = λ nodes. IsTree nodes in
    let whole : nodes_of (set held at ((get_or held at d).0, node)) ≡ map.insert (nodes_of held) path (File bytes) = set_nodes held path at d node are.ordered is ∙ ap (λ (n : Node). map.insert (nodes_of held) path n) stands in
    let size : length (set held at ((get_or held at d).0, node)) ≡ length held = length-set held at _ in
    record {
      ordered = set_ordered held path at d node are.ordered is;
      tree = subst P (sym whole) (tree_put (nodes_of held) path bytes are.tree text parent file);
      places = set_places room held path at d node is fits are.places;
      spares = are.spares;
      places_fit = omega (arith, size, are.places_fit);
      spares_fit = omega (arith, size, are.spares_fit);
    }

-- places where a file was inserted, and a free one was taken
pub insert_held : (held : List (List ℕ × StoredNode)) (free rest : List ByteList) (room c1 c2 d1 d2 : ℕ) (path : List ℕ) (at : ℕ) (node : StoredNode) (bytes : List ℕ) → ArePlaces held free room c1 c2 → Err at ≡ place_of path held → path_of path ≡ Ok path → has_parent (nodes_of held) path ≡ true → is_folder (map.get (nodes_of held) path) ≡ false → node_of node ≡ File bytes → HasRoom room node.bytes → All (IsFree room) rest → length free ≡ length rest + 1 → c1 ≤ d1 → c2 ≤ d2 → ArePlaces (insert held at (path, node)) rest room d1 d2
insert_held held free rest room c1 c2 d1 d2 path at node bytes are is text parent file stands fits spares count more1 more2 =
    let P : Nodes → Type 0 = λ nodes. IsTree nodes in
    let whole : nodes_of (insert held at (path, node)) ≡ map.insert (nodes_of held) path (File bytes) = insert_nodes held path at node are.ordered is ∙ ap (λ (n : Node). map.insert (nodes_of held) path n) stands in
    let size : length (insert held at (path, node)) ≡ length held + 1 = length-insert held at (path, node) (within_new path held at is) in
    record {
      ordered = insert_ordered held path at node are.ordered is;
      tree = subst P (sym whole) (tree_put (nodes_of held) path bytes are.tree text parent file);
      places = insert_places room held path at node text fits are.places;
      spares = spares;
      places_fit = omega (arith, size, are.places_fit, count, more1);
      spares_fit = omega (arith, size, are.spares_fit, count, more2);
    }

-- places where a file was taken away, and its place is free
pub remove_held : (held : List (List ℕ × StoredNode)) (free more : List ByteList) (room c1 c2 d1 d2 : ℕ) (path : List ℕ) (at : ℕ) → ArePlaces held free room c1 c2 → Ok at ≡ place_of path held → is_folder (map.get (nodes_of held) path) ≡ false → All (IsFree room) more → length more ≡ length free + 1 → c1 ≤ d1 → c2 ≤ d2 → ArePlaces (remove held at) more room d1 d2
remove_held held free more room c1 c2 d1 d2 path at are is file spares count more1 more2 =
    let P : Nodes → Type 0 = λ nodes. IsTree nodes in
    let size : length (remove held at) + 1 ≡ length held = length-remove held at (within_there path held at is) in
    record {
      ordered = remove_ordered held path at are.ordered is;
      tree = subst P (sym (remove_nodes held path at are.ordered is)) (tree_remove (nodes_of held) path are.tree file);
      places = remove_places room held at are.places;
      spares = spares;
      places_fit = omega (arith, size, are.places_fit, count, more1);
      spares_fit = omega (arith, size, are.spares_fit, count, more2);
    }
