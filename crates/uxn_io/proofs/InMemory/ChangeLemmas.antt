-- What each change of the places is to the tree that they represent.
use Rattle.std.proofs.lemmas.Grind.{common_steps}
use Rattle.std.proofs.Common.{◌≡◌, ℕ, zero, suc, ◌+◌, ◌-◌, ◌<◌, ◌≤◌, Bool, true, false, ◌&&◌, List, [], ◌∷◌, ◌++◌, take, length, get_or, set, Option}
use Rattle.std.proofs.Common.{Some, None, IsSome, is_some, is_none, Result, Ok, Err, refl, ap, sym, ◌∙◌, arith, length-append}
use Rattle.std.specs.Prelude.{if◌then◌else◌}
use Rattle.std.specs.List.{All, insert, remove}
use Rattle.std.specs.Option.{unwrap_or}
use Rattle.std.specs.FinMap as map
use Rattle.std.proofs.lemmas.Bool.{and_parts, not-true}
use Rattle.std.proofs.lemmas.List.{length-take-le}
use Rattle.std.proofs.lemmas.List.Elements.{All-get_or}
use Rattle.uxn_io.specs.declared.memory.trees.Node.{Node as StoredNode}
use Rattle.uxn_io_traits.specs.ByteList.{HasRoom, ByteList}
use Rattle.uxn_io_traits.specs.Files.{Node, File, Folder, Nodes, IsTree, is_folder, has_parent, bytes_of, file_at, file_bytes_at}
use Rattle.uxn_io_traits.specs.Changes.{can_create, with_created, makes_file, new_files, with_appended}
use Rattle.uxn_io_traits.specs.PathText.{path_of}
use Rattle.uxn_io.specs.InMemory.Places.{Places, node_of, nodes_of, place_of, AreOrdered, IsPlace, IsFree, ArePlaces, emptied, grown}
use Rattle.uxn_io.specs.InMemory.Trees.{created, lacks_place, appended, fitting, removed}
use Rattle.uxn_io.proofs.InMemory.PlaceLemmas.{find_there, find_new, within_there, get_held, remove_nodes}
use Rattle.uxn_io.proofs.InMemory.HeldLemmas.{set_held, set_nodes, insert_held, insert_nodes, remove_held}

-- the nodes that are held, with so many free places
abbrev pub observed : List (List ℕ × StoredNode) → ℕ → ℕ → Places
observed held free room = record { nodes = nodes_of held; free = free; room = room }

pub parent_there : (nodes : Nodes) (path : List ℕ) → can_create nodes path ≡ true → has_parent nodes path ≡ true
parent_there nodes path can = (and_parts (has_parent nodes path) _ can).0

pub no_folder : (nodes : Nodes) (path : List ℕ) → can_create nodes path ≡ true → is_folder (map.get nodes path) ≡ false
no_folder nodes path can = not-true _ (and_parts (has_parent nodes path) _ can).1

-- the node at the place of a path
get_there : (held : List (List ℕ × StoredNode)) (path : List ℕ) (at : ℕ) (d : List ℕ × StoredNode) → AreOrdered held → Ok at ≡ place_of path held → map.get (nodes_of held) path ≡ Some (node_of (get_or held at d).1)
get_there held path at d ordered is = get_held held path ordered ∙ find_there path held at d is

get_nowhere : (held : List (List ℕ × StoredNode)) (path : List ℕ) (at : ℕ) → AreOrdered held → Err at ≡ place_of path held → map.get (nodes_of held) path ≡ None
get_nowhere held path at ordered is = get_held held path ordered ∙ find_new path held at ordered is

flag_of : (node : StoredNode) → is_folder (Some (node_of node)) ≡ node.folder
flag_of node = elim node.folder as (λ b. is_folder (Some (if b then Folder else File node.bytes.list)) ≡ b) [ true ↦ refl | false ↦ refl ]

flag_there : (held : List (List ℕ × StoredNode)) (path : List ℕ) (at : ℕ) (d : List ℕ × StoredNode) → AreOrdered held → Ok at ≡ place_of path held → is_folder (map.get (nodes_of held) path) ≡ false → (get_or held at d).1.folder ≡ false
flag_there held path at d ordered is file = sym (flag_of (get_or held at d).1) ∙ ap is_folder (sym (get_there held path at d ordered is)) ∙ file

a_file : (node : StoredNode) → node.folder ≡ false → node_of node ≡ File node.bytes.list
a_file node e = ap (λ (b : Bool). if b then Folder else File node.bytes.list) e

-- a file was emptied where it stands
pub clear_held : (held : List (List ℕ × StoredNode)) (free : List ByteList) (room c1 c2 : ℕ) (path : List ℕ) (at : ℕ) (d : List ℕ × StoredNode) → ArePlaces held free room c1 c2 → Ok at ≡ place_of path held → path_of path ≡ Ok path → can_create (nodes_of held) path ≡ true → ArePlaces (set held at (emptied (get_or held at d))) free room c1 c2
clear_held held free room c1 c2 path at d are is text can =
    let file = no_folder (nodes_of held) path can in
    let flag = flag_there held path at d are.ordered is file in
    set_held held free room c1 c2 path at d (emptied (get_or held at d)).1 [] are is text (parent_there (nodes_of held) path can) file
    (a_file (emptied (get_or held at d)).1 flag)
    (omega (arith, (All-get_or (IsPlace room) held at d (within_there path held at is) are.places).fits))

pub clear_created : (held : List (List ℕ × StoredNode)) (free : List ByteList) (n room c1 c2 : ℕ) (path : List ℕ) (at : ℕ) (d : List ℕ × StoredNode) → ArePlaces held free room c1 c2 → Ok at ≡ place_of path held → can_create (nodes_of held) path ≡ true → observed (set held at (emptied (get_or held at d))) n room ≡ created (observed held n room) path
clear_created held free n room c1 c2 path at d are is can =
    let file = no_folder (nodes_of held) path can in
    let flag = flag_there held path at d are.ordered is file in
    let nodes : nodes_of (set held at (emptied (get_or held at d))) ≡ with_created path (nodes_of held) =
    set_nodes held path at d (emptied (get_or held at d)).1 are.ordered is
    ∙ ap (λ (node : Node). map.insert (nodes_of held) path node) (a_file (emptied (get_or held at d)).1 flag)
    ∙ ap (λ (b : Bool). if b then map.insert (nodes_of held) path (File []) else nodes_of held) (sym can) in
    let none : makes_file (nodes_of held) path ≡ false = ap (λ (node : Option Node). can_create (nodes_of held) path && is_none node) (get_there held path at d are.ordered is) ∙ ap (λ (b : Bool). b && false) can in
    let same : n ≡ n - new_files (nodes_of held) path = omega (arith, ap {B = ℕ} (λ (b : Bool). if b then 1 else 0) none) in
    λ i. record { nodes = nodes i; free = same i; room = room }

-- an empty file was inserted
pub make_held : (held : List (List ℕ × StoredNode)) (free rest : List ByteList) (room c1 c2 d1 d2 : ℕ) (path : List ℕ) (at : ℕ) (bytes : ByteList) → ArePlaces held free room c1 c2 → Err at ≡ place_of path held → path_of path ≡ Ok path → can_create (nodes_of held) path ≡ true → HasRoom room bytes → All (IsFree room) rest → length free ≡ length rest + 1 → c1 ≤ d1 → c2 ≤ d2 → ArePlaces (insert held at (path, record { folder = false; bytes = bytes })) rest room d1 d2
make_held held free rest room c1 c2 d1 d2 path at bytes are is text can fits spares count more1 more2 =
    insert_held held free rest room c1 c2 d1 d2 path at _ bytes.list are is text (parent_there (nodes_of held) path can) (no_folder (nodes_of held) path can) refl fits spares count more1 more2

pub make_created : (held : List (List ℕ × StoredNode)) (n m room : ℕ) (path : List ℕ) (at : ℕ) (bytes : ByteList) → AreOrdered held
    → Err at ≡ place_of path held → can_create (nodes_of held) path ≡ true → bytes.list ≡ [] → n ≡ m + 1
    → observed (insert held at (path, record { folder = false; bytes = bytes })) m room ≡ created (observed held n room) path
make_created held n m room path at bytes ordered is can none count = grind (arith, common_steps, get_nowhere, insert_nodes, is_none)

pub zero_from : (n : ℕ) → (0 < n → false ≡ true) → n ≡ 0
zero_from zero h = refl
zero_from (suc n) h = let no : false ≡ true = h (omega arith) in cc

-- a place is free where a file can be made
pub some_free : (held : List (List ℕ × StoredNode)) (n room : ℕ) (path : List ℕ) (at : ℕ) → AreOrdered held → Err at ≡ place_of path held
    → can_create (nodes_of held) path ≡ true → lacks_place (observed held n room) path ≡ false → n ≡ 0 → ⊥
some_free held n room path at ordered is can lacks none = grind (arith, common_steps, get_nowhere, is_none)

-- a path where a file stands is in a folder, and no folder
stands_in : (nodes : Nodes) (path : List ℕ) → IsTree nodes → IsSome (file_at nodes path) → has_parent nodes path ≡ true
stands_in nodes path tree file = grind (arith, common_steps)

file_no_folder : (node : Option Node) → IsSome (bytes_of node) → is_folder node ≡ false
file_no_folder None h = cc
file_no_folder (Some (File bytes)) h = refl
file_no_folder (Some Folder) h = cc

bytes_of_file : (node : StoredNode) → node.folder ≡ false → unwrap_or (bytes_of (Some (node_of node))) [] ≡ node.bytes.list
bytes_of_file node e = ap (λ (n : Node). unwrap_or (bytes_of (Some n)) []) (a_file node e)

-- the bytes of the file at its place
pub bytes_there : (held : List (List ℕ × StoredNode)) (path : List ℕ) (at : ℕ) (d : List ℕ × StoredNode) → AreOrdered held → Ok at ≡ place_of path held → IsSome (file_at (nodes_of held) path) → file_bytes_at (nodes_of held) path ≡ (get_or held at d).1.bytes.list
bytes_there held path at d ordered is file =
    ap (λ (o : Option Node). unwrap_or (bytes_of o) []) (get_there held path at d ordered is)
    ∙ bytes_of_file (get_or held at d).1 (flag_there held path at d ordered is (file_no_folder _ file))

-- a file stands at a place
pub file_nowhere : (held : List (List ℕ × StoredNode)) (path : List ℕ) (at : ℕ) → AreOrdered held → Err at ≡ place_of path held
    → IsSome (file_at (nodes_of held) path) → ⊥
file_nowhere held path at ordered is file = grind (arith, common_steps, get_nowhere)

-- there is room for what fits
pub room_there : (held : List (List ℕ × StoredNode)) (free : List ByteList) (room c1 c2 : ℕ) (path : List ℕ) (at : ℕ) (d : List ℕ × StoredNode)
    → ArePlaces held free room c1 c2 → Ok at ≡ place_of path held → IsSome (file_at (nodes_of held) path)
    → room - length (file_bytes_at (nodes_of held) path) ≡ (get_or held at d).1.bytes.spare
room_there held free room c1 c2 path at d are is file = grind (arith, common_steps, bytes_there, within_there)

-- a file has no more bytes than the room
pub within_room : (held : List (List ℕ × StoredNode)) (free : List ByteList) (room c1 c2 : ℕ) (path : List ℕ) → ArePlaces held free room c1 c2 → length (file_bytes_at (nodes_of held) path) ≤ room
within_room held free room c1 c2 path are =
    elim (place_of path held) as (λ (r : Result ℕ ℕ). r ≡ place_of path held → length (file_bytes_at (nodes_of held) path) ≤ room) [
      | Ok at ↦ λ is.
          let d : List ℕ × StoredNode = (path, record { folder = false; bytes = record { list = []; spare = 0 } }) in
          let place = All-get_or (IsPlace room) held at d (within_there path held at is) are.places in
          rw (get_there held path at d are.ordered is)
          (elim (get_or held at d).1.folder as (λ (b : Bool). length (unwrap_or (bytes_of (Some (if b then Folder else File (get_or held at d).1.bytes.list))) []) ≤ room) [ true ↦ omega arith | false ↦ omega (arith, place.fits) ])
      | Err at ↦ λ is. rw (get_nowhere held path at are.ordered is) (omega arith)
    ] refl

-- more bytes were appended where the file stands
pub append_held : (held : List (List ℕ × StoredNode)) (free : List ByteList) (room c1 c2 : ℕ) (path more : List ℕ) (at : ℕ) (d : List ℕ × StoredNode) → ArePlaces held free room c1 c2 → Ok at ≡ place_of path held → path_of path ≡ Ok path → IsSome (file_at (nodes_of held) path) → length more ≤ room - length (file_bytes_at (nodes_of held) path) → ArePlaces (set held at (grown more (get_or held at d))) free room c1 c2
append_held held free room c1 c2 path more at d are is text file short =
    let no = file_no_folder _ file in
    let flag = flag_there held path at d are.ordered is no in
    let fits = (All-get_or (IsPlace room) held at d (within_there path held at is) are.places).fits in
    set_held held free room c1 c2 path at d (grown more (get_or held at d)).1 _ are is text (stands_in (nodes_of held) path are.tree file) no
    (a_file (grown more (get_or held at d)).1 flag)
    (omega (arith, fits, length-append (get_or held at d).1.bytes.list more, room_there held free room c1 c2 path at d are is file))

with_some : (path more : List ℕ) (nodes : Nodes) → 0 < length more → with_appended path more nodes ≡ map.insert nodes path (File (file_bytes_at nodes path ++ more))
with_some path [] nodes some = absurd (omega (arith, some))
with_some path (byte ∷ more) nodes some = refl

pub append_appended : (held : List (List ℕ × StoredNode)) (n room : ℕ) (path piece : List ℕ) (count at : ℕ) (d : List ℕ × StoredNode) → AreOrdered held → Ok at ≡ place_of path held → IsSome (file_at (nodes_of held) path) → count ≡ fitting (observed held n room) path piece → 0 < count → observed (set held at (grown (take count piece) (get_or held at d))) n room ≡ appended (observed held n room) path piece
append_appended held n room path piece count at d ordered is file fits some =
    let more = take count piece in
    let flag = flag_there held path at d ordered is (file_no_folder _ file) in
    let size : length more ≡ count = length-take-le count piece (omega (arith, fits)) in
    let nodes : nodes_of (set held at (grown more (get_or held at d))) ≡ with_appended path (take (fitting (observed held n room) path piece) piece) (nodes_of held) =
    set_nodes held path at d (grown more (get_or held at d)).1 ordered is
    ∙ ap (λ (node : Node). map.insert (nodes_of held) path node) (a_file (grown more (get_or held at d)).1 flag)
    ∙ ap (λ (z : List ℕ). map.insert (nodes_of held) path (File (z ++ more))) (sym (bytes_there held path at d ordered is file))
    ∙ sym (with_some path more (nodes_of held) (omega (arith, size)))
    ∙ ap (λ (k : ℕ). with_appended path (take k piece) (nodes_of held)) fits in
    λ i. record { nodes = nodes i; free = n; room = room }

-- a file was taken away
pub take_held : (held : List (List ℕ × StoredNode)) (free more : List ByteList) (room c1 c2 d1 d2 : ℕ) (path : List ℕ) (at : ℕ) → ArePlaces held free room c1 c2 → Ok at ≡ place_of path held → IsSome (file_at (nodes_of held) path) → All (IsFree room) more → length more ≡ length free + 1 → c1 ≤ d1 → c2 ≤ d2 → ArePlaces (remove held at) more room d1 d2
take_held held free more room c1 c2 d1 d2 path at are is file = remove_held held free more room c1 c2 d1 d2 path at are is (file_no_folder _ file)

pub take_removed : (held : List (List ℕ × StoredNode)) (n m room : ℕ) (path : List ℕ) (at : ℕ) → AreOrdered held → Ok at ≡ place_of path held
    → is_some (file_at (nodes_of held) path) ≡ true → m ≡ n + 1 → observed (remove held at) m room ≡ removed (observed held n room) path
take_removed held n m room path at ordered is file count = grind (arith, common_steps, is_some, remove_nodes)
