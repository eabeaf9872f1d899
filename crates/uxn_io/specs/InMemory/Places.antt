-- The nodes of a tree in memory: held in the order of their paths, each with room for the bytes of a file.
use Rattle.std.specs.Prelude.{◌≡◌, ℕ, ◌+◌, ◌-◌, ◌≤◌, suc, T, List, [], ◌∷◌, ◌++◌, length}
use Rattle.std.specs.Prelude.{map as list_map, Option}
use Rattle.std.specs.Prelude.{Result, Ok, Err, Some, None, if◌then◌else◌, refl}
use Rattle.std.specs.List.{All}
use Rattle.std.specs.Ordering.{nat_cmp}
use Rattle.std.specs.Cmp.Lexicographic.{slice_cmp}
use Rattle.std.specs.FinMap as map
use Rattle.std.specs.Coded.{Coded, code_by, coded×, coded_ℕ, coded_list, coded_option}
use Rattle.std.specs.FinMap.Entries.{is_sorted, by_order}
use Rattle.uxn_io.specs.declared.memory.trees.Node.{Node as StoredNode}
use Rattle.uxn_io_traits.specs.ByteList.{ByteList, HasRoom}
use Rattle.uxn_io_traits.specs.PathText.{path_of}
use Rattle.uxn_io_traits.specs.Files.{Node, File, Folder, Nodes, IsTree}

-- what a node that is held represents
abbrev pub node_of : StoredNode → Node
node_of node = if node.folder then Folder else File node.bytes.list

-- what a list of nodes with their paths represents
abbrev pub place_entry : List ℕ × StoredNode → List ℕ × Node
place_entry held = (held.0, node_of held.1)

abbrev pub nodes_of : List (List ℕ × StoredNode) → Nodes
nodes_of held = map.from_entries (list_map place_entry held)

-- what stands at each path, how many places are free, and the room for bytes in each file
pub record Places : Type 0 where
  pub nodes : Nodes
  pub free : ℕ
  pub room : ℕ

-- the paths rise
abbrev pub AreOrdered : List (List ℕ × StoredNode) → Type 0
AreOrdered held = T (is_sorted (slice_cmp nat_cmp) (list_map place_entry held))

-- a place in use has a path, and the room
pub record IsPlace (room : ℕ) (held : List ℕ × StoredNode) : Type 0 where
  pub path : path_of held.0 ≡ Ok held.0
  pub fits : HasRoom room held.1.bytes

-- a free place has the room, and no bytes
pub record IsFree (room : ℕ) (bytes : ByteList) : Type 0 where
  pub none : bytes.list ≡ []
  pub fits : HasRoom room bytes

-- how the nodes are held: both lists have room for all places, used and free
pub record ArePlaces (held : List (List ℕ × StoredNode)) (free : List ByteList) (room for_used for_free : ℕ) : Type 0 where
  pub ordered : AreOrdered held
  pub tree : IsTree (nodes_of held)
  pub places : All (IsPlace room) held
  pub spares : All (IsFree room) free
  pub places_fit : length held + length free ≤ for_used
  pub spares_fit : length held + length free ≤ for_free

-- a place whose file has lost its bytes, or got more at their end
abbrev pub emptied : List ℕ × StoredNode → List ℕ × StoredNode
emptied held =
    (held.0, record { folder = held.1.folder; bytes = record { list = []; spare = held.1.bytes.spare + length held.1.bytes.list } })

abbrev pub grown : List ℕ → List ℕ × StoredNode → List ℕ × StoredNode
grown more held = (
  held.0,
  record {
    folder = held.1.folder;
    bytes = record { list = held.1.bytes.list ++ more; spare = held.1.bytes.spare - length more };
  },
)

-- where a path stands, or the place where it would
abbrev pub next : Result ℕ ℕ → Result ℕ ℕ
next (Ok at) = Ok (suc at)
next (Err at) = Err (suc at)

abbrev pub place_of : List ℕ → List (List ℕ × StoredNode) → Result ℕ ℕ
place_of path [] = Err 0
place_of path (held ∷ more) = by_order (slice_cmp nat_cmp path held.0) (Err 0) (Ok 0) (next (place_of path more))

-- codes, by which proofs tell values apart
abbrev pub node_from : Option (List ℕ) → Node
node_from None = Folder
node_from (Some bytes) = File bytes

abbrev pub node_to : Node → Option (List ℕ)
node_to Folder = None
node_to (File bytes) = Some bytes

pub node_back : (node : Node) → node_from (node_to node) ≡ node
node_back Folder = refl
node_back (File bytes) = refl

abbrev pub node_code : Coded Node
node_code = code_by (Option (List ℕ)) (coded_option (coded_list coded_ℕ)) node_to node_from node_back

abbrev pub places_code : Coded Places
places_code =
    code_by (Nodes × (ℕ × ℕ))
    (coded× (map.code (coded_list coded_ℕ) node_code) (coded× coded_ℕ coded_ℕ))
    (λ p. (p.nodes, (p.free, p.room)))
    (λ p. record { nodes = p.0; free = p.1.0; room = p.1.1 })
    (λ _. refl)
