-- Looking for a path from the start of a list of nodes.
use Rattle.std.proofs.Common.{◌≡◌, ℕ, ◌+◌, ◌<◌, Bool, cond, List, ◌∷◌, drop, length, get_or, map as list_map, Option, Some, ap, sym, ◌∙◌}
use Rattle.std.specs.Ordering.{nat_cmp}
use Rattle.std.specs.Cmp.Lexicographic.{slice_cmp, nat_list_cmp_total, lists_ties, pointwise}
use Rattle.std.specs.Prelude.{nat_eq}
use Rattle.std.specs.Cmp.{unsigned_ties}
use Rattle.std.specs.FinMap as map
use Rattle.std.proofs.lemmas.List.{drop_more}
use Rattle.uxn_io.specs.declared.memory.trees.Node.{Node as StoredNode}
use Rattle.uxn_io_traits.specs.Files.{Node}
use Rattle.uxn_io.specs.InMemory.Places.{node_of, place_entry, nodes_of}

-- what the first entry with this path represents
abbrev pub first_at : List ℕ → List (List ℕ × StoredNode) → Option Node
first_at path held = map.find (slice_cmp nat_cmp) path (list_map place_entry held)

-- the map has that node
pub first_at_all : (path : List ℕ) (held : List (List ℕ × StoredNode)) → first_at path held ≡ map.get (nodes_of held) path
first_at_all path held = sym (map.get-from_entries nat_list_cmp_total _ _)

-- one entry more was passed, or found
pub first_at_more : (path : List ℕ) (held : List (List ℕ × StoredNode)) (i : ℕ) (entry : List ℕ × StoredNode) (b : Bool) → i < length held → entry ≡ get_or held i entry → b ≡ pointwise nat_eq path entry.0 → first_at path (drop i held) ≡ cond b (Some (node_of entry.1)) (first_at path (drop (i + 1) held))
first_at_more path held i entry b lt is tested =
    ap (first_at path) (drop_more held i entry lt ∙ ap (λ e. e ∷ drop (i + 1) held) (sym is))
    ∙ ap (λ (t : Bool). cond t (Some (node_of entry.1)) (first_at path (drop (i + 1) held))) (sym (tested ∙ lists_ties nat_cmp unsigned_ties path entry.0))
