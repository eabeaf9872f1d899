-- Nodes that are held in the order of their paths: where a path stands, and what a change does to the map.
use Rattle.std.proofs.Common.{◌≡◌, ℕ, suc, ◌+◌, ◌<◌, ◌≤◌, Bool, true, false, cond, not, ◌&&◌, T, List, [], ◌∷◌, length, get_or, set, map as list_map, Option, Some, None, Result, Ok, Err, refl, ap, sym, subst, ◌∙◌, arith}
use Rattle.std.specs.List.{insert, remove}
use Rattle.std.specs.Ordering.{nat_cmp, eq_by_cmp, is_eq, is_lt}
use Rattle.std.specs.declared.cmp.Ordering.{Ordering}
use Rattle.std.specs.declared.cmp.Ordering.TheVariants.{Less, Equal, Greater}
use Rattle.std.specs.Cmp.{alike_right, eq_by_cmp_equiv}
use Rattle.std.specs.Cmp.Lexicographic.{slice_cmp, nat_list_cmp_total}
use Rattle.std.specs.FinMap as map
use Rattle.std.specs.FinMap.Entries.{put, find, where_key, is_sorted, below_all, by_order, find-where_key, is_sorted-where_key}
use Rattle.uxn_io.specs.declared.memory.trees.Node.{Node as StoredNode}
use Rattle.uxn_io_traits.specs.Files.{Node, Nodes}
use Rattle.uxn_io.specs.InMemory.Places.{node_of, place_entry, nodes_of, AreOrdered, place_of, next}

-- what the held nodes represent, one by one
abbrev pub entries_of : List (List ℕ × StoredNode) → List (List ℕ × Node)
entries_of held = list_map place_entry held

abbrev pub text_cmp : List ℕ → List ℕ → Ordering
text_cmp = slice_cmp nat_cmp

and_first : (a b : Bool) → T (a && b) → T a
and_first true b p = tt
and_first false b p = p

and_second : (a b : Bool) → T (a && b) → T b
and_second true b p = p
and_second false b p = absurd p

is_less : (o : Ordering) → T (is_lt o) → o ≡ Less
is_less Less p = refl
is_less Equal p = absurd p
is_less Greater p = absurd p

empty_list : {X : Type 0} (xs : List X) → length xs ≡ 0 → xs ≡ []
empty_list [] e = refl
empty_list (x ∷ xs) e = cc

-- an entry below all stands first
put_first : (path : List ℕ) (node : Node) (es : List (List ℕ × Node)) → T (below_all text_cmp path es) → put text_cmp path node es ≡ (path, node) ∷ es
put_first path node [] below = refl
put_first path node (e ∷ es) below = ap (λ o. by_order o ((path, node) ∷ e ∷ es) ((e.0, node) ∷ es) (e ∷ put text_cmp path node es)) (is_less _ (and_first _ _ below))

-- the map of nodes that are held in order has these entries
pub entries-nodes_of : (held : List (List ℕ × StoredNode)) → AreOrdered held → map.entries (nodes_of held) ≡ entries_of held
entries-nodes_of [] ordered = empty_list _ (sym (map.len-entries (nodes_of [])) ∙ map.len-empty text_cmp Node)
entries-nodes_of (e ∷ held) ordered =
    map.entries-insert nat_list_cmp_total (nodes_of held) e.0 (node_of e.1)
    ∙ ap (put text_cmp e.0 (node_of e.1)) (entries-nodes_of held (and_second _ _ ordered))
    ∙ put_first e.0 (node_of e.1) (entries_of held) (and_first _ _ ordered)

-- nodes that have the entries of a map are in order, and represent it
pub ordered_as : (m : Nodes) (held : List (List ℕ × StoredNode)) → entries_of held ≡ map.entries m → AreOrdered held
ordered_as m held is = let P : List (List ℕ × Node) → Type 0 = λ es. T (is_sorted text_cmp es) in subst P (sym is) (map.entries_sorted m)

pub nodes_as : (m : Nodes) (held : List (List ℕ × StoredNode)) → entries_of held ≡ map.entries m → nodes_of held ≡ m
nodes_as m held is = map.same_entries_map _ m (entries-nodes_of held (ordered_as m held is) ∙ is)

next_ok : (r : Result ℕ ℕ) (at : ℕ) → Ok at ≡ next r → (j : ℕ) × (at ≡ suc j) × (Ok j ≡ r)
next_ok (Ok j) at e = (j, cc, refl)
next_ok (Err j) at e = cc

next_err : (r : Result ℕ ℕ) (at : ℕ) → Err at ≡ next r → (j : ℕ) × (at ≡ suc j) × (Err j ≡ r)
next_err (Ok j) at e = cc
next_err (Err j) at e = (j, cc, refl)

-- what `place_of` answers where the path is compared with the first
abbrev pub step : Ordering → Result ℕ ℕ → Result ℕ ℕ
step o more = by_order o (Err 0) (Ok 0) (next more)

-- a path that stands at a place: to put a node is to write it there
pub put_there : (path : List ℕ) (held : List (List ℕ × StoredNode)) (at : ℕ) (d : List ℕ × StoredNode) (node : StoredNode) → Ok at ≡ place_of path held → put text_cmp path (node_of node) (entries_of held) ≡ entries_of (set held at ((get_or held at d).0, node))
put_there path [] at d node is = cc
put_there path (e ∷ held) at d node is =
    elim (text_cmp path e.0) as (λ o. Ok at ≡ step o (place_of path held) → by_order o ((path, node_of node) ∷ entries_of (e ∷ held)) ((e.0, node_of node) ∷ entries_of held) (place_entry e ∷ put text_cmp path (node_of node) (entries_of held)) ≡ entries_of (set (e ∷ held) at ((get_or (e ∷ held) at d).0, node))) [
      | Less ↦ λ p. cc
      | Equal ↦ λ p. let first : at ≡ 0 = cc in rw first refl
      | Greater ↦ λ p. let n = next_ok (place_of path held) at p in rw n.1 (ap (λ (es : List (List ℕ × Node)). place_entry e ∷ es) (put_there path held n.0 d node n.2))
    ] is

-- a path that stands nowhere: to put a node is to insert it at its place
pub put_new : (path : List ℕ) (held : List (List ℕ × StoredNode)) (at : ℕ) (node : StoredNode) → Err at ≡ place_of path held → put text_cmp path (node_of node) (entries_of held) ≡ entries_of (insert held at (path, node))
put_new path [] at node is = let first : at ≡ 0 = cc in rw first refl
put_new path (e ∷ held) at node is =
    elim (text_cmp path e.0) as (λ o. Err at ≡ step o (place_of path held) → by_order o ((path, node_of node) ∷ entries_of (e ∷ held)) ((e.0, node_of node) ∷ entries_of held) (place_entry e ∷ put text_cmp path (node_of node) (entries_of held)) ≡ entries_of (insert (e ∷ held) at (path, node))) [
      | Less ↦ λ p. let first : at ≡ 0 = cc in rw first refl
      | Equal ↦ λ p. cc
      | Greater ↦ λ p. let n = next_err (place_of path held) at p in rw n.1 (ap (λ (es : List (List ℕ × Node)). place_entry e ∷ es) (put_new path held n.0 node n.2))
    ] is

-- the place is one of those that are held, or the next
pub within_there : (path : List ℕ) (held : List (List ℕ × StoredNode)) (at : ℕ) → Ok at ≡ place_of path held → at < length held
within_there path [] at is = cc
within_there path (e ∷ held) at is =
    elim (text_cmp path e.0) as (λ o. Ok at ≡ step o (place_of path held) → at < length (e ∷ held)) [
      | Less ↦ λ p. cc
      | Equal ↦ λ p. let first : at ≡ 0 = cc in omega arith
      | Greater ↦ λ p. let n = next_ok (place_of path held) at p in omega (arith, n.1, within_there path held n.0 n.2)
    ] is

pub within_new : (path : List ℕ) (held : List (List ℕ × StoredNode)) (at : ℕ) → Err at ≡ place_of path held → at ≤ length held
within_new path [] at is = let first : at ≡ 0 = cc in omega arith
within_new path (e ∷ held) at is =
    elim (text_cmp path e.0) as (λ o. Err at ≡ step o (place_of path held) → at ≤ length (e ∷ held)) [
      | Less ↦ λ p. let first : at ≡ 0 = cc in omega arith
      | Equal ↦ λ p. cc
      | Greater ↦ λ p. let n = next_err (place_of path held) at p in omega (arith, n.1, within_new path held n.0 n.2)
    ] is

-- the node that stands there
pub find_there : (path : List ℕ) (held : List (List ℕ × StoredNode)) (at : ℕ) (d : List ℕ × StoredNode) → Ok at ≡ place_of path held → find text_cmp path (entries_of held) ≡ Some (node_of (get_or held at d).1)
find_there path [] at d is = cc
find_there path (e ∷ held) at d is =
    elim (text_cmp path e.0) as (λ o. Ok at ≡ step o (place_of path held) → cond (is_eq o) (Some (node_of e.1)) (find text_cmp path (entries_of held)) ≡ Some (node_of (get_or (e ∷ held) at d).1)) [
      | Less ↦ λ p. cc
      | Equal ↦ λ p. let first : at ≡ 0 = cc in rw first refl
      | Greater ↦ λ p. let n = next_ok (place_of path held) at p in rw n.1 (find_there path held n.0 d n.2)
    ] is

-- nothing is found among the nodes behind a greater path
find_behind : (path key : List ℕ) (es : List (List ℕ × Node)) → text_cmp path key ≡ Less → T (below_all text_cmp key es) → find text_cmp path es ≡ None
find_behind path key [] less below = refl
find_behind path key (e ∷ es) less below =
    ap (λ o. cond (is_eq o) (Some e.1) (find text_cmp path es)) (nat_list_cmp_total.trans path key e.0 less (is_less _ (and_first _ _ below)))
    ∙ find_behind path key es less (and_second _ _ below)

pub find_new : (path : List ℕ) (held : List (List ℕ × StoredNode)) (at : ℕ) → AreOrdered held → Err at ≡ place_of path held → find text_cmp path (entries_of held) ≡ None
find_new path [] at ordered is = refl
find_new path (e ∷ held) at ordered is =
    elim (text_cmp path e.0) as (λ o. text_cmp path e.0 ≡ o → Err at ≡ step o (place_of path held) → cond (is_eq o) (Some (node_of e.1)) (find text_cmp path (entries_of held)) ≡ None) [
      | Less ↦ λ less p. find_behind path e.0 (entries_of held) less (and_first _ _ ordered)
      | Equal ↦ λ same p. cc
      | Greater ↦ λ more p. let n = next_err (place_of path held) at p in find_new path held n.0 (and_second _ _ ordered) n.2
    ] refl is

-- none of the nodes behind the path has it
keep_behind : (path key : List ℕ) (es : List (List ℕ × Node)) → text_cmp path key ≡ Equal → T (below_all text_cmp key es) → where_key text_cmp (λ x. not (eq_by_cmp text_cmp path x)) es ≡ es
keep_behind path key [] same below = refl
keep_behind path key (e ∷ es) same below =
    ap (λ o. cond (not (is_eq o)) (e ∷ where_key text_cmp (λ x. not (eq_by_cmp text_cmp path x)) es) (where_key text_cmp (λ x. not (eq_by_cmp text_cmp path x)) es)) (nat_list_cmp_total.congr path key e.0 same ∙ is_less _ (and_first _ _ below))
    ∙ ap (λ (z : List (List ℕ × Node)). e ∷ z) (keep_behind path key es same (and_second _ _ below))

-- without the node there
pub gone_there : (path : List ℕ) (held : List (List ℕ × StoredNode)) (at : ℕ) → AreOrdered held → Ok at ≡ place_of path held → where_key text_cmp (λ x. not (eq_by_cmp text_cmp path x)) (entries_of held) ≡ entries_of (remove held at)
gone_there path [] at ordered is = cc
gone_there path (e ∷ held) at ordered is =
    let rest = where_key text_cmp (λ x. not (eq_by_cmp text_cmp path x)) (entries_of held) in
    elim (text_cmp path e.0) as (λ o. text_cmp path e.0 ≡ o → Ok at ≡ step o (place_of path held) → cond (not (is_eq o)) (place_entry e ∷ rest) rest ≡ entries_of (remove (e ∷ held) at)) [
      | Less ↦ λ less p. cc
      | Equal ↦ λ same p. let first : at ≡ 0 = cc in rw first (keep_behind path e.0 (entries_of held) same (and_first _ _ ordered))
      | Greater ↦ λ more p. let n = next_ok (place_of path held) at p in rw n.1 (ap (λ (es : List (List ℕ × Node)). place_entry e ∷ es) (gone_there path held n.0 (and_second _ _ ordered) n.2))
    ] refl is

-- the map where a node was put
pub put_as : (held new : List (List ℕ × StoredNode)) (path : List ℕ) (node : Node) → AreOrdered held → put text_cmp path node (entries_of held) ≡ entries_of new → entries_of new ≡ map.entries (map.insert (nodes_of held) path node)
put_as held new path node ordered is =
    sym is ∙ ap (put text_cmp path node) (sym (entries-nodes_of held ordered)) ∙ sym (map.entries-insert nat_list_cmp_total (nodes_of held) path node)

pub get_held : (held : List (List ℕ × StoredNode)) (path : List ℕ) → AreOrdered held → map.get (nodes_of held) path ≡ find text_cmp path (entries_of held)
get_held held path ordered = map.get-entries (nodes_of held) path ∙ ap (find text_cmp path) (entries-nodes_of held ordered)

turned : {A : Type 0} (a b : Bool) (x y : A) → a ≡ b → cond (not a) x y ≡ cond b y x
turned true b x y e = rw (← e) refl
turned false b x y e = rw (← e) refl

-- the map where a node was taken away
pub remove_ordered : (held : List (List ℕ × StoredNode)) (path : List ℕ) (at : ℕ) → AreOrdered held → Ok at ≡ place_of path held → AreOrdered (remove held at)
remove_ordered held path at ordered is =
    let P : List (List ℕ × Node) → Type 0 = λ es. T (is_sorted text_cmp es) in
    subst P (gone_there path held at ordered is) (is_sorted-where_key text_cmp (λ x. not (eq_by_cmp text_cmp path x)) (entries_of held) ordered)

pub remove_nodes : (held : List (List ℕ × StoredNode)) (path : List ℕ) (at : ℕ) → AreOrdered held → Ok at ≡ place_of path held → nodes_of (remove held at) ≡ map.remove (nodes_of held) path
remove_nodes held path at ordered is =
    map.same_map nat_list_cmp_total (map.slice_cmp-IsAntisymmetric map.nat_cmp-IsAntisymmetric) _ _
    (λ q.
    get_held (remove held at) q (remove_ordered held path at ordered is)
    ∙ ap (find text_cmp q) (sym (gone_there path held at ordered is))
    ∙ find-where_key text_cmp (λ x. not (eq_by_cmp text_cmp path x)) q (λ x t. ap (λ r. not (is_eq r)) (sym (alike_right nat_list_cmp_total q x path t))) (entries_of held)
    ∙ turned _ _ _ _ ((eq_by_cmp_equiv nat_list_cmp_total).symm path q)
    ∙ ap (λ (z : Option Node). cond (eq_by_cmp text_cmp q path) None z) (sym (get_held held q ordered))
    ∙ sym (map.get-remove nat_list_cmp_total (nodes_of held) path q))

-- an answer for the nodes from a place on
abbrev pub from_place : ℕ → Result ℕ ℕ → Result ℕ ℕ
from_place n (Ok at) = Ok (n + at)
from_place n (Err at) = Err (n + at)

-- the path that stands there
pub path_there : (path : List ℕ) (held : List (List ℕ × StoredNode)) (at : ℕ) (d : List ℕ × StoredNode) → Ok at ≡ place_of path held → (get_or held at d).0 ≡ path
path_there path [] at d is = cc
path_there path (e ∷ held) at d is =
    elim (text_cmp path e.0) as (λ o. text_cmp path e.0 ≡ o → Ok at ≡ step o (place_of path held) → (get_or (e ∷ held) at d).0 ≡ path) [
      | Less ↦ λ less p. cc
      | Equal ↦ λ same p. let first : at ≡ 0 = cc in rw first (sym (map.slice_cmp-IsAntisymmetric map.nat_cmp-IsAntisymmetric path e.0 same))
      | Greater ↦ λ more p. let n = next_ok (place_of path held) at p in rw n.1 (path_there path held n.0 d n.2)
    ] refl is
