-- Laws of nodes at paths: which paths are one, and what stands where a node is put or taken away, and elsewhere.
use Rattle.std.specs.Prelude.{◌≡◌, ℕ, Bool, true, false, ◌⊎◌, List, [], Option, Some, None, refl}
use Rattle.std.specs.Option.{unwrap_or}
use Rattle.std.specs.Ordering.{nat_cmp, eq_by_cmp, is_eq}
use Rattle.std.specs.declared.cmp.Ordering.{Ordering}
use Rattle.std.specs.declared.cmp.Ordering.TheVariants.{Less, Equal, Greater}
use Rattle.std.specs.Cmp.{eq_by_cmp_equiv}
use Rattle.std.specs.Cmp.Lexicographic.{slice_cmp, nat_list_cmp_total}
use Rattle.std.specs.FinMap as nodes_map
use Rattle.std.proofs.Common.{cond, ap, sym, ◌∙◌, inl, inr}
use Rattle.std.proofs.lemmas.Bool.{cases_Bool}
use Rattle.uxn_io_traits.specs.Files.{Node, File, Nodes, bytes_of, file_bytes_at}

is_equal : (o : Ordering) → is_eq o ≡ true → o ≡ Equal
is_equal Less e = cc
is_equal Equal e = refl
is_equal Greater e = cc

-- paths that tie in their order are one
pub tied_path : (path other : List ℕ) → slice_cmp nat_cmp path other ≡ Equal → path ≡ other
tied_path = nodes_map.slice_cmp-IsAntisymmetric nodes_map.nat_cmp-IsAntisymmetric

pub same_path : (path other : List ℕ) → eq_by_cmp (slice_cmp nat_cmp) path other ≡ true → path ≡ other
same_path path other e = tied_path path other (is_equal (slice_cmp nat_cmp path other) e)

pub same_key : (path : List ℕ) → eq_by_cmp (slice_cmp nat_cmp) path path ≡ true
same_key path = (eq_by_cmp_equiv nat_list_cmp_total).refl path

-- two paths are one, or do not tie
pub same_or_other : (path other : List ℕ) → (path ≡ other) ⊎ (eq_by_cmp (slice_cmp nat_cmp) path other ≡ false)
same_or_other path other = elim (cases_Bool (eq_by_cmp (slice_cmp nat_cmp) path other)) [
  | inl e ↦ inl (same_path path other e)
  | inr e ↦ inr e
]

pub other_key : (path other : List ℕ) → (path ≡ other → ⊥) → eq_by_cmp (slice_cmp nat_cmp) path other ≡ false
other_key path other apart = elim (same_or_other path other) [
  | inl e ↦ absurd (apart e)
  | inr e ↦ e
]

-- two trees that have the same node at each path are one
pub same_nodes : (m n : Nodes) → ((q : List ℕ) → nodes_map.get m q ≡ nodes_map.get n q) → m ≡ n
same_nodes m n is =
    nodes_map.same_map nat_list_cmp_total (nodes_map.slice_cmp-IsAntisymmetric nodes_map.nat_cmp-IsAntisymmetric) m n is

-- the node that was just put, and no node where one was just taken away
pub get_put : (nodes : Nodes) (path : List ℕ) (node : Node) → nodes_map.get (nodes_map.insert nodes path node) path ≡ Some node
get_put nodes path node =
    nodes_map.get-insert nat_list_cmp_total nodes path node path
    ∙ ap (λ (b : Bool). cond b (Some node) (nodes_map.get nodes path)) (same_key path)

pub get_taken : (nodes : Nodes) (path : List ℕ) → nodes_map.get (nodes_map.remove nodes path) path ≡ None
get_taken nodes path =
    nodes_map.get-remove nat_list_cmp_total nodes path path
    ∙ ap (λ (b : Bool). cond b None (nodes_map.get nodes path)) (same_key path)

pub bytes_put : (nodes : Nodes) (path bytes : List ℕ) → file_bytes_at (nodes_map.insert nodes path (File bytes)) path ≡ bytes
bytes_put nodes path bytes = ap (λ (node : Option Node). unwrap_or (bytes_of node) []) (get_put nodes path (File bytes))

-- every other path keeps its node
pub put_other : (nodes : Nodes) (path q : List ℕ) (node : Node) → eq_by_cmp (slice_cmp nat_cmp) q path ≡ false
    → nodes_map.get (nodes_map.insert nodes path node) q ≡ nodes_map.get nodes q
put_other nodes path q node e =
    nodes_map.get-insert nat_list_cmp_total nodes path node q
    ∙ ap (λ (b : Bool). cond b (Some node) (nodes_map.get nodes q)) e

pub taken_other : (nodes : Nodes) (path q : List ℕ) → eq_by_cmp (slice_cmp nat_cmp) q path ≡ false
    → nodes_map.get (nodes_map.remove nodes path) q ≡ nodes_map.get nodes q
taken_other nodes path q e =
    nodes_map.get-remove nat_list_cmp_total nodes path q ∙ ap (λ (b : Bool). cond b None (nodes_map.get nodes q)) e

pub put_elsewhere : (nodes : Nodes) (path q : List ℕ) (node : Node) → (q ≡ path → ⊥)
    → nodes_map.get (nodes_map.insert nodes path node) q ≡ nodes_map.get nodes q
put_elsewhere nodes path q node apart = put_other nodes path q node (other_key q path apart)

pub taken_elsewhere : (nodes : Nodes) (path q : List ℕ) → (q ≡ path → ⊥)
    → nodes_map.get (nodes_map.remove nodes path) q ≡ nodes_map.get nodes q
taken_elsewhere nodes path q apart = taken_other nodes path q (other_key q path apart)

shadowed : {A : Type 0} (b : Bool) (x y z : A) → cond b x (cond b y z) ≡ cond b x z
shadowed true x y z = refl
shadowed false x y z = refl

-- to put a node twice is to put the later
pub put_again : (nodes : Nodes) (path : List ℕ) (first node : Node)
    → nodes_map.insert (nodes_map.insert nodes path first) path node ≡ nodes_map.insert nodes path node
put_again nodes path first node =
    same_nodes (nodes_map.insert (nodes_map.insert nodes path first) path node) (nodes_map.insert nodes path node)
    (λ q.
    nodes_map.get-insert nat_list_cmp_total (nodes_map.insert nodes path first) path node q
    ∙ ap (λ (z : Option Node). cond (eq_by_cmp (slice_cmp nat_cmp) q path) (Some node) z)
    (nodes_map.get-insert nat_list_cmp_total nodes path first q)
    ∙ shadowed (eq_by_cmp (slice_cmp nat_cmp) q path) (Some node) (Some first) (nodes_map.get nodes q)
    ∙ sym (nodes_map.get-insert nat_list_cmp_total nodes path node q))
