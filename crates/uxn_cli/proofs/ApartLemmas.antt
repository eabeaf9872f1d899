-- Outputs that do not clash are made and filled one after the other.
use Rattle.uxn_cli.proofs.Common.{Bool, IfSome, IsSome, List, None, Option, Some, [], arith, count_by, false, find, not, option_map, refl, sym}
use Rattle.uxn_cli.proofs.Common.{true, true≢false, ℕ, ◌&&◌, ◌∙◌, ◌∷◌, ◌≡◌, ◌≤◌, common_steps, All-cons, All-nil, bytes_eq-Decides, list_any}
use Rattle.uxn_cli.proofs.Common.{can_create, with_created, File, Node, Nodes, file_at, has_parent, get_put, put_elsewhere, put_other}
use Rattle.uxn_cli.proofs.Common.{same_or_other, clashes, meets, AreFiles, CanMake, Text, text_paths, with_empty}
use Rattle.uxn_io_traits.specs.PathLaws.{parent_under}
pub use Rattle.uxn_cli.proofs.PlaceLemmas.{no_clash-fewer}
use Rattle.uxn_cli.proofs.PlaceLemmas.{count-first, meets_parts, clash_parts}
use Rattle.std.specs.FinMap as fin

-- ---- what a made file leaves

not_same : (path other : List ℕ) → meets path other ≡ false → path ≡ other → ⊥
not_same path other apart = λ same. true≢false (sym ((bytes_eq-Decides path other).1 same) ∙ (meets_parts path other apart).0)

kept_parent : (nodes : Nodes) (path other : List ℕ) (node : Node) → meets path other ≡ false
    → has_parent (fin.insert nodes other node) path ≡ has_parent nodes path
kept_parent nodes path other node apart = grind (arith, common_steps, put_elsewhere, parent_under)

-- a file that can be made still can, once another that does not meet it was made
create-keeps : (nodes : Nodes) (path other : List ℕ) → meets path other ≡ false → can_create nodes path ≡ true
    → can_create (with_created other nodes) path ≡ true
create-keeps = grind (arith, common_steps, kept_parent, put_elsewhere, not_same)

-- ---- outputs that do not clash can be made one after the other

abbrev avoids : List ℕ → List (List ℕ) → Bool
avoids path others = not (list_any (λ other. meets other path) others)

abbrev are_apart : List (List ℕ) → Bool
are_apart [] = true
are_apart (path ∷ paths) = avoids path paths && are_apart paths

still_free : (nodes : Nodes) (path : List ℕ) (others : List (List ℕ)) → avoids path others ≡ true → find (λ q. not (can_create nodes q)) others ≡ None
    → find (λ q. not (can_create (with_created path nodes) q)) others ≡ None
still_free nodes path [] apart none = refl
still_free nodes path (other ∷ others) apart none =
    let rest = still_free nodes path others in
    let keeps = create-keeps nodes other path in
    grind (arith, common_steps, rest, keeps)

can_make : (texts : List Text) (nodes : Nodes) → are_apart (text_paths texts) ≡ true → find (λ q. not (can_create nodes q)) (text_paths texts) ≡ None
    → CanMake texts nodes
unfolding CanMake
can_make [] nodes apart none = tt
can_make (text ∷ texts) nodes apart none =
    let free = still_free nodes text.path (text_paths texts) (grind (arith, common_steps)) (grind (arith, common_steps)) in
    (grind (arith, common_steps), can_make texts (with_created text.path nodes) (grind (arith, common_steps)) free)

module _ (inputs outputs : List (List ℕ)) where
  avoided : (path : List ℕ) (rest some : List (List ℕ)) → find (clashes inputs outputs) some ≡ None
      → ((q : List ℕ) → count_by (meets q) some ≤ count_by (meets q) rest)
      → ((q : List ℕ) → count_by (meets q) (path ∷ rest) ≤ count_by (meets q) outputs) → avoids path some ≡ true
  avoided path rest [] none within all = refl
  avoided path rest (other ∷ others) none within all =
      let more = avoided path rest others (grind (arith, common_steps)) (λ q. omega (arith, within q, count-first (meets q) other others)) all in
      let few = clash_parts inputs outputs other (grind (arith, common_steps)) in
      let itself = (bytes_eq-Decides other other).1 refl in
      let sums = count-first (meets other) other others in
      let here = count-first (meets other) path rest in
      let some = within other in
      let most = all other in
      grind (arith, common_steps, more, few, itself, sums, here, some, most)

  apart_from : (paths : List (List ℕ)) → find (clashes inputs outputs) paths ≡ None
      → ((q : List ℕ) → count_by (meets q) paths ≤ count_by (meets q) outputs) → are_apart paths ≡ true
  apart_from [] none within = refl
  apart_from (path ∷ paths) none within =
      let apart = avoided path paths paths (grind (arith, common_steps)) (λ q. omega arith) within in
      let rest = apart_from paths (grind (arith, common_steps)) (λ q. omega (arith, within q, count-first (meets q) path paths)) in
      grind (arith, common_steps, apart, rest)

-- the outputs of a task that do not clash and that are not blocked
pub makes_all : (inputs : List (List ℕ)) (texts : List Text) (nodes : Nodes) → find (clashes inputs (text_paths texts)) (text_paths texts) ≡ None
    → None ≡ find (λ path. not (can_create nodes path)) (text_paths texts) → CanMake texts nodes
makes_all inputs texts nodes apart can = can_make texts nodes (apart_from inputs (text_paths texts) (text_paths texts) apart (λ q. omega arith)) (sym can)

-- ---- files that were made are there, and are empty

abbrev IsMade : List ℕ → Nodes → Type 0
IsMade path nodes = fin.get nodes path ≡ Some (File [])

created-here : (nodes : Nodes) (path : List ℕ) → can_create nodes path ≡ true → IsMade path (with_created path nodes)
created-here nodes path can = rw can (get_put nodes path (File []))

created-stays : (nodes : Nodes) (path other : List ℕ) → IsMade other nodes → IsMade other (with_created path nodes)
created-stays = grind (arith, common_steps, get_put, put_other, same_or_other)

made-stays : (texts : List Text) (nodes : Nodes) (path : List ℕ) → IsMade path nodes → IsMade path (with_empty texts nodes)
made-stays [] nodes path is = is
made-stays (text ∷ texts) nodes path is = made-stays texts (with_created text.path nodes) path (created-stays nodes text.path path is)

abbrev AreMade : List Text → Nodes → Type 0
AreMade [] nodes = Unit {0}
AreMade (text ∷ texts) nodes = IsMade text.path nodes × AreMade texts nodes

are_made : (texts : List Text) (nodes : Nodes) → CanMake texts nodes → AreMade texts (with_empty texts nodes)
unfolding CanMake
are_made [] nodes can = tt
are_made (text ∷ texts) nodes can =
    (made-stays texts (with_created text.path nodes) text.path (created-here nodes text.path can.0), are_made texts (with_created text.path nodes) can.1)

are_files : (texts : List Text) (nodes : Nodes) → AreMade texts nodes → AreFiles texts nodes
are_files [] nodes made = All-nil (λ (t : Text). IsSome (file_at nodes t.path))
are_files (text ∷ texts) nodes made = All-cons (λ (t : Text). IsSome (file_at nodes t.path)) text texts (rw made.0 refl) (are_files texts nodes made.1)

pub made_files : (texts : List Text) (before now : Option Nodes) → now ≡ option_map (with_empty texts) before → IfSome before (CanMake texts)
    → IfSome now (AreFiles texts)
made_files texts None now e can = rw e tt
made_files texts (Some nodes) now e can = rw e (are_files texts (with_empty texts nodes) (are_made texts nodes can))
