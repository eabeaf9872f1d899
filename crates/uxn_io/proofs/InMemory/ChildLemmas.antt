-- The children among nodes that are held in order.
use Rattle.std.proofs.Common.{arith, ◌≡◌, ℕ, ◌+◌, ◌<◌, List, [], ◌∷◌, ◌++◌, drop, length, get_or, map as list_map, Option, Result, Ok, Err, IfOk}
use Rattle.std.proofs.Common.{refl, ap}
use Rattle.std.proofs.lemmas.Grind.{common_steps}
use Rattle.std.specs.Option.{option_to_list}
use Rattle.uxn_io_traits.specs.declared.trees.Entry.{Entry}
use Rattle.std.specs.List.{filter_map, cons_option}
use Rattle.uxn_io.specs.declared.memory.trees.Node.{Node as StoredNode}
use Rattle.uxn_io_traits.specs.Children.{children, entry_in}
use Rattle.uxn_io.specs.InMemory.Places.{place_entry, nodes_of, AreOrdered}
use Rattle.uxn_io.proofs.InMemory.PlaceLemmas.{entries-nodes_of}

filter_map-map : {X Y Z : Type 0} (f : X → Y) (h : Y → Option Z) (xs : List X) → filter_map h (list_map f xs) ≡ filter_map (λ x. h (f x)) xs
filter_map-map f h [] = refl
filter_map-map f h (x ∷ xs) = ap (cons_option (h (f x))) (filter_map-map f h xs)

-- the children of a folder are listed in the order in which the nodes are held
pub children_held : (held : List (List ℕ × StoredNode)) (folder : List ℕ) → AreOrdered held
    → filter_map (λ h. entry_in folder (place_entry h)) held ≡ children (nodes_of held) folder
children_held held folder ordered = grind (arith, common_steps, entries-nodes_of, filter_map-map)

-- one node more was listed, or is none of the folder
pub listed_more : (folder : List ℕ) (held : List (List ℕ × StoredNode)) (n : ℕ) (e : List ℕ × StoredNode) (listed now : List Entry) (found : Option Entry) → n < length held → e ≡ get_or held n e → found ≡ entry_in folder (place_entry e) → now ≡ listed ++ option_to_list found → now ++ filter_map (λ h. entry_in folder (place_entry h)) (drop (n + 1) held) ≡ listed ++ filter_map (λ h. entry_in folder (place_entry h)) (drop n held)
listed_more folder held n e listed now found lt is entry grown = grind (arith, common_steps)

-- what holds of every value that is answered
pub if_ok : {T E : Type 0} (P Q : T → Type 0) (r : Result T E) → ((x : T) → P x → Q x) → IfOk r P → IfOk r Q
if_ok P Q (Ok x) more p = more x p
if_ok P Q (Err e) more p = tt
