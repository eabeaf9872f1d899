-- Labels that are found by the places of their full names.
use Rattle.tal_labels.proofs.Common.{◌≡◌, ℕ, Bool, List, [], ◌∷◌, length, Option, refl, arith, list_any, address_named, option_map, slice_get, ltb, ap, ◌∙◌, sym, false, None, Some, is_some, get_or, ◌<◌, ◌≤◌}
use Rattle.std.specs.Global.{Vec}
use Rattle.std.proofs.lemmas.List.Folds.{find_at}
use Rattle.std.proofs.lemmas.Option.{slice_get_read, slice_get_past}
use Rattle.std.specs.List.{position_or_len}
use Rattle.std.specs.Str.{bytes_eq}
use Rattle.tal_words.specs.declared.name.Label.{Label}
use Rattle.tal_labels.specs.Index.{names_of}

-- a label stands where its full name does
abbrev pub is_named : List ℕ → Label → Bool
is_named name label = bytes_eq name label.name

pub position-names_of : (name : List ℕ) (labels : List Label) → position_or_len (bytes_eq name) (names_of labels) ≡ position_or_len (is_named name) labels
position-names_of name [] = refl
position-names_of name (label ∷ labels) = grind (arith, position-names_of name labels)

-- it is there where one of the labels has the name
pub within-any : (name : List ℕ) (labels : List Label) → ltb (position_or_len (is_named name) labels) (length labels) ≡ list_any (is_named name) labels
within-any name [] = refl
within-any name (label ∷ labels) = grind (arith, within-any name labels)

-- and its address is that of the name
address-at : (name : List ℕ) (labels : List Label)
    → address_named labels name ≡ option_map (λ label. label.address) (slice_get labels (position_or_len (is_named name) labels))
address-at name labels = ap (option_map (λ label. label.address)) (find_at (is_named name) labels)

pub address-there : (name : List ℕ) (labels : List Label) (place : ℕ) (label : Label) → place ≡ position_or_len (is_named name) labels
    → place < length labels → label ≡ get_or labels place label → Some label.address ≡ address_named labels name
address-there name labels place label is inside read =
    ap (option_map (λ found. found.address)) (sym (slice_get_read labels (length labels) place label refl inside read))
    ∙ ap (λ p. option_map (λ found. found.address) (slice_get labels p)) is ∙ sym (address-at name labels)

pub address-none : (name : List ℕ) (labels : List Label) (place : ℕ) → place ≡ position_or_len (is_named name) labels
    → length labels ≤ place → None ≡ address_named labels name
address-none name labels place is past =
    ap (option_map (λ (found : Label). found.address)) (sym (slice_get_past labels place past))
    ∙ ap (λ p. option_map (λ found. found.address) (slice_get labels p)) is ∙ sym (address-at name labels)

pub none_since : {X : Type 0} (o : Option X) → is_some o ≡ false → o ≡ None
none_since o e = grind arith

-- keys are equal by their bytes
abbrev pub vec_eq : Vec ℕ → Vec ℕ → Bool
vec_eq x y = bytes_eq x.items y.items
