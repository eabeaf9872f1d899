-- What the code finds in a table is what the table has.
use Rattle.std.proofs.Common.{◌≡◌, ℕ, Bool, true, false, cond, List, [], ◌∷◌, map, Option, Some, None, refl, ap, ◌∙◌}
use Rattle.std.specs.Borrow.{Bor}
use Rattle.std.specs.List.{find}
use Rattle.std.specs.Option.{option_map}
use Rattle.std.specs.Str.{bytes_eq}
use Rattle.text_lines.specs.Named.{named_row_in, named_in, value_named}

map_if : {A B : Type 0} (f : A → B) (b : Bool) (x : A) (rest : Option A) → option_map f (cond b (Some x) rest) ≡ cond b (Some (f x)) (option_map f rest)
map_if f true x rest = refl
map_if f false x rest = refl

-- the row of a name, where rows are taken for others of the same name
find_map : {A B : Type 0} (f : A → B) (of : A → Bool) (p : B → Bool) → ((row : A) → of row ≡ p (f row)) → (rows : List A)
    → option_map f (find of rows) ≡ find p (map f rows)
find_map f of p same [] = refl
find_map f of p same (row ∷ rows) = rw (map_if f (of row) row (find of rows), same row, find_map f of p same rows) refl

the_value : {V : Type 0} (found : Option (Bor (List ℕ) × V)) → option_map (λ row. row.1) found ≡ option_map (λ row. row.1) (option_map named_row_in found)
the_value None = refl
the_value (Some row) = refl

pub value_row : {V : Type 0} (name : List ℕ) (rows : List (Bor (List ℕ) × V)) (found : Option (Bor (List ℕ) × V))
    → found ≡ find (λ row. bytes_eq row.0.now name) rows → option_map (λ row. row.1) found ≡ value_named (named_in rows) name
unfolding value_named
value_row name rows found is =
    the_value found ∙ ap (option_map (λ row. row.1)) (ap (option_map named_row_in) is
    ∙ find_map named_row_in (λ row. bytes_eq row.0.now name) (λ row. bytes_eq row.0.now name) (λ row. refl) rows)
