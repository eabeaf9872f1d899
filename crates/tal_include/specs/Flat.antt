-- The flat text of a source: its words, each with a newline behind it, and where they stand in their files (profile).
use Rattle.std.specs.Prelude.{ℕ, Bool, ◌==◌, Option}
use Rattle.std.specs.Prelude.{List, [], ◌∷◌, ◌++◌, length, slice_index_or}
use Rattle.std.specs.List.{find}
use Rattle.std.specs.Option.{option_map}
use Rattle.tal_words.specs.declared.span.Word.{Word}
use Rattle.tal_include.specs.declared.faults.Origin.{Origin}
use Rattle.tal_include.specs.declared.spliced.Place.{Place}

-- the path of the main source, and whether that has an include word; the flat text; where each word begins there and stands in
-- its file; and the paths of the files that were read, in order
pub record Flat : Type 0 where
  pub main : List ℕ
  pub includes : Bool
  pub text : List ℕ
  pub places : List Place
  pub paths : List (List ℕ)

-- before the first word
abbrev pub empty_flat : List ℕ → Bool → Flat
empty_flat main includes = record { main = main; includes = includes; text = []; places = []; paths = [] }

-- with one word more, of the file with this number in the order of reading; 10 is a newline
abbrev pub flat_with_word : ℕ → Word → List ℕ → Flat → Flat
flat_with_word file word text flat = record flat {
  text = flat.text ++ text ++ 10 ∷ [];
  places = flat.places ++ record { at = length flat.text; file = file; line = word.line; column = word.column } ∷ [];
}

-- with one file more
abbrev pub flat_with_path : List ℕ → Flat → Flat
flat_with_path path flat = record flat { paths = flat.paths ++ path ∷ [] }

-- the main source is the file 0, and the first that was read the file 1
abbrev pub path_of_file : List ℕ → List (List ℕ) → ℕ → List ℕ
path_of_file main paths file = slice_index_or (main ∷ paths) file main

-- the word that begins at an offset
abbrev pub place_in_list : ℕ → List Place → Option Place
place_in_list at places = find (λ place. place.at == at) places

-- where a word stands
abbrev pub origin_of : Flat → Place → Origin
origin_of flat place = record { path = path_of_file flat.main flat.paths place.file; line = place.line; column = place.column }

-- where the word stands that begins at an offset: nowhere, if none does
abbrev pub origin_at : Flat → ℕ → Option Origin
origin_at flat at = option_map (origin_of flat) (place_in_list at flat.places)
