-- The text that a device reads of a folder (Varvara device reference: File/read).
use Rattle.std.specs.Prelude.{ℕ, List, [], ◌∷◌, ◌++◌}
use Rattle.std.specs.List.{flat_map}
use Rattle.uxn_io_traits.specs.declared.trees.Kind.{Kind}
use Rattle.uxn_io_traits.specs.declared.trees.Kind.TheVariants.{Folder}
use Rattle.uxn_io_traits.specs.declared.trees.Entry.{Entry}
use Rattle.file_ports.specs.Signs.{signs}

-- a slash behind the name of a folder
abbrev pub mark_of : Kind → List ℕ
mark_of Folder = 47 ∷ []
mark_of _ = []

-- a child's line: four signs, a space, its name, its mark, and a newline
abbrev pub listing_line : Entry → List ℕ
listing_line entry = signs 4 entry.kind ++ 32 ∷ entry.name ++ mark_of entry.kind ++ 10 ∷ []

-- a line for each child
abbrev pub folder_listing : List Entry → List ℕ
folder_listing entries = flat_map listing_line entries
