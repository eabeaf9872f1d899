-- What a stat shows of a path (Varvara device reference: File/stat).
use Rattle.std.specs.Prelude.{ℕ, zero, suc, ◌/◌, ◌%◌, ◌^◌, nat_lt, List, [], ◌∷◌, ◌++◌, replicate, if◌then◌else◌}
use Rattle.uxn_io_traits.specs.NumberText.{hex_digit}
use Rattle.uxn_io_traits.specs.declared.trees.Kind.{Kind}
use Rattle.uxn_io_traits.specs.declared.trees.Kind.TheVariants.{Missing, File, Folder}

-- a number in so many hexadecimal digits, with zeros before it
unfoldable pub hex_digits : ℕ → ℕ → List ℕ
hex_digits zero value = []
hex_digits (suc count) value = hex_digits count (value / 16) ++ hex_digit (value % 16) ∷ []

-- so many signs: the size of a file, `?` each where it needs more digits, `-` each for a folder, `!` each for nothing
unfoldable pub signs : ℕ → Kind → List ℕ
signs count Missing = replicate count 33
signs count (File size) = if nat_lt size (16 ^ count) then hex_digits count size else replicate count 63
signs count Folder = replicate count 45
