-- How a text of lines is cut (profile): newlines part its lines; tabs, carriage returns and spaces part the words of a line.
use Rattle.std.specs.Prelude.{ℕ, Bool, ◌||◌, ◌==◌, nat_lt, nat_le, if◌then◌else◌, List, [], length, drop}
use Rattle.std.specs.List.{slice_split, filter}

abbrev pub is_newline : ℕ → Bool
is_newline byte = byte == 10

abbrev pub is_blank : ℕ → Bool
is_blank byte = byte == 9 || byte == 13 || byte == 32

-- the lines stand between the newlines
abbrev pub lines_of : List ℕ → List (List ℕ)
lines_of text = slice_split is_newline text

-- the words stand between the blanks, and none of them is empty
unfoldable pub words_of : List ℕ → List (List ℕ)
words_of line = filter (λ word. nat_lt 0 (length word)) (slice_split is_blank line)

-- the lines of a text from a place on, which is behind its end where no line is left
abbrev pub lines_from : List ℕ → ℕ → List (List ℕ)
lines_from text at = if nat_le at (length text) then lines_of (drop at text) else []

-- the lines of a text that are left, the number of the last one that was taken, from 1, and the length of the text
pub record LinesView : Type 0 where
  pub left : List (List ℕ)
  pub number : ℕ
  pub size : ℕ
