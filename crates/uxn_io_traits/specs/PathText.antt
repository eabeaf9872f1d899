-- Paths: which texts are paths (profile).
use Rattle.std.specs.Prelude.{◌≡◌, ◌≢◌, ℕ, ◌+◌, ◌-◌, ◌<◌, ◌≤◌, ◌∷◌, ◌++◌, take, drop}
use Rattle.std.specs.Prelude.{slice_index, Option, Some, None}
use Rattle.std.specs.Prelude.{Bool, not, ◌&&◌, ◌||◌, ◌==◌, nat_lt, List, length, codes, Result, Ok, Err, if◌then◌else◌}
use Rattle.std.specs.List.{slice_split, list_any, list_all, starts_with, join_with_byte}
use Rattle.std.specs.Option.{option_eq}
use Rattle.std.specs.Str.{is_utf8, bytes_eq}
use Rattle.uxn_io_traits.specs.declared.paths.PathFault.{PathFault}
use Rattle.uxn_io_traits.specs.declared.paths.PathFault.TheVariants.{Empty, BadComponent, TooLong}

-- the components of a text stand between its slashes
abbrev pub components : List ℕ → List (List ℕ)
components text = slice_split (λ b. b == 47) text

-- a control byte, a backslash or a delete
abbrev pub is_bad_byte : ℕ → Bool
is_bad_byte b = nat_lt b 32 || b == 92 || b == 127

-- a component is not empty, not `.` and not `..`, and has no bad byte
abbrev pub is_component : List ℕ → Bool
is_component name = not (length name == 0 || bytes_eq name (codes ".") || bytes_eq name (codes "..") || list_any is_bad_byte name)

-- a path has at most 16 components, and at most 255 bytes with its slashes
abbrev pub is_too_long : List ℕ → Bool
is_too_long text = nat_lt 16 (length (components text)) || nat_lt 255 (length text)

-- the path that a text is, or why it is none
unfoldable pub path_of : List ℕ → Result (List ℕ) PathFault
path_of text =
    if length text == 0 then Err Empty
    else if not (is_utf8 text && list_all is_component (components text)) then Err BadComponent
    else if is_too_long text then Err TooLong
    else Ok text

-- a path behind another, with a slash between, unless the whole is too long
unfoldable pub joined : List ℕ → List ℕ → Option (List ℕ)
joined text tail = if is_too_long (text ++ 47 ∷ tail) then None else Some (text ++ 47 ∷ tail)

-- all components but the last, with slashes between
abbrev pub all_but_last : List (List ℕ) → List ℕ
all_but_last names = join_with_byte 47 (take (length names - 1) names)

-- the path of all components but the last, unless there is only one
abbrev pub parent_from : List (List ℕ) → Option (List ℕ)
parent_from names = if nat_lt 1 (length names) then Some (all_but_last names) else None

unfoldable pub parent_of : List ℕ → Option (List ℕ)
parent_of text = parent_from (components text)

-- the name of a path in a folder that is its parent
abbrev pub child_name : List ℕ → List ℕ → Option (List ℕ)
child_name folder path = if option_eq bytes_eq (parent_of path) (Some folder) then Some (drop (length folder + 1) path) else None

-- the components of the other are a proper prefix of this one's
unfoldable pub is_under : List ℕ → List ℕ → Bool
is_under text other =
    nat_lt (length (components other)) (length (components text)) && starts_with bytes_eq (components text) (components other)

-- from a place on the text has no slash
abbrev pub HasNoSlashFrom : List ℕ → ℕ → Type 0
HasNoSlashFrom text from = (k : ℕ) → from ≤ k → k < length text → slice_index text k ≢ 47

-- the last slash of the text stands here
pub record IsLastSlash (text : List ℕ) (at : ℕ) : Type 0 where
  pub within : at < length text
  pub slash : slice_index text at ≡ 47
  pub last : HasNoSlashFrom text (at + 1)

-- the text is the other, a slash, and more
abbrev pub ContinuesAfter : List ℕ → List ℕ → Type 0
ContinuesAfter text other = (tail : List ℕ) × (text ≡ other ++ 47 ∷ tail)
