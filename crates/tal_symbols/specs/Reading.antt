-- What a symbol file says, or what is wrong with it (profile).
use Rattle.std.specs.Prelude.{ℕ, ◌+◌, ◌*◌, not, ◌&&◌, ◌==◌, nat_le, nat_lt, if◌then◌else◌, List, []}
use Rattle.std.specs.Prelude.{◌∷◌, length, map, Option, Some, None, Result, Ok, Err}
use Rattle.std.specs.Prelude.{drop, slice_index}
use Rattle.std.specs.List.{list_any, take_while, onto_first}
use Rattle.std.specs.Option.{option_map, option_or, option_map_or}
use Rattle.tal_words.specs.declared.name.Label.{Label}
use Rattle.tal_words.specs.Source.{is_blank}
use Rattle.tal_symbols.specs.declared.stop.SymbolKind.{SymbolKind}
use Rattle.tal_symbols.specs.declared.stop.SymbolKind.TheVariants.{Torn, NoName, BadByte, Long}
use Rattle.uxn_limits.specs.declared.limits.TheConstants.{SYMBOLS_LIMIT}

-- how a file is cut: an entry ends with the first zero byte after its two address bytes, or with the file; so many bytes of the
-- first entry stand before these
abbrev pub entries_after : ℕ → List ℕ → List (List ℕ)
entries_after before [] = []
entries_after before (byte ∷ bytes) =
    if nat_le 2 before && byte == 0 then (byte ∷ []) ∷ entries_after 0 bytes
    else onto_first byte (entries_after (before + 1) bytes)

-- the entries of a file, in order
abbrev pub entries : List ℕ → List (List ℕ)
entries bytes = entries_after 0 bytes

-- the name in an entry: what stands behind its address bytes and before the zero byte
abbrev pub name_before_zero : List ℕ → List ℕ
name_before_zero text = take_while (λ byte. not (byte == 0)) text

-- what is wrong with the name in an entry
abbrev pub bad_name : List ℕ → Option SymbolKind
bad_name [] = Some NoName
bad_name (first ∷ rest) = if list_any is_blank (first ∷ rest) then Some BadByte else None

-- what is wrong with an entry: it is torn where it has fewer than two address bytes or no zero byte behind them
abbrev pub entry_fault : List ℕ → Option SymbolKind
entry_fault entry = if list_any (λ byte. byte == 0) (drop 2 entry) then bad_name (name_before_zero (drop 2 entry)) else Some Torn

-- the label of an entry without a fault
abbrev pub label_of_entry : List ℕ → Label
label_of_entry entry = record { name = name_before_zero (drop 2 entry); address = 256 * slice_index entry 0 + slice_index entry 1 }

-- why a file is refused: the number of an entry, from 0, and what is wrong with it
pub record Refusal : Type 0 where
  pub entry : ℕ
  pub kind : SymbolKind

-- the first entry that has a fault, the first of them with this number
abbrev pub first_refusal : ℕ → List (List ℕ) → Option Refusal
first_refusal number [] = None
first_refusal number (entry ∷ others) =
    option_or (option_map (λ kind. record { entry = number; kind = kind }) (entry_fault entry)) (first_refusal (number + 1) others)

-- the labels of a symbol file, or why it is refused
unfoldable pub symbols_in : List ℕ → Result (List Label) Refusal
symbols_in bytes =
    if nat_lt SYMBOLS_LIMIT (length bytes) then Err (record { entry = 0; kind = Long })
    else option_map_or Err (first_refusal 0 (entries bytes)) (Ok (map label_of_entry (entries bytes)))
