-- Include words, the paths that they name, and faults of includes (profile).
use Rattle.std.specs.Prelude.{ℕ, zero, suc, Bool, false, ◌==◌, nat_le, if◌then◌else◌, List, [], ◌∷◌, codes, drop, take}
use Rattle.std.specs.Prelude.{Option, Some, None, Result, Ok, Err}
use Rattle.std.specs.Option.{option_and_then, option_map_or}
use Rattle.std.specs.Result.{result_ok}
use Rattle.uxn_limits.specs.declared.limits.TheConstants.{WORD_LIMIT, INCLUDED_FILES}
use Rattle.uxn_io_traits.specs.PathText.{path_of, parent_of, joined}
use Rattle.uxn_io_traits.specs.declared.trees.FileBytes.{FileBytes}
use Rattle.uxn_io_traits.specs.declared.trees.FileBytes.TheVariants.{Found, TooLong, Missing as NoFile}
use Rattle.tal_words.specs.declared.fault.Fault.{Fault}
use Rattle.tal_words.specs.Faults.{kind_name, fault_text}
use Rattle.tal_include.specs.declared.faults.Origin.{Origin}
use Rattle.tal_include.specs.declared.faults.IncludeFault.{IncludeFault}
use Rattle.tal_include.specs.declared.faults.IncludeKind.{IncludeKind}
use Rattle.tal_include.specs.declared.faults.IncludeKind.TheVariants.{Words, BadPath, Missing, Long, Deep, Many, LongFlat}

-- the name of a kind, as it is printed
abbrev pub include_kind_name : IncludeKind → List ℕ
include_kind_name (Words kind) = kind_name kind
include_kind_name BadPath = codes "IncludePath"
include_kind_name Missing = codes "IncludeMissing"
include_kind_name Long = codes "IncludeLong"
include_kind_name Deep = codes "IncludeDeep"
include_kind_name Many = codes "IncludeMany"
include_kind_name LongFlat = codes "IncludeLongText"

-- a word includes a file: a tilde (126) and something behind it
abbrev pub is_include : List ℕ → Bool
is_include [] = false
is_include (first ∷ []) = false
is_include (first ∷ second ∷ rest) = first == 126

-- the path that an include word names, whatever file the word stands in: behind the folder of the main source, if that has one
abbrev pub included_path : List ℕ → List ℕ → Option (List ℕ)
included_path main word =
    option_and_then (λ path. option_map_or (λ folder. joined folder path) (parent_of main) (Some path)) (result_ok (path_of (drop 1 word)))

-- the path of the file to be read, or what is wrong, where files may be included so many deep in this one, and so many were
-- included before
abbrev pub path_or_kind : ℕ → ℕ → Option (List ℕ) → Result (List ℕ) IncludeKind
path_or_kind deeper before None = Err BadPath
path_or_kind zero before (Some path) = Err Deep
path_or_kind (suc deeper) before (Some path) = if nat_le INCLUDED_FILES before then Err Many else Ok path

-- the bytes of a file that was read, or what is wrong
abbrev pub bytes_or_kind : FileBytes → Result (List ℕ) IncludeKind
bytes_or_kind NoFile = Err Missing
bytes_or_kind (TooLong n) = Err Long
bytes_or_kind (Found found) = Ok found.list

-- the prefix of a word that is kept with a fault
unfoldable pub word_prefix : List ℕ → List ℕ
word_prefix word = take WORD_LIMIT word

-- a fault of this kind at a word
abbrev pub include_fault_at : Origin → IncludeKind → List ℕ → IncludeFault
include_fault_at origin kind word = record { origin = origin; kind = kind; word = record { items = word_prefix word } }

-- a fault of the words of a file
abbrev pub words_fault : List ℕ → List ℕ → Fault → IncludeFault
words_fault path source fault =
    include_fault_at (record { path = path; line = fault.line; column = fault.column }) (Words fault.kind)
    (fault_text source fault)
