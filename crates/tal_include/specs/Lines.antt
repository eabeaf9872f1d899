-- The text that is printed of a fault.
use Rattle.std.specs.Prelude.{ℕ, List, [], ◌++◌, codes, decimal, Option, Some, None}
use Rattle.tal_include.specs.Includes.{include_kind_name}
use Rattle.tal_include.specs.declared.source_fault.SourceFault.{SourceFault}

-- the path of the file in which the word stands, where that is not the main source, and a space
abbrev pub file_text : Option (List ℕ) → List ℕ
file_text None = []
file_text (Some path) = path ++ codes " "

-- the file, the line and column, counted from 1, the kind and the word
abbrev pub message_of : SourceFault → List ℕ
message_of fault =
    codes "source " ++ file_text fault.file ++ decimal fault.line ++ codes ":" ++ decimal fault.column ++ codes ": "
    ++ include_kind_name fault.kind ++ codes ": " ++ fault.word.list
