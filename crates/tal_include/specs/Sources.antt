-- A source with its includes: the text that is assembled, or the first fault (profile).
use Rattle.std.specs.Prelude.{ℕ, List, [], Option, Some, None, Result, Ok, Err, if◌then◌else◌, unwrap_or, IfSome, IsSome}
use Rattle.std.specs.Option.{option_map_or}
use Rattle.std.specs.Str.{bytes_eq}
use Rattle.uxn_io_traits.specs.ByteList.{tight}
use Rattle.tal_words.specs.declared.fault.Fault.{Fault}
use Rattle.tal_words.specs.Faults.{fault_text}
use Rattle.uxn_io_traits.specs.Inquiry.{Inquiry, Answer, and_then, refused_as}
use Rattle.tal_rom.specs.Assembly.{first_fault}
use Rattle.tal_rom.specs.Program.{Program}
use Rattle.tal_include.specs.declared.faults.IncludeFault.{IncludeFault}
use Rattle.tal_include.specs.declared.faults.Origin.{Origin}
use Rattle.tal_include.specs.declared.faults.IncludeKind.{IncludeKind}
use Rattle.tal_include.specs.declared.faults.IncludeKind.TheVariants.{Words}
use Rattle.tal_include.specs.Flat.{Flat, origin_at}
use Rattle.tal_include.specs.Splice.{is_spliced, splice_inquiry}
use Rattle.tal_include.specs.declared.source_fault.SourceFault.{SourceFault}

-- the text that is assembled, and the files that were read beside the main source, in the order of reading
pub record Sourced : Type 0 where
  pub text : List ℕ
  pub paths : List (List ℕ)

-- the same of a source that was read, with what it is assembled to
pub record SourceView : Type 0 where
  pub text : List ℕ
  pub paths : List (List ℕ)
  pub assembly : Program

abbrev pub sourced_of : SourceView → Sourced
sourced_of source = record { text = source.text; paths = source.paths }

-- the path of a file, where it is another than the main source
abbrev pub other_path : List ℕ → List ℕ → Option (List ℕ)
other_path main path = if bytes_eq path main then None else Some path

-- a fault at a word of a file
abbrev pub include_source_fault : List ℕ → Origin → IncludeKind → List ℕ → SourceFault
include_source_fault main origin kind word = record {
  file = other_path main origin.path;
  line = origin.line;
  column = origin.column;
  kind = kind;
  word = tight word;
}

-- a fault of a source that stands by itself
abbrev pub own_fault : List ℕ → Fault → SourceFault
own_fault source fault = record {
  file = None;
  line = fault.line;
  column = fault.column;
  kind = Words fault.kind;
  word = tight (fault_text source fault);
}

-- where a word of a flat text stands in its file; each fault of a flat text has an origin, so the start of the main source, which
-- represents none, is never known
abbrev pub origin_in : List ℕ → Flat → ℕ → Origin
origin_in main flat at = unwrap_or (origin_at flat at) (record { path = main; line = 1; column = 1 })

-- a source without includes, or its first fault
abbrev pub own_answer : List ℕ → Result Sourced SourceFault
own_answer source = option_map_or (λ fault. Err (own_fault source fault)) (first_fault source) (Ok (record { text = source; paths = [] }))

-- a flat text, or its first fault, at the word of the file that has it
abbrev pub flat_answer : List ℕ → Flat → Result Sourced SourceFault
flat_answer main flat =
    let met = λ (fault : Fault). include_source_fault main (origin_in main flat fault.at) (Words fault.kind) (fault_text flat.text fault) in
    option_map_or (λ fault. Err (met fault)) (first_fault flat.text) (Ok (record { text = flat.text; paths = flat.paths }))

-- a fault that is met where the source is spliced
abbrev pub met_fault : List ℕ → IncludeFault → SourceFault
met_fault main fault = include_source_fault main fault.origin fault.kind fault.word.items

-- what is asked of the tree where a source with an include word is read, and what its flat text is assembled from, or the first fault
abbrev pub spliced_inquiry : List ℕ → List ℕ → Inquiry (Result Sourced SourceFault)
spliced_inquiry main source = and_then (refused_as (met_fault main) (splice_inquiry main source)) (λ flat. Answer (flat_answer main flat))

-- what is asked of the tree where a source is read, and what it is assembled from, or its first fault: a source with an include
-- word is assembled from its flat text, any other from its own
unfoldable pub source_inquiry : List ℕ → List ℕ → Inquiry (Result Sourced SourceFault)
source_inquiry main source =
    if is_spliced source
    then and_then (refused_as (met_fault main) (splice_inquiry main source)) (λ flat. Answer (flat_answer main flat))
    else Answer (own_answer source)

-- the first fault of a flat text is at a word with an origin
abbrev pub HasOrigin : Flat → Type 0
HasOrigin flat = IfSome (first_fault flat.text) (λ fault. IsSome (origin_at flat fault.at))
