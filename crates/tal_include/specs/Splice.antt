-- The walk through the words of a source and of the files that it includes: the first thing met on it is the fault (profile).
use Rattle.std.specs.Prelude.{ℕ, zero, suc, ◌+◌, Bool, ◌&&◌, nat_lt, if◌then◌else◌, List, length, is_none}
use Rattle.std.specs.Prelude.{Result, Ok, Err}
use Rattle.std.specs.List.{list_any}
use Rattle.std.specs.Option.{option_map_or}
use Rattle.uxn_limits.specs.declared.limits.TheConstants.{INCLUDE_DEPTH, TEXT_LIMIT}
use Rattle.uxn_io_traits.specs.Inquiry.{Inquiry, Answer, and_then, through, result_as, file_of}
use Rattle.tal_words.specs.declared.span.Word.{Word}
use Rattle.tal_words.specs.Source.{word_text}
use Rattle.tal_words.specs.Comments.{words_of, word_fault}
use Rattle.tal_include.specs.declared.faults.Origin.{Origin}
use Rattle.tal_include.specs.declared.faults.IncludeFault.{IncludeFault}
use Rattle.tal_include.specs.declared.faults.IncludeKind.{IncludeKind}
use Rattle.tal_include.specs.declared.faults.IncludeKind.TheVariants.{LongFlat}
use Rattle.tal_include.specs.Flat.{Flat, empty_flat, flat_with_word, flat_with_path}
use Rattle.tal_include.specs.Includes.{is_include, included_path, path_or_kind, bytes_or_kind, include_fault_at, words_fault}

-- what is asked on a walk, and what it results in: what was spliced, or the first fault
abbrev pub Walk : Type 0
Walk = Inquiry (Result Flat IncludeFault)

-- what was found at a word, or the fault there
abbrev pub found_at : {A : Type 0} → Origin → List ℕ → Result A IncludeKind → Result A IncludeFault
found_at origin word found = result_as (λ kind. include_fault_at origin kind word) found

-- the words of a file, or its first fault of words
abbrev pub words_in : List ℕ → List ℕ → Result (List Word) IncludeFault
words_in path source = option_map_or (λ fault. Err (words_fault path source fault)) (word_fault source) (Ok (words_of source))

-- the flat text of a source with includes is too long with this word and its newline
abbrev pub is_long_with : Flat → List ℕ → Bool
is_long_with flat word = flat.includes && nat_lt TEXT_LIMIT (length flat.text + length word + 1)

-- at a word that includes no file
abbrev pub at_plain_word : ℕ → Origin → Word → List ℕ → Flat → Result Flat IncludeFault
at_plain_word file origin word text flat =
    if is_long_with flat text then Err (include_fault_at origin LongFlat text) else Ok (flat_with_word file word text flat)

-- the bytes of the file at a path that an include word names
abbrev pub file_at_word : Origin → List ℕ → List ℕ → Inquiry (Result (List ℕ) IncludeFault)
file_at_word origin text path = and_then (file_of path TEXT_LIMIT) (λ file. Answer (found_at origin text (bytes_or_kind file)))

-- at an include word: its file is read, and then gone through
abbrev pub at_include : ℕ → (List ℕ → List ℕ → Flat → Walk) → Origin → List ℕ → Flat → Walk
at_include deeper inner origin text flat =
    and_then (Answer (found_at origin text (path_or_kind deeper (length flat.paths) (included_path flat.main text)))) (λ path.
    and_then (file_at_word origin text path) (λ bytes. inner path bytes (flat_with_path path flat)))

module _ (deeper : ℕ) (inner : List ℕ → List ℕ → Flat → Walk) where
  -- at a word of the file with this path, these bytes and this number in the order of reading
  abbrev pub at_word : List ℕ → List ℕ → ℕ → Word → Flat → Walk
  at_word path source file word flat =
      let text = word_text source word in
      let origin : Origin = record { path = path; line = word.line; column = word.column } in
      if is_include text then at_include deeper inner origin text flat else Answer (at_plain_word file origin word text flat)

  -- word after word of a file, which is as many files after the main source as were read by then
  abbrev pub through_words : List ℕ → List ℕ → Flat → List Word → Walk
  through_words path source flat words = through (at_word path source (length flat.paths)) words flat

  -- through a file
  abbrev pub through_file : List ℕ → List ℕ → Flat → Walk
  through_file path source flat = and_then (Answer (words_in path source)) (through_words path source flat)

-- through a file that is included where so many deep files may be; where none may be, none is read
unfoldable pub walk : ℕ → List ℕ → List ℕ → Flat → Walk
walk zero path source flat = Answer (Ok flat)
walk (suc deeper) path source flat = through_file deeper (walk deeper) path source flat

-- a source has an include word
abbrev pub has_includes : List ℕ → Bool
has_includes source = list_any (λ word. is_include (word_text source word)) (words_of source)

-- a source is spliced: it has an include word, and no fault of words, which assembly would find first
abbrev pub is_spliced : List ℕ → Bool
is_spliced source = is_none (word_fault source) && has_includes source

-- what is asked of the tree where a source is spliced, and the flat text, or the first fault
unfoldable pub splice_inquiry : List ℕ → List ℕ → Walk
splice_inquiry main source = through_file INCLUDE_DEPTH (walk INCLUDE_DEPTH) main source (empty_flat main (has_includes source))
