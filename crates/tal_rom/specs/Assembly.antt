-- From a source to its ROM, or to its first fault (profile: the order of the phases).
use Rattle.std.specs.Prelude.{ℕ, ◌≡◌, List, Option, None, Some, Result, Ok, Err}
use Rattle.std.specs.Option.{option_or}
use Rattle.tal_words.specs.declared.fault.Fault.{Fault}
use Rattle.tal_words.specs.declared.fault.AsmStop.{AsmStop}
use Rattle.tal_words.specs.declared.fault.AsmStop.TheVariants.{Refused, NoMemory}
use Rattle.tal_words.specs.Comments.{word_fault}
use Rattle.tal_labels.specs.Placing.{Layout, layout_of, place_fault}
use Rattle.tal_macros.specs.Expansion.{expanded_of, expansion_fault}
use Rattle.tal_rom.specs.References.{reference_fault}
use Rattle.tal_rom.specs.Rom.{pieces_of, rom_image}
use Rattle.tal_rom.specs.Program.{Program}
pub use Rattle.tal_words.specs.Comments.{long_source}

-- the words of a source with their places, and its labels
unfoldable pub layout : List ℕ → Layout
layout source = layout_of source (expanded_of source)

-- the first fault of a source: that of the first phase that has one. The phases are the cutting into words, the macros, the
-- forms and braces of words and then their labels and places, and the references
unfoldable pub first_fault : List ℕ → Option Fault
first_fault source =
    option_or (word_fault source)
    (option_or (expansion_fault source)
    (option_or (place_fault source (expanded_of source))
    (reference_fault source (layout source).labels (layout source).words)))

-- the ROM of a source
unfoldable pub rom_of : List ℕ → List ℕ
rom_of source = rom_image (pieces_of source (layout source).labels (layout source).words)

-- the answer is the assembly of a source that has no fault, which is its ROM, its words with their places and its labels, or the
-- first fault; running out of memory is free
abbrev pub IsAssembled : List ℕ → Result Program AsmStop → Type 0
IsAssembled source (Ok program) =
    (first_fault source ≡ None)
    × (program.rom ≡ rom_of source)
    × (program.places ≡ (layout source).words)
    × (program.labels ≡ (layout source).labels)
IsAssembled source (Err (Refused fault)) = first_fault source ≡ Some fault
IsAssembled source (Err NoMemory) = Unit {0}
