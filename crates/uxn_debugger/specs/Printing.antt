-- What the debugger's commands print (profile).
use Rattle.std.specs.Prelude.{ℕ, ◌+◌, ◌-◌, ◌%◌, ◌||◌, ◌==◌, nat_le, if◌then◌else◌, List, []}
use Rattle.std.specs.Prelude.{◌∷◌, ◌++◌, codes, decimal, slice_index, Option, Some, None}
use Rattle.std.specs.List.{flat_map, range_with_len}
use Rattle.uxn_io_traits.specs.NumberText.{hex_of_byte, hex_of_short}
use Rattle.uxn_stacks.specs.Cells.{Cells}
use Rattle.uxn_opcodes.specs.declared.Core.{Core}
use Rattle.system_port.specs.DebugText.{spaced, debug_text_of}
use Rattle.tal_words.specs.declared.name.Label.{Label}
use Rattle.tal_words.specs.Opcodes.{name_of_op}
use Rattle.tal_symbols.specs.Lookups.{nearest_label}
use Rattle.vector_loop.specs.declared.watch.Moment.{Moment}
use Rattle.uxn_debugger.specs.declared.command.DebugCommand.{DebugCommand}
use Rattle.uxn_debugger.specs.declared.command.DebugCommand.TheVariants.{Break, Delete, Run, Step, Back, Stacks, Mem, PortPage, Here}
use Rattle.uxn_debugger.specs.declared.place.Place.{Place}
use Rattle.uxn_debugger.specs.declared.place.Place.TheVariants.{Before, End}

-- what is observed of a machine: its two stacks, the byte of bank 0 at each address, the bytes that `ports` prints, and where the run is
pub record MomentView : Type 0 where
  pub working : Cells
  pub returns : Cells
  pub byte : ℕ → ℕ
  pub page : List ℕ
  pub place : Place

-- the byte of bank 0 at an address, modulo 65536
abbrev pub text_byte_at : List ℕ → ℕ → ℕ
text_byte_at memory address = slice_index memory (address % 65536)

abbrev pub view : Core → List ℕ → Place → MomentView
view core page place = record {
  working = core.working;
  returns = core.returns;
  byte = text_byte_at core.memory;
  page = page;
  place = place;
}

abbrev pub newline : List ℕ
newline = 10 ∷ []

-- the nearest label that is not above the address, and how far the address is from it
abbrev pub label_text : Option Label → ℕ → List ℕ
label_text None address = []
label_text (Some label) address = codes " " ++ label.name ++ codes "+" ++ hex_of_short (address - label.address)

-- the place line: `at`, the address, the number of instructions run before, the name of this opcode, and a label if there
-- is one; at the end `end` and the number of instructions
unfoldable pub place_line : List Label → ℕ → Place → List ℕ
place_line labels opcode (Before moment) =
    codes "at " ++ hex_of_short moment.address ++ codes " " ++ decimal moment.instructions ++ codes " "
    ++ name_of_op opcode ++ label_text (nearest_label labels moment.address) moment.address ++ newline
place_line labels opcode (End moment) = codes "end " ++ decimal moment.instructions ++ newline

-- that of what is observed, with the opcode at the address
abbrev pub moment_at : Place → Moment
moment_at (Before moment) = moment
moment_at (End moment) = moment

abbrev pub place_observed : List Label → MomentView → List ℕ
place_observed labels observed = place_line labels (observed.byte (moment_at observed.place).address) observed.place

-- how many moments back one could have gone
abbrev pub held_line : ℕ → List ℕ
held_line reach = codes "held " ++ decimal reach ++ newline

-- a word, and an address
abbrev pub address_line : List ℕ → ℕ → List ℕ
address_line word address = word ++ codes " " ++ hex_of_short address ++ newline

-- lines of 16 bytes, of which the last may have fewer: each begins with its name, and ends in a newline
abbrev pub in_lines : (ℕ → List ℕ) → (ℕ → ℕ) → ℕ → ℕ → List ℕ
in_lines name byte count at =
    (if at % 16 == 0 then name at else []) ++ spaced (byte at)
    ++ (if at % 16 == 15 || at + 1 == count then newline else [])

unfoldable pub table : (ℕ → List ℕ) → (ℕ → ℕ) → ℕ → List ℕ
table name byte count = flat_map (in_lines name byte count) (range_with_len 0 count)

-- so many bytes of memory from an address on, modulo 65536, each line with the address of its first byte
abbrev pub memory_table : (ℕ → ℕ) → ℕ → ℕ → List ℕ
memory_table byte address count =
    table (λ at. hex_of_short ((address + at) % 65536)) (λ at. byte ((address + at) % 65536)) count

-- the bytes of the 256 ports, each line with the number of its first port
abbrev pub port_table : List ℕ → List ℕ
port_table page = table hex_of_byte (slice_index page) 256

-- what a command prints where the run stands once the command is done; before it one could have gone so many moments back
abbrev pub printed : List Label → ℕ → MomentView → DebugCommand → List ℕ
printed labels reach observed (Break address) = address_line (codes "break") address
printed labels reach observed (Delete address) = address_line (codes "delete") address
printed labels reach observed Run = place_observed labels observed
printed labels reach observed (Step count) = place_observed labels observed
printed labels reach observed (Back count) = if nat_le count reach then place_observed labels observed else held_line reach
printed labels reach observed Here = place_observed labels observed
printed labels reach observed Stacks = debug_text_of observed.working observed.returns
printed labels reach observed (Mem address count) = memory_table observed.byte address count
printed labels reach observed PortPage = port_table observed.page
