-- The disassembly of a ROM (Uxntal opcode reference; profile: the form of the lines).
use Rattle.std.specs.Prelude.{ℕ, zero, suc, ◌+◌, ◌||◌, ◌==◌, if◌then◌else◌, List, [], ◌∷◌}
use Rattle.std.specs.Prelude.{◌++◌, length, map, take, drop}
use Rattle.std.specs.List.{flat_map}
use Rattle.uxn_limits.specs.declared.addresses.TheConstants.{FIRST_ADDRESS}
use Rattle.tal_words.specs.declared.name.Label.{Label}
use Rattle.tal_words.specs.Opcodes.{name_of_op}
use Rattle.tal_words.specs.PlainTexts.{Item, Comment, PlainWord, text_of_items}
use Rattle.tal_labels.specs.PlainWords.{pad_text}
use Rattle.uxn_io_traits.specs.NumberText.{hex_of_short}
use Rattle.tal_listing.specs.LabelChains.{labels_of_address}
use Rattle.tal_listing.specs.Texts.{hex_of_bytes}

-- how many bytes of an instruction follow its opcode: one after LIT and LITr, and two after LIT2, LIT2r, JCI, JMI and JSI
abbrev pub immediate_length : ℕ → ℕ
immediate_length opcode =
    if opcode == 128 || opcode == 192 then 1
    else if opcode == 160 || opcode == 224 || opcode == 32 || opcode == 64 || opcode == 96 then 2
    else 0

-- an instruction: its address, its opcode, and the bytes behind this that belong to it, as far as the ROM has them
pub record ListedInstruction : Type 0 where
  pub address : ℕ
  pub opcode : ℕ
  pub immediate : List ℕ

-- the instructions of bytes from an address on, at most so many of them
unfoldable pub instructions_from : ℕ → ℕ → List ℕ → List ListedInstruction
instructions_from zero address bytes = []
instructions_from (suc more) address [] = []
instructions_from (suc more) address (opcode ∷ bytes) =
    let immediate = take (immediate_length opcode) bytes in
    record { address = address; opcode = opcode; immediate = immediate }
    ∷ instructions_from more (address + 1 + length immediate) (drop (length immediate) bytes)

-- the comment with the name of a label, on a line of its own
abbrev pub label_item : Label → Item
label_item label = Comment (64 ∷ label.name) 10

-- the digits of an immediate, if there is one
abbrev pub immediate_items : List ℕ → List Item
immediate_items [] = []
immediate_items (byte ∷ bytes) = PlainWord (hex_of_bytes (byte ∷ bytes)) 32 ∷ []

-- the line of an instruction: its name, its immediate, and the comment with its address
abbrev pub instruction_items : ListedInstruction → List Item
instruction_items instruction =
    PlainWord (name_of_op instruction.opcode) 32
    ∷ (immediate_items instruction.immediate ++ Comment (hex_of_short instruction.address) 10 ∷ [])

-- the labels of an address, in order
abbrev pub label_items : List Label → ℕ → List Item
label_items labels address = map label_item (labels_of_address address labels)

-- an instruction behind the labels of its address
abbrev pub items_of_instruction : List Label → ListedInstruction → List Item
items_of_instruction labels instruction = label_items labels instruction.address ++ instruction_items instruction

-- the items of a disassembly: `|0100`, and the instructions with their labels
abbrev pub disassembly_items : List ℕ → List Label → List Item
disassembly_items rom labels = PlainWord pad_text 10 ∷ flat_map (items_of_instruction labels) (instructions_from (length rom) FIRST_ADDRESS rom)

-- the disassembly of a ROM with labels
unfoldable pub disassembly : List ℕ → List Label → List ℕ
disassembly rom labels = text_of_items (disassembly_items rom labels)
