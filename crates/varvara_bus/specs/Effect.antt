-- What a write to a port does (Varvara device reference).
use Rattle.std.specs.Prelude.{ℕ, ◌+◌, ◌*◌, ◌==◌, Bool, true, false, List, []}
use Rattle.std.specs.Prelude.{◌∷◌, ◌++◌, map, Option, Some, None, if◌then◌else◌}
use Rattle.uxn_io_traits.specs.Outside.{Change, ToOut, ToErr}
use Rattle.uxn_limits.specs.declared.ports.TheConstants.{SCREEN_WIDTH, SCREEN_HEIGHT, SCREEN_AUTO, SCREEN_X, SCREEN_Y, SCREEN_ADDR}
use Rattle.uxn_opcodes.specs.declared.Core.{Core}
use Rattle.system_port.specs.declared.expansions.BankRange.{BankRange}
use Rattle.system_port.specs.Expansion.{no_range, target_at, expanded}
use Rattle.system_port.specs.DebugText.{debug_text_of}
use Rattle.varvara_bus.specs.declared.ports.Action.{Action}
use Rattle.varvara_bus.specs.declared.ports.Action.TheVariants.{Stores, Expands, SetsWorkingPointer, SetsReturnPointer}
use Rattle.varvara_bus.specs.declared.ports.Action.TheVariants.{PutsDebugText, PutsOut, PutsErr}
use Rattle.varvara_bus.specs.declared.ports.Action.TheVariants.{AsksWidth, AsksHeight, DrawsPixel, DrawsSprite, StartsNote, ActsOnFile}
use Rattle.varvara_bus.specs.declared.ports.Voice.{Voice}
use Rattle.varvara_bus.specs.declared.ports.Voice.TheVariants.{First, Second, Third, Fourth}
use Rattle.varvara_bus.specs.declared.ports.FileNumber.{FileNumber}
use Rattle.varvara_bus.specs.declared.ports.FileNumber.TheVariants.{First as FirstFile, Second as SecondFile}
use Rattle.varvara_bus.specs.declared.ports.FileAct.{FileAct}
use Rattle.varvara_bus.specs.declared.ports.FileAct.TheVariants.{Stat, Delete, Name, Read, Write}
use Rattle.file_ports.specs.Actions.{FileOutcome, count_from}
use Rattle.input_ports.specs.Page.{short_stores}
use Rattle.screen_layers.specs.Drawings.{moved_by_pixel, moved_by_sprite}
use Rattle.screen_layers.specs.Pictures.{after_pixel, after_sprite, resized}
use Rattle.audio_mixer.specs.Sounds.{started_on}
use Rattle.varvara_bus.specs.History.{stored, stored_short}
use Rattle.varvara_bus.specs.State.{DeviceState, storing}
use Rattle.varvara_bus.specs.Voices.{voice_number, base_of, note_at}
use Rattle.varvara_bus.specs.FileActs.{file_base, file_outcome, file_acted}

-- the ports of a file device whose write acts
abbrev pub file_actions : FileNumber → List (ℕ × Action)
file_actions number = map (λ (row : ℕ × FileAct). (file_base number + row.0, ActsOnFile number row.1))
    ((0x05, Stat) ∷ (0x06, Delete) ∷ (0x09, Name) ∷ (0x0d, Read) ∷ (0x0f, Write) ∷ [])

-- the ports whose write acts, a line for each device
abbrev pub actions : List (ℕ × Action)
actions =
    (0x03, Expands) ∷ (0x04, SetsWorkingPointer) ∷ (0x05, SetsReturnPointer) ∷ (0x0e, PutsDebugText)
    ∷ (0x18, PutsOut) ∷ (0x19, PutsErr)
    ∷ (0x23, AsksWidth) ∷ (0x25, AsksHeight) ∷ (0x2e, DrawsPixel) ∷ (0x2f, DrawsSprite)
    ∷ map (λ voice. (base_of voice + 0x0f, StartsNote voice)) (First ∷ Second ∷ Third ∷ Fourth ∷ [])
    ++ file_actions FirstFile ++ file_actions SecondFile

abbrev pub action_in : List (ℕ × Action) → ℕ → Action
action_in [] port = Stores
action_in (row ∷ rows) port = if port == row.0 then row.1 else action_in rows port

abbrev pub action_of : ℕ → Action
action_of port = action_in actions port

-- what an action may touch beside the screen, the voices and the pointers of the stacks: bytes of memory, by what the ports and memory
-- hold; the tree with the file devices; and the standard output
pub record Footprint : Type 0 where
  pub memory : Option ((ℕ → ℕ) → List ℕ → BankRange)
  pub tree : Bool
  pub out : Bool

-- the short in a port and the next one, and as many bytes of bank 0 from an address on as a file device means
abbrev pub short_held : (ℕ → ℕ) → ℕ → ℕ
short_held held port = held port * 256 + held (port + 1)

abbrev pub range_meant : ℕ → ℕ → BankRange
range_meant at length = record { bank = 0; first = at; count = count_from at length }

-- stats and reads fill memory
abbrev pub memory_filled : FileAct → ℕ → Option ((ℕ → ℕ) → List ℕ → BankRange)
memory_filled Stat base = Some (λ held memory. range_meant (short_held held (base + 0x04)) (short_held held (base + 0x0a)))
memory_filled Read base = Some (λ held memory. range_meant (short_held held (base + 0x0c)) (short_held held (base + 0x0a)))
memory_filled _ base = None

abbrev pub footprint : Action → Footprint
footprint Expands = record { memory = Some (λ held memory. target_at memory (short_held held 0x02)); tree = false; out = false }
footprint PutsOut = record { memory = None; tree = false; out = true }
footprint (ActsOnFile number part) = record { memory = memory_filled part (file_base number); tree = true; out = false }
footprint _ = record { memory = None; tree = false; out = false }

-- the bytes of memory that it may touch
abbrev pub range_of : Option ((ℕ → ℕ) → List ℕ → BankRange) → (ℕ → ℕ) → List ℕ → BankRange
range_of None held memory = no_range
range_of (Some range) held memory = range held memory

-- whether an action asks something of the tree: that of a file device
abbrev pub asks_tree : Action → Bool
asks_tree action = (footprint action).tree

-- the machine and its devices after something was done, and the changes that it made outside, in order
pub record Effect : Type 0 where
  pub core : Core
  pub devices : DeviceState
  pub changes : List Change

abbrev pub no_effect : DeviceState → Core → Effect
no_effect devices core = record { core = core; devices = devices; changes = [] }

-- the debug text, where the byte is not 0
abbrev pub debug_bytes : ℕ → Core → List ℕ
debug_bytes byte core = if byte == 0 then [] else debug_text_of core.working core.returns

-- the screen is requested the width that is stored, with the height that it has; or for the height, with its width
abbrev pub width_requested : DeviceState → DeviceState
width_requested state = record state { picture = resized state.picture (stored_short state.history SCREEN_WIDTH) state.picture.height }

abbrev pub height_requested : DeviceState → DeviceState
height_requested state = record state { picture = resized state.picture state.picture.width (stored_short state.history SCREEN_HEIGHT) }

-- a pixel is drawn at x and y, and the next x and y are stored
abbrev pub pixel_drawn : ℕ → DeviceState → DeviceState
pixel_drawn control state =
    let x = stored_short state.history SCREEN_X in let y = stored_short state.history SCREEN_Y in let auto = stored state.history SCREEN_AUTO in
    let next = moved_by_pixel x y auto control in
    storing (short_stores SCREEN_X next.0 ++ short_stores SCREEN_Y next.1) (record state { picture = after_pixel state.picture x y control })

-- tiles are drawn from x and y on, with the bytes at the address, and the next x, y and address are stored
abbrev pub sprite_drawn : ℕ → List ℕ → DeviceState → DeviceState
sprite_drawn control memory state =
    let x = stored_short state.history SCREEN_X in let y = stored_short state.history SCREEN_Y in
    let addr = stored_short state.history SCREEN_ADDR in let auto = stored state.history SCREEN_AUTO in
    let next = moved_by_sprite x y addr auto control in
    storing (short_stores SCREEN_X next.x ++ short_stores SCREEN_Y next.y ++ short_stores SCREEN_ADDR next.addr)
    (record state { picture = after_sprite state.picture memory x y addr auto control })

-- a voice starts the note that its ports hold
abbrev pub note_started : Voice → DeviceState → DeviceState
note_started voice state = record state {
  sounds = started_on (voice_number voice) (note_at state.history (base_of voice)) state.sounds;
}

-- a file device has acted
abbrev pub file_effect : FileNumber → FileOutcome → DeviceState → Core → Effect
file_effect number outcome devices core = record {
  core = record core { memory = outcome.memory };
  devices = file_acted number outcome devices;
  changes = outcome.changes;
}

-- what each action does, once the byte is stored
abbrev pub act : Action → ℕ → DeviceState → Core → Effect
act Stores byte devices core = no_effect devices core
act Expands byte devices core = no_effect devices (record core { memory = expanded core.memory (stored_short devices.history 0x02) })
act SetsWorkingPointer byte devices core = no_effect devices (record core { working = record core.working { pointer = byte } })
act SetsReturnPointer byte devices core = no_effect devices (record core { returns = record core.returns { pointer = byte } })
act PutsDebugText byte devices core = record (no_effect devices core) { changes = map (λ letter. ToErr letter) (debug_bytes byte core) }
act PutsOut byte devices core = record (no_effect devices core) { changes = ToOut byte ∷ [] }
act PutsErr byte devices core = record (no_effect devices core) { changes = ToErr byte ∷ [] }
act AsksWidth byte devices core = no_effect (width_requested devices) core
act AsksHeight byte devices core = no_effect (height_requested devices) core
act DrawsPixel byte devices core = no_effect (pixel_drawn byte devices) core
act DrawsSprite byte devices core = no_effect (sprite_drawn byte core.memory devices) core
act (StartsNote voice) byte devices core = no_effect (note_started voice devices) core
act (ActsOnFile number part) byte devices core = file_effect number (file_outcome number part devices core.memory) devices core

-- a write stores its byte and then acts
unfoldable pub effect : DeviceState → Core → ℕ → ℕ → Effect
effect devices core port byte = act (action_of port) byte (storing ((port, byte) ∷ []) devices) core
