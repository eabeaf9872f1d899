-- What ports read (Varvara device reference).
use Rattle.std.specs.Prelude.{ℕ, ◌+◌, ◌/◌, pos, ◌+ℤ◌, List, [], ◌∷◌, ◌++◌}
use Rattle.uxn_limits.specs.declared.ports.TheConstants.{SCREEN_WIDTH, SCREEN_HEIGHT}
use Rattle.uxn_opcodes.specs.declared.Core.{Core}
use Rattle.varvara_bus.specs.declared.ports.Voice.{Voice}
use Rattle.varvara_bus.specs.declared.ports.Voice.TheVariants.{First, Second, Third, Fourth}
use Rattle.varvara_bus.specs.declared.time.Clock.{Clock}
use Rattle.clock_port.specs.declared.CivilFields.{CivilFields}
use Rattle.clock_port.specs.Calendar.{civil_fields}
use Rattle.audio_mixer.specs.Sounds.{Sound, position_of, output_of}
use Rattle.input_ports.specs.Page.{short_stores}
use Rattle.varvara_bus.specs.History.{Store, stored}
use Rattle.varvara_bus.specs.State.{DeviceState}
use Rattle.varvara_bus.specs.Voices.{voice_number, base_of}

-- what the clock shows: a second passes in 60 frames
abbrev pub shown_by : Clock → ℕ → CivilFields
shown_by clock frames = civil_fields (clock.seconds +ℤ pos (frames / 60)) clock.offset

-- the bytes that the clock shows at its ports; the last is that of daylight saving
abbrev pub clock_bytes : CivilFields → List Store
clock_bytes shown =
    short_stores 0xc0 shown.year
    ++ (0xc2, shown.month) ∷ (0xc3, shown.day) ∷ (0xc4, shown.hour) ∷ (0xc5, shown.minute) ∷ (0xc6, shown.second) ∷ (0xc7, shown.weekday)
    ∷ short_stores 0xc8 shown.year_day ++ (0xca, 0) ∷ []

-- the bytes that a voice shows at its ports
abbrev pub voice_bytes : Voice → (ℕ → Sound) → List Store
voice_bytes voice sounds = let sound = sounds (voice_number voice) in
    short_stores (base_of voice + 0x02) (position_of sound) ++ (base_of voice + 0x04, output_of sound) ∷ []

-- the bytes that devices show at their ports, whatever was stored there
abbrev pub shown_bytes : DeviceState → Core → List Store
shown_bytes state core =
    (0x04, core.working.pointer) ∷ (0x05, core.returns.pointer)
    ∷ short_stores SCREEN_WIDTH state.picture.width ++ short_stores SCREEN_HEIGHT state.picture.height
    ++ voice_bytes First state.sounds ++ voice_bytes Second state.sounds
    ++ voice_bytes Third state.sounds ++ voice_bytes Fourth state.sounds
    ++ clock_bytes (shown_by state.clock state.frames)

-- what a port reads: the byte that is shown there, else the byte that was last stored
unfoldable pub read_of : DeviceState → Core → ℕ → ℕ
read_of state core port = stored (shown_bytes state core ++ state.history) port
