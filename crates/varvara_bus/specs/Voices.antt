-- The ports of the four voices (Varvara device reference: audio).
use Rattle.std.specs.Prelude.{ℕ, ◌+◌, ◌*◌}
use Rattle.uxn_limits.specs.declared.ports.TheConstants.{AUDIO_VECTOR, VOICE_PORTS}
use Rattle.audio_mixer.specs.declared.notes.Start.{Start}
use Rattle.varvara_bus.specs.declared.ports.Voice.{Voice}
use Rattle.varvara_bus.specs.declared.ports.Voice.TheVariants.{First, Second, Third, Fourth}
use Rattle.varvara_bus.specs.History.{History, stored, stored_short}

-- the number of a voice, and the first of its ports
abbrev pub voice_number : Voice → ℕ
voice_number First = 0
voice_number Second = 1
voice_number Third = 2
voice_number Fourth = 3

abbrev pub base_of : Voice → ℕ
base_of voice = AUDIO_VECTOR + VOICE_PORTS * voice_number voice

-- the note that is stored at the ports from here on: adsr, length, address, volume and pitch
abbrev pub note_at : History → ℕ → Start
note_at history base = record {
  adsr = stored_short history (base + 0x08);
  length = stored_short history (base + 0x0a);
  addr = stored_short history (base + 0x0c);
  volume = stored history (base + 0x0e);
  pitch = stored history (base + 0x0f);
}
