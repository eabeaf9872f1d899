-- A note as a function of its age, the number of samples since it was started (profile): 44,100 samples a second, 735 a frame.
use Rattle.std.specs.Prelude.{ℕ, ◌+◌, ◌-◌, ◌*◌, ◌/◌, ◌%◌, ◌^◌, ◌==◌, ◌&&◌, ◌||◌, Bool, not}
use Rattle.std.specs.Prelude.{nat_lt, nat_le, min, if◌then◌else◌}
use Rattle.std.specs.Prelude.{List, [], ◌∷◌, slice_index, ℤ, pos, neg_ℤ}
use Rattle.audio_mixer.specs.declared.notes.Start.{Start}

-- the key that is struck, 3c for the middle C
abbrev pub key_of : Start → ℕ
key_of note = note.pitch % 128

-- a pitch with the bit 80 does not repeat its sample
abbrev pub is_repeating : Start → Bool
is_repeating note = nat_lt note.pitch 128

-- the sample ends at the end of memory
abbrev pub length_of : Start → ℕ
length_of note = min note.length (65536 - note.addr)

-- a start that stops the voice: of a key that is too high, or of no sample
abbrev pub is_silent : Start → Bool
is_silent note = nat_le 108 (key_of note) || length_of note == 0

-- how far one sample of output goes on, for the twelve tones from C of the ninth octave
abbrev pub advances : List ℕ
advances =
    0x80000 ∷ 0x879c8 ∷ 0x8facd ∷ 0x9837f ∷ 0xa1451 ∷ 0xaadc1
    ∷ 0xb504f ∷ 0xbfc88 ∷ 0xcb2ff ∷ 0xd7450 ∷ 0xe411f ∷ 0xf1a1c ∷ []

-- the advance of a key: that of its tone, halved for each octave below the ninth
unfoldable pub advance_of : Start → ℕ
advance_of note = slice_index advances (key_of note % 12) / 2 ^ (8 - key_of note / 12)

-- how much advance is one byte: long samples play at their own rate, short ones are one wave of the key
unfoldable pub period_of : Start → ℕ
period_of note = if nat_lt 256 (length_of note) then 65536 else 11042816 / length_of note

-- the bytes that so many samples of output have gone on
unfoldable pub steps_of : Start → ℕ → ℕ
steps_of note age = age * advance_of note / period_of note

-- from the start again where the note repeats
unfoldable pub wrapped : Start → ℕ → ℕ
wrapped note steps = if is_repeating note then steps % length_of note else steps

-- the place in the sample that is heard at an age
abbrev pub sample_place : Start → ℕ → ℕ
sample_place note age = wrapped note (steps_of note (age + 1))

-- the ages at which the attack, the decay, the sustain and the release are over: a digit is 2940 samples, four frames
abbrev pub attack_of : Start → ℕ
attack_of note = 2940 * (note.adsr / 4096)

abbrev pub decay_of : Start → ℕ
decay_of note = attack_of note + 2940 * (note.adsr / 256 % 16)

abbrev pub sustain_of : Start → ℕ
sustain_of note = decay_of note + 2940 * (note.adsr / 16 % 16)

abbrev pub release_of : Start → ℕ
release_of note = sustain_of note + 2940 * (note.adsr % 16)

-- the loudness at an age: up to 2184, down to 1092, on, and down to 0; without any digit always 2184
unfoldable pub loudness : (attack decay sustain release age : ℕ) → ℕ
loudness attack decay sustain release age =
    if release == 0 then 2184
    else if nat_lt age attack then 2184 * age / attack
    else if nat_lt age decay then 1092 * (2 * decay - attack - age) / (decay - attack)
    else if nat_lt age sustain then 1092
    else if nat_lt age release then 1092 * (release - age) / (release - sustain)
    else 0

abbrev pub envelope_at : Start → ℕ → ℕ
envelope_at note age = loudness (attack_of note) (decay_of note) (sustain_of note) (release_of note) age

-- the release is over, where there is an envelope
unfoldable pub is_released : Start → ℕ → Bool
is_released note age = nat_lt 0 (release_of note) && nat_le (release_of note) age

-- the sample is over, and does not repeat
unfoldable pub is_played : Start → ℕ → Bool
is_played note age = not (is_repeating note) && nat_le (length_of note) (sample_place note age)

-- at this age the note has ended
abbrev pub note_has_ended : Start → ℕ → Bool
note_has_ended note age = is_released note age || is_played note age

-- the left and the right digit of the volume
abbrev pub left_of : Start → ℕ
left_of note = note.volume / 16

abbrev pub right_of : Start → ℕ
right_of note = note.volume % 16

-- a byte of the sample as a signed number, 80 being 0, at a loudness and a volume, cut towards 0
abbrev pub heard : ℕ → ℕ → ℕ → ℤ
heard byte envelope volume =
    if nat_lt byte 0x80 then neg_ℤ (pos ((0x80 - byte) * (envelope * volume) / 384))
    else pos ((byte - 0x80) * (envelope * volume) / 384)

-- the sample of one side at an age, which is 0 once the note has ended
abbrev pub sample_at : List ℕ → Start → ℕ → ℕ → ℤ
sample_at memory note volume age =
    if note_has_ended note age then pos 0
    else heard (slice_index memory (note.addr + sample_place note age)) (envelope_at note age) volume

-- how loud a side is shown: 0 for a volume of 0, else 1 to 15
abbrev pub level : ℕ → ℕ → ℕ
level envelope volume = if volume == 0 then 0 else min 15 (1 + envelope * volume / 2048)
