-- Bytes that are put into memory.
use Rattle.std.specs.Prelude.{ℕ, ◌+◌, Bool, true, false, if◌then◌else◌, List, [], ◌∷◌, slice_set}
use Rattle.tal_words.specs.declared.form.Form.{Form}
use Rattle.tal_words.specs.declared.form.Form.TheVariants.{Refer, LabelDef, SubDef}
use Rattle.tal_words.specs.Forms.{encoded_reference, reaches}
use Rattle.tal_rom.specs.declared.hole.Hole.{Hole}

abbrev pub is_reference : Form → Bool
is_reference (Refer rune) = true
is_reference _ = false

abbrev pub is_definition : Form → Bool
is_definition LabelDef = true
is_definition SubDef = true
is_definition _ = false

-- bytes laid over others from an index on
abbrev pub overlaid : List ℕ → ℕ → List ℕ → List ℕ
overlaid memory at [] = memory
overlaid memory at (byte ∷ bytes) = overlaid (slice_set memory at byte) (at + 1) bytes

-- memory once a reference has its target, where it reaches it
abbrev pub filled_hole : ℕ → List ℕ → Hole → List ℕ
filled_hole target memory hole =
    if reaches hole.rune hole.address target then overlaid memory hole.address (encoded_reference hole.rune hole.address target) else memory
