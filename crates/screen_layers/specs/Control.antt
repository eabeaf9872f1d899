-- The control byte of the ports pixel and sprite, and the auto byte (Varvara device reference: screen).
use Rattle.std.specs.Prelude.{ℕ, ◌-◌, ◌/◌, ◌%◌, ◌==◌, Bool, if◌then◌else◌}
use Rattle.screen_layers.specs.declared.control.Layer.{Layer}
use Rattle.screen_layers.specs.declared.control.Layer.TheVariants.{Background, Foreground}

-- whether a byte has a bit, which is a power of 2
abbrev pub has_bit : ℕ → ℕ → Bool
has_bit byte bit = byte / bit % 2 == 1

-- control: 10 flips x, 20 flips y, 40 is the foreground
abbrev pub flips_x : ℕ → Bool
flips_x control = has_bit control 0x10

abbrev pub flips_y : ℕ → Bool
flips_y control = has_bit control 0x20

abbrev pub layer_of : ℕ → Layer
layer_of control = if has_bit control 0x40 then Foreground else Background

-- the control of a pixel: 80 fills
abbrev pub fills : ℕ → Bool
fills control = has_bit control 0x80

-- the control of a sprite: 80 gives each pixel of a tile two bits
abbrev pub has_two_bits : ℕ → Bool
has_two_bits control = has_bit control 0x80

-- the bytes of a tile: 16 where a pixel has two bits, else 8
abbrev pub tile_size : Bool → ℕ
tile_size two_bits = if two_bits then 16 else 8

-- so much where auto has the bit, else 0
abbrev pub auto_step : ℕ → ℕ → ℕ → ℕ
auto_step auto bit step = if has_bit auto bit then step else 0

-- the eight pixels of a tile's side, negated modulo 65536 by a flip
abbrev pub side_step : Bool → ℕ
side_step flip = if flip then 65536 - 8 else 8
