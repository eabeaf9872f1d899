-- The ports of the controller and the mouse (Varvara device reference; profile: wheel ports are 0 again after the vector).
use Rattle.std.specs.Prelude.{ℕ, ◌==◌, if◌then◌else◌, ◌+◌, ◌-◌, ◌/◌, ◌%◌, List, [], ◌∷◌}
use Rattle.std.specs.Prelude.{◌++◌, slice_set, bit_and, bit_or}
use Rattle.std.specs.Int.{w16, cast_unsigned}
use Rattle.uxn_limits.specs.declared.ports.TheConstants.{CONTROLLER_VECTOR, CONTROLLER_BUTTON, CONTROLLER_KEY}
use Rattle.uxn_limits.specs.declared.ports.TheConstants.{CONTROLLER_P2, CONTROLLER_P3, CONTROLLER_P4}
use Rattle.uxn_limits.specs.declared.ports.TheConstants.{MOUSE_VECTOR, MOUSE_X, MOUSE_Y, MOUSE_STATE, MOUSE_SCROLL_X, MOUSE_SCROLL_Y}
use Rattle.input_ports.specs.declared.Input.{Input}
use Rattle.input_ports.specs.declared.Input.TheVariants.{Key, Down, Up, Mouse, Press, Release, Scroll, DownOf, UpOf}

-- bytes that are stored at ports, in order
abbrev pub Stores : Type 0
Stores = List (ℕ × ℕ)

-- a short at two ports, its high byte first
abbrev pub short_stores : ℕ → ℕ → Stores
short_stores port value = (port, value / 256) ∷ (port + 1, value % 256) ∷ []

-- the bits of a byte with those of a mask set, and cleared
abbrev pub with_bits : ℕ → ℕ → ℕ
with_bits byte mask = bit_or byte mask

abbrev pub without_bits : ℕ → ℕ → ℕ
without_bits byte mask = bit_and byte (255 - mask)

-- the port of a player's buttons
abbrev pub buttons_port : ℕ → ℕ
buttons_port player =
    if player == 2 then CONTROLLER_P2
    else if player == 3 then CONTROLLER_P3
    else if player == 4 then CONTROLLER_P4
    else CONTROLLER_BUTTON

-- the bits of a mask are set at a port, and cleared
abbrev pub bits_set : (ℕ → ℕ) → ℕ → ℕ → Stores
bits_set held port mask = (port, with_bits (held port) mask) ∷ []

abbrev pub bits_cleared : (ℕ → ℕ) → ℕ → ℕ → Stores
bits_cleared held port mask = (port, without_bits (held port) mask) ∷ []

-- what an input stores before its vector, by what its ports hold
unfoldable pub stores_of : (ℕ → ℕ) → Input → Stores
stores_of held (Key byte) = (CONTROLLER_KEY, byte) ∷ []
stores_of held (Down mask) = bits_set held (buttons_port 1) mask
stores_of held (Up mask) = bits_cleared held (buttons_port 1) mask
stores_of held (DownOf player mask) = bits_set held (buttons_port player) mask
stores_of held (UpOf player mask) = bits_cleared held (buttons_port player) mask
stores_of held (Mouse x y) = short_stores MOUSE_X x ++ short_stores MOUSE_Y y
stores_of held (Press mask) = bits_set held MOUSE_STATE mask
stores_of held (Release mask) = bits_cleared held MOUSE_STATE mask
stores_of held (Scroll x y) = short_stores MOUSE_SCROLL_X (cast_unsigned w16 x) ++ short_stores MOUSE_SCROLL_Y (cast_unsigned w16 y)

-- what is stored after its vector: a key and a wheel's way are 0 again
unfoldable pub stores_after : Input → Stores
stores_after (Key byte) = (CONTROLLER_KEY, 0) ∷ []
stores_after (Scroll x y) = short_stores MOUSE_SCROLL_X 0 ++ short_stores MOUSE_SCROLL_Y 0
stores_after _ = []

-- the port of its vector
unfoldable pub vector_of : Input → ℕ
vector_of (Mouse x y) = MOUSE_VECTOR
vector_of (Press mask) = MOUSE_VECTOR
vector_of (Release mask) = MOUSE_VECTOR
vector_of (Scroll x y) = MOUSE_VECTOR
vector_of _ = CONTROLLER_VECTOR

-- a page of ports with bytes stored, one after the other
abbrev pub with_stores : List ℕ → Stores → List ℕ
with_stores page [] = page
with_stores page (store ∷ more) = with_stores (slice_set page store.0 store.1) more
