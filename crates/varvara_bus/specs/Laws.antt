-- What one more store changes: the port that it goes to, and no other; and what new devices hold.
use Rattle.std.specs.Prelude.{◌≡◌, ℕ, ◌<◌, ◌==◌, List, [], ◌∷◌}
use Rattle.std.specs.Prelude.{length, replicate, slice_index, slice_set, refl, if◌then◌else◌}
use Rattle.std.proofs.Common.{ap, sym, ◌∙◌, arith, rules, inl, inr, lit<}
use Rattle.std.proofs.lemmas.Bool.{cases_lt}
use Rattle.std.proofs.lemmas.Bool.Decides.{nat_tests}
use Rattle.std.proofs.lemmas.Grind.{common_steps}
use Rattle.std.proofs.lemmas.List.{get_or_past, get_or-replicate, length-replicate, length-set}
use Rattle.input_ports.specs.declared.Input.{Input}
use Rattle.input_ports.specs.declared.Input.TheVariants.{Key, Down, Up, Mouse, Press, Release, Scroll, DownOf, UpOf}
use Rattle.input_ports.specs.Page.{buttons_port, bits_set, bits_cleared, with_bits, without_bits, stores_of, stores_after, with_stores}
use Rattle.uxn_io_traits.specs.Files.{Nodes}
use Rattle.varvara_bus.specs.Bus.{file_held}
use Rattle.file_ports.specs.Device.{Suits}
use Rattle.varvara_bus.specs.declared.devices.Devices.{Devices}
use Rattle.varvara_bus.specs.History.{Store, at_first, stored}
use Rattle.varvara_bus.specs.State.{DeviceState, storing, DevicesRepresent}
use Rattle.varvara_bus.specs.declared.ports.FileNumber.{FileNumber}
use Rattle.varvara_bus.specs.declared.ports.FileNumber.TheVariants.{First as FirstFile, Second as SecondFile}
use Rattle.varvara_bus.specs.FileActs.{file_in}

-- a byte set at a place is found there, and all else as before
pub found : (page : List ℕ) (place byte port : ℕ) → place < length page
    → slice_index (slice_set page place byte) port ≡ (if port == place then byte else slice_index page port)
found page place byte port within = grind (arith, nat_tests, common_steps)

-- devices with one more byte stored represent the state with one more store
pub stand-stored : (devices : Devices) (state : DeviceState) (port byte : ℕ) → port < length devices.page → DevicesRepresent devices state
    → DevicesRepresent (record devices { page = slice_set devices.page port byte }) (storing ((port, byte) ∷ []) state)
stand-stored devices state port byte within stands =
    let page = λ (p : ℕ). found devices.page port byte p within ∙ ap (λ held. if p == port then byte else held) (stands.page p) in
    search (rules, stands, page)

-- it does not matter how the file devices are known to suit the root
pub stand-suited : (devices : Devices) (state : DeviceState)
    (one : Suits devices.root devices.first_file) (other : Suits devices.root devices.second_file)
    → DevicesRepresent devices state → DevicesRepresent (record devices { first_suits = one; second_suits = other }) state
stand-suited devices state one other stands = search (rules, stands)

-- nor what lies in the root part
pub stand-part : (devices : Devices) (state : DeviceState) (part : Nodes) → DevicesRepresent devices state
    → DevicesRepresent devices (record state { part = part })
stand-part devices state part stands = search (rules, stands)

-- the file devices that are held are those of the state, and suit its root
pub held-file : (number : FileNumber) (devices : Devices) (state : DeviceState) → DevicesRepresent devices state
    → file_held number devices ≡ file_in number state
held-file FirstFile devices state stands = stands.files.first
held-file SecondFile devices state stands = stands.files.second

pub suits-file : (number : FileNumber) (devices : Devices) (state : DeviceState) → DevicesRepresent devices state
    → Suits state.root (file_in number state)
suits-file FirstFile devices state stands = stands.files.first_suits
suits-file SecondFile devices state stands = stands.files.second_suits

-- every store goes to a port
abbrev pub AreAtPorts : List Store → Type 0
AreAtPorts [] = Unit {0}
AreAtPorts (store ∷ stores) = (store.0 < 256) × AreAtPorts stores

-- the same for bytes stored one after the other
pub stand-storing : (devices : Devices) (state : DeviceState) (stores : List Store) → length devices.page ≡ 256 → AreAtPorts stores
    → DevicesRepresent devices state
    → DevicesRepresent (record devices { page = with_stores devices.page stores }) (storing stores state)
stand-storing devices state [] size ports stands = stands
stand-storing devices state (store ∷ stores) size ports stands =
    stand-storing (record devices { page = slice_set devices.page store.0 store.1 }) (storing (store ∷ []) state) stores
    (length-set devices.page store.0 store.1 ∙ size) ports.1
    (stand-stored devices state store.0 store.1 (omega (arith, size, ports.0)) stands)

-- stores keep the size of a page
pub length-with_stores : (page : List ℕ) (stores : List Store) → length (with_stores page stores) ≡ length page
length-with_stores page [] = refl
length-with_stores page (store ∷ stores) = length-with_stores (slice_set page store.0 store.1) stores ∙ length-set page store.0 store.1

pub page_size : (page now : List ℕ) (stores : List Store) → now ≡ with_stores page stores → length now ≡ 256 → length page ≡ 256
page_size page now stores is size = sym (length-with_stores page stores) ∙ ap length (sym is) ∙ size

-- an input is stored at ports, by what they hold
same_set : (a b : ℕ → ℕ) (port mask : ℕ) → ((port : ℕ) → a port ≡ b port) → bits_set a port mask ≡ bits_set b port mask
same_set a b port mask same = ap (λ held. (port, with_bits held mask) ∷ []) (same port)

same_cleared : (a b : ℕ → ℕ) (port mask : ℕ) → ((port : ℕ) → a port ≡ b port)
    → bits_cleared a port mask ≡ bits_cleared b port mask
same_cleared a b port mask same = ap (λ held. (port, without_bits held mask) ∷ []) (same port)

pub same_stores : (a b : ℕ → ℕ) (input : Input) → ((port : ℕ) → a port ≡ b port) → stores_of a input ≡ stores_of b input
unfolding stores_of
same_stores a b (Key byte) same = refl
same_stores a b (Down mask) same = same_set a b 0x82 mask same
same_stores a b (Up mask) same = same_cleared a b 0x82 mask same
same_stores a b (Mouse x y) same = refl
same_stores a b (Press mask) same = same_set a b 0x96 mask same
same_stores a b (Release mask) same = same_cleared a b 0x96 mask same
same_stores a b (Scroll x y) same = refl
same_stores a b (DownOf player mask) same = same_set a b (buttons_port player) mask same
same_stores a b (UpOf player mask) same = same_cleared a b (buttons_port player) mask same

-- a player's buttons stand at a port
buttons_at_port : (player : ℕ) → buttons_port player < 256
buttons_at_port player = grind (arith, nat_tests, common_steps)

input-ports : (held : ℕ → ℕ) (input : Input) → AreAtPorts (stores_of held input)
unfolding stores_of
input-ports held (Key byte) = (lit< tt, tt)
input-ports held (Down mask) = (lit< tt, tt)
input-ports held (Up mask) = (lit< tt, tt)
input-ports held (Mouse x y) = (lit< tt, (lit< tt, (lit< tt, (lit< tt, tt))))
input-ports held (Press mask) = (lit< tt, tt)
input-ports held (Release mask) = (lit< tt, tt)
input-ports held (Scroll x y) = (lit< tt, (lit< tt, (lit< tt, (lit< tt, tt))))
input-ports held (DownOf player mask) = (buttons_at_port player, tt)
input-ports held (UpOf player mask) = (buttons_at_port player, tt)

settling-ports : (input : Input) → AreAtPorts (stores_after input)
unfolding stores_after
settling-ports (Key byte) = (lit< tt, tt)
settling-ports (Down mask) = tt
settling-ports (Up mask) = tt
settling-ports (Mouse x y) = tt
settling-ports (Press mask) = tt
settling-ports (Release mask) = tt
settling-ports (Scroll x y) = (lit< tt, (lit< tt, (lit< tt, (lit< tt, tt))))
settling-ports (DownOf player mask) = tt
settling-ports (UpOf player mask) = tt

-- devices that an input was stored at, and that it was settled at
pub stand-applied : (devices : Devices) (state : DeviceState) (input : Input) → length devices.page ≡ 256 → DevicesRepresent devices state
    → DevicesRepresent (record devices { page = with_stores devices.page (stores_of (slice_index devices.page) input) }) (storing (stores_of
    (stored state.history) input) state)
stand-applied devices state input size stands =
    rw (← same_stores (slice_index devices.page) (stored state.history) input stands.page)
    (stand-storing devices state (stores_of (slice_index devices.page) input) size (input-ports (slice_index devices.page) input) stands)

pub stand-settled : (devices : Devices) (state : DeviceState) (input : Input) → length devices.page ≡ 256 → DevicesRepresent devices state
    → DevicesRepresent (record devices { page = with_stores devices.page (stores_after input) }) (storing (stores_after input) state)
stand-settled devices state input size stands = stand-storing devices state (stores_after input) size (settling-ports input) stands

-- a page of zeros of any size reads 0 everywhere
zero-page : (size port : ℕ) → slice_index (replicate size 0) port ≡ 0
zero-page size port = elim (cases_lt port size) [
  | inl inside ↦ get_or-replicate size port 0 0 inside
  | inr outside ↦ get_or_past (replicate size 0) port 0 (omega (arith, outside, length-replicate {A = ℕ} size 0))
]

-- a page of zeros with the size of the screen holds what ports hold at first
page-with_size : (zeros : List ℕ) → length zeros ≡ 256 → ((port : ℕ) → slice_index zeros port ≡ 0) → (port : ℕ)
    → slice_index (slice_set (slice_set (slice_set zeros 0x25 0x40) 0x24 0x01) 0x22 0x02) port ≡ at_first port
page-with_size zeros size zero port =
    found (slice_set (slice_set zeros 0x25 0x40) 0x24 0x01) 0x22 0x02 port (omega (arith, size, length-set {A = ℕ}))
    ∙ ap (λ held. if port == 0x22 then 0x02 else held)
    (found (slice_set zeros 0x25 0x40) 0x24 0x01 port (omega (arith, size, length-set {A = ℕ}))
    ∙ ap (λ held. if port == 0x24 then 0x01 else held)
    (found zeros 0x25 0x40 port (omega (arith, size)) ∙ ap (λ held. if port == 0x25 then 0x40 else held) (zero port)))

-- a new page holds what ports hold at first
pub first_page : (page : List ℕ) → page ≡ slice_set (slice_set (slice_set (replicate 256 0) 0x25 0x40) 0x24 0x01) 0x22 0x02
    → (port : ℕ) → slice_index page port ≡ at_first port
first_page page is port =
    ap (λ p. slice_index p port) is ∙ page-with_size (replicate 256 0) (length-replicate {A = ℕ} 256 0) (zero-page 256) port
