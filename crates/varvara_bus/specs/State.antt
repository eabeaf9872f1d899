-- What the devices of a machine represent.
use Rattle.std.specs.Prelude.{◌≡◌, ℕ, Bool, false, List, [], ◌+◌, Option, Some, None, slice_index}
use Rattle.std.specs.FinMap as nodes_map
use Rattle.uxn_io_traits.specs.Files.{Nodes}
use Rattle.file_ports.specs.Device.{FileState, idle_at, Suits}
use Rattle.file_ports.specs.RootPart.{below, parent_is_folder}
use Rattle.screen_layers.specs.Pictures.{Picture, new_picture, refreshed}
use Rattle.screen_layers.specs.Layers.{RepresentsPicture as ScreenRepresents}
use Rattle.audio_mixer.specs.Sounds.{Sound, Silence, later}
use Rattle.audio_mixer.specs.Voices.{RepresentsSounds as MixerStandsFor}
use Rattle.varvara_bus.specs.declared.time.Clock.{Clock}
use Rattle.varvara_bus.specs.declared.devices.Devices.{Devices}
use Rattle.varvara_bus.specs.History.{Store, History, stored, stored_after}

-- the bytes stored so far, what was drawn, what each voice sounds, the two file devices, the part of the tree that they see, the
-- frames begun, and, the same in a whole run, the clock, the root and whether the root's parent is a folder
pub record DeviceState : Type 0 where
  pub history : History
  pub picture : Picture
  pub sounds : ℕ → Sound
  pub first_file : FileState
  pub second_file : FileState
  pub part : Nodes
  pub frames : ℕ
  pub clock : Clock
  pub root : Option (List ℕ)
  pub parent : Bool

-- nothing is stored, drawn or heard, no file is named, and no frame has begun
abbrev pub new_state : Clock → Option (List ℕ) → Nodes → Bool → DeviceState
new_state clock root part parent = record {
  history = [];
  picture = new_picture;
  sounds = λ voice. Silence;
  first_file = idle_at None;
  second_file = idle_at None;
  part = part;
  frames = 0;
  clock = clock;
  root = root;
  parent = parent;
}

-- bytes stored, one after the other
abbrev pub storing : List Store → DeviceState → DeviceState
storing stores state = record state { history = stored_after state.history stores }

-- one more frame has begun
abbrev pub next_frame : DeviceState → DeviceState
next_frame state = record state { frames = state.frames + 1 }

-- a frame of samples was rendered: 735 of each voice
abbrev pub rendered : DeviceState → DeviceState
rendered state = record state { sounds = λ voice. later 735 (state.sounds voice) }

-- the screen was refreshed
abbrev pub screen_refreshed : DeviceState → DeviceState
screen_refreshed state = record state { picture = refreshed state.picture }

-- the clock that devices hold
abbrev pub device_clock : Devices → Clock
device_clock devices = record { seconds = devices.time.seconds; offset = devices.time.offset }

-- the file devices are those of the state, and suit its root
pub record HoldFiles (held_first held_second one other : FileState) (root : Option (List ℕ)) : Type 0 where
  pub first : held_first ≡ one
  pub second : held_second ≡ other
  pub first_suits : Suits root one
  pub second_suits : Suits root other

-- devices hold in each port what was last stored there, the pixels of what was drawn, the marks of the rows drawn on since the last
-- refresh, what the voices sound, and the file devices
pub record DevicesRepresent (devices : Devices) (state : DeviceState) : Type 0 where
  pub page : (port : ℕ) → slice_index devices.page port ≡ stored state.history port
  pub screen : ScreenRepresents devices.screen state.picture
  pub voices : MixerStandsFor devices.mixer state.sounds
  pub files : HoldFiles devices.first_file devices.second_file state.first_file state.second_file state.root
  pub frames : devices.time.frames ≡ state.frames
  pub clock : device_clock devices ≡ state.clock
  pub root : devices.root ≡ state.root

-- the root part is that of the tree, where the contents are known; without a root it is empty
abbrev pub HasFiles : Option Nodes → Option (List ℕ) → Nodes → Bool → Type 0
HasFiles (Some nodes) root part parent = (part ≡ below root nodes) × (parent ≡ parent_is_folder root nodes)
HasFiles None root part parent = (root ≡ None) × (part ≡ nodes_map.empty) × (parent ≡ false)
