-- What a call of a file device answers, and what it leaves.
use Rattle.std.specs.Prelude.{◌≡◌, ℕ, ◌++◌, ◌≤◌, Bool, true, false, List, [], ◌∷◌, Option, Some}
use Rattle.std.specs.Prelude.{None, IfSome, IsSome, Result, Ok, Err}
use Rattle.std.specs.Prelude.{length, take, is_none, if◌then◌else◌}
use Rattle.std.specs.Option.{option_map}
use Rattle.uxn_io_traits.specs.declared.trees.Kind.TheVariants.{Folder}
use Rattle.uxn_io_traits.specs.Files.{Nodes, kind_at}
use Rattle.uxn_io_traits.specs.Outside.{Change, Creates}
use Rattle.uxn_memory.specs.Bytes.{with_bytes}
use Rattle.file_ports.specs.declared.stop.FileStop.{FileStop}
use Rattle.file_ports.specs.declared.stop.FileStop.TheVariants.{TreeFault, NoMemory}
use Rattle.file_ports.specs.RootPart.{below, parent_is_folder}
use Rattle.file_ports.specs.Device.{FileState, idle_at, is_reading}
use Rattle.file_ports.specs.Actions.{FileAction, Read, Write, Stat, FileOutcome, acts, act, begun, observed_file, piece_read, count_from}

-- the answer, the device and memory are those of an outcome
pub record AnswersAction (outcome : FileOutcome) (result : Result ℕ FileStop) (device_now : FileState) (memory_now : List ℕ) : Type 0 where
  pub success : result ≡ Ok outcome.success
  pub device : device_now ≡ outcome.device
  pub memory : memory_now ≡ outcome.memory

-- the outcome of an action over files, beneath a root
abbrev pub file_outcome_of : FileAction → Option (List ℕ) → Nodes → FileState → List ℕ → FileOutcome
file_outcome_of action root nodes device memory = act action root (below root nodes) (parent_is_folder root nodes) device memory

-- and by what the device sees of a whole tree, where that is known, or the device has no path; beneath each root that the device suits
-- the outcome is the same
abbrev pub outcome_by : FileAction → Option Nodes → FileState → List ℕ → Option FileOutcome
outcome_by action (Some nodes) device memory = Some (acts action None device memory (option_map (observed_file nodes) device.path))
outcome_by action None device memory = if is_none device.path then Some (acts action None device memory None) else None

-- its changes; of a tree of unknown contents it is known only that a write at a path makes some
abbrev pub changes_unknown : FileAction → Option (List ℕ) → List Change
changes_unknown (Write at length keep) (Some path) = Creates path ∷ []
changes_unknown _ _ = []

abbrev pub changes_by : FileAction → Option Nodes → FileState → List ℕ → List Change
changes_by action (Some nodes) device memory = (acts action None device memory (option_map (observed_file nodes) device.path)).changes
changes_by action None device memory = changes_unknown action device.path

-- the tree failed; running out of memory is no fault of it
abbrev pub has_failed : {T : Type 0} → Result T FileStop → Bool
has_failed (Ok value) = false
has_failed (Err TreeFault) = true
has_failed (Err NoMemory) = false

-- the names of a folder are taken where a device that is not reading finds one at its path
pub record DeviceTakesNames (device : FileState) (contents : Option Nodes) : Type 0 where
  pub looks : is_reading device.mode ≡ false
  pub folder : IfSome contents (λ nodes. IfSome device.path (λ path. kind_at nodes path ≡ Folder))

-- memory may run out for these, and so to a read alone
abbrev pub MayWant : FileAction → FileState → Option Nodes → Type 0
MayWant (Read at length) device contents = DeviceTakesNames device contents
MayWant _ device contents = ⊥

-- a piece was put in memory, and its length is told
pub record GivesPiece (piece before : List ℕ) (at taken : ℕ) (now : List ℕ) : Type 0 where
  pub count : taken ≡ length piece
  pub memory : now ≡ with_bytes before at piece

-- a prefix of a piece was put in memory, and the rest was not; where no piece is known, some bytes, at most so many
pub record PutsPrefix (contents : Option (List ℕ)) (most : ℕ) (before : List ℕ) (at : ℕ) (now : List ℕ) : Type 0 where
  pub put : List ℕ
  pub within : length put ≤ most
  pub memory : now ≡ with_bytes before at put
  pub prefix : IfSome contents (λ piece. put ≡ take (length put) piece)

-- so it is of the bytes that a read gives
abbrev pub HasReadPrefix : ℕ → ℕ → FileState → List ℕ → Option Nodes → List ℕ → Type 0
HasReadPrefix at length device before contents now =
    PutsPrefix (option_map (λ nodes. piece_read (count_from at length) device (option_map (observed_file nodes) device.path)) contents)
    (count_from at length) before at now

-- an action that stops leaves a device that does nothing, but for a stat, which leaves it as it is
abbrev pub device_left : FileAction → FileState → FileState
device_left (Stat at length) device = device
device_left _ device = idle_at device.path

-- and memory as it was, but for a prefix of what a read gives
abbrev pub MemoryLeft : FileAction → FileState → List ℕ → Option Nodes → List ℕ → Type 0
MemoryLeft (Read at length) device memory contents memory_now = HasReadPrefix at length device memory contents memory_now
MemoryLeft _ device memory contents memory_now = memory_now ≡ memory

-- only a device with a path asks anything of a tree, so that its call may stop
pub record FileStopped (action : FileAction) (was : FileState) (before : List ℕ) (contents : Option Nodes) (stop : FileStop)
    (device_now : FileState) (memory_now : List ℕ) : Type 0 where
  pub named : IsSome was.path
  pub wants : stop ≡ NoMemory → MayWant action was contents
  pub device : device_now ≡ device_left action was
  pub memory : MemoryLeft action was before contents memory_now

-- a call that answered did what the action does, as far as it is known what the device sees
pub record FileActed (action : FileAction) (was : FileState) (before : List ℕ) (contents : Option Nodes) (result : Result ℕ FileStop)
    (device_now : FileState) (memory_now : List ℕ) : Type 0 where
  pub path : device_now.path ≡ was.path
  pub answers : IfSome (outcome_by action contents was before) (λ outcome. AnswersAction outcome result device_now memory_now)

-- it answered, or it stopped
abbrev pub ActedOrStopped : FileAction → FileState → List ℕ → Option Nodes → Result ℕ FileStop → FileState → List ℕ → Type 0
ActedOrStopped action device memory contents (Ok success) device_now memory_now =
    FileActed action device memory contents (Ok success) device_now memory_now
ActedOrStopped action device memory contents (Err stop) device_now memory_now = FileStopped action device memory contents stop device_now memory_now

-- the changes of what begins, and then more; of what does not begin none
abbrev pub then_changes : Option (List Change) → List Change → List Change
then_changes None more = []
then_changes (Some first) more = first ++ more

-- the changes of a write to what is at a path; of a tree of unknown contents it is known only that there are some
abbrev pub changes_written : Bool → Bool → Option Nodes → List ℕ → List Change → List Change
changes_written is_writing keep (Some nodes) path more = then_changes (begun is_writing keep (observed_file nodes path)) more
changes_written is_writing keep None path more = Creates path ∷ []
