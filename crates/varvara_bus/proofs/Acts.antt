-- What the actions of ports do to a bus.
use Rattle.std.proofs.Common.{◌≡◌, Bool, true, false, ℕ, List, [], ◌∷◌, slice_set, refl, ap, sym, ◌∙◌, rules}
use Rattle.std.specs.Prelude.{if◌then◌else◌, Option, Some, None, Result, Ok, Err, OnOk, OnErr, IfErr, is_err}
use Rattle.std.specs.Borrow.{MutBor}
use Rattle.std.proofs.lemmas.List.{append-nil}
use Rattle.uxn_io_traits.specs.declared.sinks.Failed.{Failed}
use Rattle.uxn_io_traits.specs.Files.{Nodes}
use Rattle.uxn_io_traits.specs.FaultLaws.{counted-same}
use Rattle.uxn_io_traits.specs.Faults.{FaultTally, Counted, Ledger, Nobody, TheTree, counts}
use Rattle.uxn_io_traits.specs.Outside.{Change, files_by}
use Rattle.uxn_io_traits.specs.State.{TreeState, SinkState, Outside, outside}
use Rattle.uxn_io_traits.specs.Ended.{TreeEnded, Ended, CutShort, RefusesNone, AreOfTree, blame_of_sink}
use Rattle.uxn_io_traits.specs.EndedLaws.{done-nothing, ended-then, outside-of-tree, refuses-nothing}
use Rattle.uxn_io_traits.specs.declared.trees.Tree as trees
use Rattle.file_ports.specs.declared.stop.FileStop.{FileStop}
use Rattle.file_ports.specs.RootPart.{LieIn}
use Rattle.file_ports.specs.Actions.{FileOutcome}
use Rattle.file_ports.specs.ActLaws.{act-lies, of-tree}
use Rattle.uxn_opcodes.specs.declared.Core.{Core}
use Rattle.uxn_opcodes.specs.declared.Stop.{Stop}
use Rattle.uxn_opcodes.specs.declared.Stop.TheVariants.{TreeFault, SinkFault, NoMemory}
use Rattle.uxn_opcodes.specs.Ports.{result_blame}
use Rattle.varvara_bus.specs.declared.bus.Bus.{Bus}
use Rattle.varvara_bus.specs.declared.devices.Devices.{Devices}
use Rattle.varvara_bus.specs.declared.ports.Action.{Action}
use Rattle.varvara_bus.specs.declared.ports.Action.TheVariants.{ActsOnFile}
use Rattle.varvara_bus.specs.declared.ports.FileAct.{FileAct}
use Rattle.varvara_bus.specs.declared.ports.FileNumber.{FileNumber}
use Rattle.varvara_bus.specs.State.{DeviceState, DevicesRepresent, HasFiles, device_clock, storing}
use Rattle.varvara_bus.specs.Effect.{asks_tree, no_effect, act}
use Rattle.varvara_bus.specs.FileActs.{file_base, file_in, file_action, file_outcome, file_acted}
use Rattle.varvara_bus.specs.FileCalls.{stop_of, stopped_by_tree, FileAnswers, FileEnded}
use Rattle.varvara_bus.specs.Bus.{BusModel, SameBus, Becomes, RepresentsTo, ComesTo, KeepsBus, Leaves, file_held, held_page, outside_on}
use Rattle.varvara_bus.specs.Bus.{Makes, HasActed, HasStopped, ActEnds, contents_on}
use Rattle.varvara_bus.specs.InstructionLaws.{same-again}
use Rattle.varvara_bus.specs.Laws.{suits-file}
use Rattle.varvara_bus.proofs.FileCalls.{files-now}

-- who counted a fault, where a sink was to take bytes
pub sink-ledger : (changes : List Change) (answer : Result (Unit {0}) Stop) (put : Result (Unit {0}) Failed) (before now : Outside)
    → is_err answer ≡ is_err put → OnErr answer (answer ≡ Err SinkFault) → Ended changes (blame_of_sink (is_err put)) before now
    → Ledger before.faults now.faults (result_blame answer)
sink-ledger = search rules

-- and where a file device was to act
tree-ledger : (failed : Bool) (a b out err : FaultTally) → Counted a b failed
    → Ledger (counts a out err) (counts b out err) (if failed then TheTree else Nobody)
tree-ledger = search (rules, counted-same)

no-sink : (cause : FileStop) → SinkFault ≡ stop_of cause → ⊥
no-sink = search rules

pub file-ledger : (number : FileNumber) (part : FileAct) (held held_now : Devices) (bytes memory : List ℕ) (contents : Option Nodes)
    (answer : Result (Unit {0}) Stop) (a b out err : FaultTally) → Counted a b (stopped_by_tree answer)
    → FileAnswers number part held bytes contents answer held_now memory → Ledger (counts a out err) (counts b out err) (result_blame answer)
file-ledger = search (rules, tree-ledger, no-sink)

-- a byte stored leaves the file devices
pub same-file : (number : FileNumber) (devices : Devices) (port byte : ℕ) → file_held number (record devices { page = slice_set devices.page port byte }) ≡ file_held number devices
same-file = search rules

-- a tree that is as it was refused no file
pub tree-refuses : {T : Type 0} (of_tree : trees.Ghosts T) (before now : T) → now ≡ before → RefusesNone (of_tree.state before) (of_tree.state now)
tree-refuses of_tree before now is = rw is (refuses-nothing (of_tree.state before))

module _ {T O E : Type 0} (meaning : BusModel T O E) where
  -- nothing but what the devices represent changed
  devices-same : (before : Bus T O E) (devices : MutBor Devices) → devices.ghost_name ≡ before.devices.ghost_name
      → devices.now.time.frames ≡ before.devices.now.time.frames → device_clock devices.now ≡ device_clock before.devices.now
      → devices.now.root ≡ before.devices.now.root
      → SameBus meaning.tree before (record { devices = devices; tree = before.tree; out = before.out; err = before.err })
  devices-same before devices borrowed frames clock root = search (rules, refuses-nothing)

  -- a byte was stored in the port, and nothing else was done
  pub record Stored (before now : Bus T O E) (port byte : ℕ) : Type 0 where
    pub devices : Becomes (contents_on meaning.tree) (λ state. storing ((port, byte) ∷ []) state) before now
    pub page : held_page now ≡ slice_set (held_page before) port byte
    pub files : (number : FileNumber) → file_held number now.devices.now ≡ file_held number before.devices.now
    pub tree : now.tree.now ≡ before.tree.now
    pub out : now.out.now ≡ before.out.now
    pub err : now.err.now ≡ before.err.now
    pub same : SameBus meaning.tree before now

  pub byte_stored : (before : Bus T O E) (devices : MutBor Devices) (port byte : ℕ) → devices.ghost_name ≡ before.devices.ghost_name
      → devices.now ≡ record before.devices.now { page = slice_set before.devices.now.page port byte }
      → ((state : DeviceState) → DevicesRepresent before.devices.now state → DevicesRepresent devices.now (storing ((port, byte) ∷ []) state))
      → devices.now.time.frames ≡ before.devices.now.time.frames → device_clock devices.now ≡ device_clock before.devices.now
      → devices.now.root ≡ before.devices.now.root
      → Stored before (record { devices = devices; tree = before.tree; out = before.out; err = before.err }) port byte
  byte_stored = search (rules, same-file, devices-same)

  -- that made no change outside
  stored-makes : (before now : Bus T O E) (port byte : ℕ) → Stored before now port byte → Makes meaning before now []
  stored-makes before now port byte stored = rw (stored.tree, stored.out, stored.err) (done-nothing (outside_on meaning before))

  -- the same four are borrowed where one of the sinks took something
  sinks-same : (before : Bus T O E) (out : MutBor O) (err : MutBor E) → out.ghost_name ≡ before.out.ghost_name → err.ghost_name ≡ before.err.ghost_name
      → SameBus meaning.tree before (record { devices = before.devices; tree = before.tree; out = out; err = err })
  sinks-same before out err borrowed_out borrowed_err = search (rules, refuses-nothing)

  -- bytes were put on a sink, and nothing else was done
  pub sink-ends : (before : Bus T O E) (out : MutBor O) (err : MutBor E) (core : Core) (action : Action) (byte : ℕ) (changes : List Change)
      (answer : Result (Unit {0}) Stop) (put : Result (Unit {0}) Failed) → asks_tree action ≡ false
      → ((state : DeviceState) → act action byte state core ≡ record (no_effect state core) { changes = changes })
      → ((state : DeviceState) → DevicesRepresent before.devices.now state
      → Leaves meaning action state (meaning.tree.state before.tree.now).contents core (record { devices = before.devices; tree = before.tree; out = out; err = err }) core)
      → is_err answer ≡ is_err put → OnErr answer (answer ≡ Err SinkFault)
      → Ended changes (blame_of_sink (is_err put)) (outside_on meaning before)
      (outside_on meaning (record { devices = before.devices; tree = before.tree; out = out; err = err }))
      → out.ghost_name ≡ before.out.ghost_name → err.ghost_name ≡ before.err.ghost_name
      → ActEnds meaning before core action byte (record { devices = before.devices; tree = before.tree; out = out; err = err }) core answer
  sink-ends = search (rules, sinks-same)

  pub devices_done : (before : Bus T O E) (devices : MutBor Devices) (core : Core) (action : Action) (byte : ℕ) (done : DeviceState → DeviceState)
      → ((state : DeviceState) → act action byte state core ≡ no_effect (done state) core)
      → ((state : DeviceState) → DevicesRepresent before.devices.now state → DevicesRepresent devices.now (done state))
      → asks_tree action ≡ false → devices.ghost_name ≡ before.devices.ghost_name
      → devices.now.time.frames ≡ before.devices.now.time.frames → device_clock devices.now ≡ device_clock before.devices.now
      → devices.now.root ≡ before.devices.now.root
      → HasActed meaning [] before core action byte (record { devices = devices; tree = before.tree; out = before.out; err = before.err }) core
  devices_done = search (rules, done-nothing, devices-same)

  -- the core alone changed, whatever the devices represent
  pub core_done : (before : Bus T O E) (core new : Core) (action : Action) (byte : ℕ) → asks_tree action ≡ false
      → ((state : DeviceState) → DevicesRepresent before.devices.now state → act action byte state core ≡ no_effect state new)
      → HasActed meaning [] before core action byte before new
  core_done = search (rules, done-nothing, devices-same)

  -- a file device acted, or stopped
  state-files : (number : FileNumber) (outcome : FileOutcome) (state : DeviceState) (contents : Option Nodes)
      → HasFiles contents state.root (files_by state.part outcome.changes) state.parent
      → HasFiles contents (file_acted number outcome state).root (file_acted number outcome state).part (file_acted number outcome state).parent
  state-files = search rules

  file-lies : (number : FileNumber) (part : FileAct) (devices : Devices) (state : DeviceState) (memory : List ℕ) → DevicesRepresent devices state
      → LieIn state.root (file_outcome number part state memory).changes
  file-lies number part devices state memory stands =
      act-lies (file_action part state.history (file_base number)) state.root state.part state.parent (file_in number state) memory
      (suits-file number devices state stands)

  -- what a tree made short is stopped early beside two sinks; one that did not fail made all
  stops-by : (changes : List Change) (stop : Stop) (cause : FileStop) (a b : TreeState) (out err : SinkState) → stop ≡ stop_of cause
      → AreOfTree changes → TreeEnded changes (stopped_by_tree (Err stop)) a b
      → CutShort changes (result_blame {T = Unit {0}} (Err stop)) (outside a out err) (outside b out err)
  stops-by changes TreeFault cause a b out err is of ended = outside-of-tree changes true a b out err of ended
  stops-by changes NoMemory cause a b out err is of ended =
      let done = outside-of-tree changes false a b out err of ended in
      record {
        cut = record { made = changes; rest = []; parts = sym (append-nil changes); left = done.world };
        ledger = done.ledger;
        not_guaranteed = tt;
      }
  stops-by changes SinkFault cause a b out err is of ended = absurd (no-sink cause is)

  pub file-ends : (before : Bus T O E) (devices : MutBor Devices) (tree : MutBor T) (core : Core) (memory : List ℕ) (number : FileNumber) (part : FileAct)
      (byte : ℕ) (answer : Result (Unit {0}) Stop)
      → FileEnded number part before.devices.now core.memory (stopped_by_tree answer) (meaning.tree.state before.tree.now) (meaning.tree.state tree.now)
      → FileAnswers number part before.devices.now core.memory (meaning.tree.state before.tree.now).contents answer devices.now memory
      → SameBus meaning.tree before (record { devices = devices; tree = tree; out = before.out; err = before.err })
      → ActEnds meaning before core (ActsOnFile number part) byte (record { devices = devices; tree = tree; out = before.out; err = before.err })
      (record core { memory = memory }) answer
  file-ends before devices tree core memory number part byte (Ok done) ended acted same = record {
    does = λ state stands.
        let outcome = file_outcome number part state core.memory in
        let done = acted state stands.devices stands.files in
        let made = ended state stands.devices stands.files in
        let lie = file-lies number part before.devices.now state core.memory stands.devices in
        let out = meaning.out.state before.out.now in
        let err = meaning.err.state before.err.now in
        let all = outside-of-tree outcome.changes false (meaning.tree.state before.tree.now) (meaning.tree.state tree.now) out err
        (of-tree state.root outcome.changes lie) made in
        record {
          core = ap (λ bytes. record core { memory = bytes }) done.memory;
          devices = record {
            devices = done.devices;
            files = state-files number outcome state (meaning.tree.state tree.now).contents
                (files-now outcome.changes state.root state.part state.parent (meaning.tree.state before.tree.now).contents (meaning.tree.state tree.now).contents
                stands.files lie made.stands);
          };
          makes = all;
        };
    same = same;
  }
  file-ends before devices tree core memory number part byte (Err stop) ended stopped same = record {
    cut = λ state stands.
        stops-by (file_outcome number part state core.memory).changes stop stopped.cause (meaning.tree.state before.tree.now) (meaning.tree.state tree.now)
        (meaning.out.state before.out.now) (meaning.err.state before.err.now) stopped.is
        (of-tree state.root (file_outcome number part state core.memory).changes (file-lies number part before.devices.now state core.memory stands.devices))
        (ended state stands.devices stands.files);
    leaves = stopped.left;
    keeps = refl;
    page = stopped.page;
    memory = λ wanting. stopped.rooted;
    names = λ wanting. let wants = stopped.wants wanting in record {
      number = number;
      reads = ap (λ p. ActsOnFile number p) wants.0;
      folder = wants.1;
    };
    same = same;
  }

  -- a byte stored takes a state to act from to the state with one more store
  stands-stored : (asks : Bool) (before middle : Bus T O E) (port byte : ℕ) → Stored before middle port byte → (state : DeviceState)
      → RepresentsTo meaning asks before state → RepresentsTo meaning asks middle (storing ((port, byte) ∷ []) state)
  stands-stored = search rules

  comes-stored : (asks : Bool) (before middle now : Bus T O E) (port byte : ℕ) → Stored before middle port byte → (state : DeviceState)
      → ComesTo meaning asks middle now state → ComesTo meaning asks before now state
  comes-stored = search rules

  keeps-stored : (asks : Bool) (before middle now : Bus T O E) (port byte : ℕ) (old new : Core) → Stored before middle port byte
      → KeepsBus meaning asks middle old now new → KeepsBus meaning asks before old now new
  keeps-stored = search rules

  -- a write is a byte stored, and then an action
  pub wrote_by_act : (before middle now : Bus T O E) (old new : Core) (port byte : ℕ) (action : Action) (answer : Result (Unit {0}) Stop)
      → Stored before middle port byte → ActEnds meaning middle old action byte now new answer
      → OnOk answer (HasActed meaning ((port, byte) ∷ []) before old action byte now new)
  wrote_by_act before middle now old new port byte action (Err stop) stored acted = tt
  wrote_by_act before middle now old new port byte action (Ok done) stored acted = record {
    does = λ state stands.
        let asks = asks_tree action in
        let after = storing ((port, byte) ∷ []) state in
        let does = acted.does after (stands-stored asks before middle port byte stored state stands) in
        record {
          core = does.core;
          devices = comes-stored asks before middle now port byte stored (act action byte after old).devices does.devices;
          makes = ended-then [] (act action byte after old).changes None _ _ _ (stored-makes before middle port byte stored) does.makes;
        };
    same = same-again meaning.tree before middle now stored.same acted.same;
  }

  pub stopped_by_act : (before middle now : Bus T O E) (old new : Core) (port byte : ℕ) (action : Action) (answer : Result (Unit {0}) Stop)
      → Stored before middle port byte → ActEnds meaning middle old action byte now new answer
      → IfErr answer (λ stop. HasStopped meaning ((port, byte) ∷ []) before old action byte stop now new)
  stopped_by_act before middle now old new port byte action (Ok done) stored acted = tt
  stopped_by_act before middle now old new port byte action (Err stop) stored acted = record {
    cut = λ state stands.
        let after = storing ((port, byte) ∷ []) state in
        ended-then [] (act action byte after old).changes (Some _) _ _ _ (stored-makes before middle port byte stored)
        (acted.cut after (stands-stored (asks_tree action) before middle port byte stored state stands));
    leaves = λ state stands. rw (sym stored.tree) (acted.leaves (storing ((port, byte) ∷ []) state) (stored.devices.devices state stands));
    keeps = keeps-stored (asks_tree action) before middle now port byte old new stored acted.keeps;
    page = acted.page ∙ stored.page;
    memory = λ wanted. rw stored.same.root at (acted.memory wanted);
    names = λ wanted.
        let wants = acted.names wanted in
        record { number = wants.number; reads = wants.reads; folder = rw (stored.files wants.number) at (rw stored.tree at wants.folder) };
    same = same-again meaning.tree before middle now stored.same acted.same;
  }
