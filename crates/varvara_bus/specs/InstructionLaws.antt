-- The laws that tie an instruction over a bus to what it does to the devices and outside.
use Rattle.std.specs.Prelude.{◌≡◌, ◌≢◌, ℕ, ◌==◌, Bool, true, false, List, [], ◌∷◌, ◌++◌, Result, Ok}
use Rattle.std.specs.Prelude.{None, Some, Err, refl}
use Rattle.std.proofs.Common.{ap, sym, ◌∙◌, append_assoc, inl, inr, arith, rules}
use Rattle.std.proofs.lemmas.Bool.Decides.{nat_tests}
use Rattle.std.proofs.lemmas.List.{append-nil}
use Rattle.uxn_io_traits.specs.Outside.{Change}
use Rattle.uxn_io_traits.specs.EndedLaws.{done-nothing, ended-first, ended-then, refuses-nothing, refuses-then}
use Rattle.uxn_io_traits.specs.declared.trees.Tree as trees
use Rattle.uxn_opcodes.specs.declared.Core.{Core}
use Rattle.uxn_opcodes.specs.declared.Stop.{Stop}
use Rattle.uxn_opcodes.specs.declared.Stop.TheVariants.{NoMemory}
use Rattle.uxn_opcodes.specs.declared.Turn.{Turn}
use Rattle.uxn_opcodes.specs.declared.Turn.TheVariants.{Ran, Broke}
use Rattle.uxn_opcodes.specs.declared.rows.Access.{Access}
use Rattle.uxn_opcodes.specs.declared.rows.Access.TheVariants.{Nothing, Read, Write}
use Rattle.uxn_opcodes.specs.Rule.{opcode_at, begun}
use Rattle.uxn_opcodes.specs.Instruction.{Written, WriteStops, writes_of, writes_in, FinishesAccess, Instruction}
use Rattle.uxn_opcodes.specs.Model.{Machine, after_instruction, access_done, written_by}
use Rattle.uxn_opcodes.specs.ModelLaws.{Carries, RepresentsMachine, MachineStopsAt, carried-ran, carried-broke, carried-stopped}
use Rattle.varvara_bus.specs.declared.bus.Bus.{Bus}
use Rattle.varvara_bus.specs.State.{DeviceState, HasFiles}
use Rattle.varvara_bus.specs.Effect.{action_of, asks_tree, effect}
use Rattle.varvara_bus.specs.Bus.{SameBus, BusRepresents, HasRoot, BusModel, outside_on, Makes, StopsShort, HasEffect, contents_on}
use Rattle.varvara_bus.specs.Bus.{RepresentsTo, ComesTo, HasActed, bus_rules}
use Rattle.varvara_bus.specs.Footprints.{effect-keeps}
use Rattle.varvara_bus.specs.Model.{Devised, no_changes, varvara, instruction_effect, reached_by}

-- writes only add to the changes made so far
record Grows (before now : List Change) : Type 0 where
  more : List Change
  parts : now ≡ before ++ more

writes-grow : (writes : List (ℕ × ℕ)) (machine : Machine Devised) → Grows machine.ports.changes
    (written_by varvara writes machine).ports.changes
writes-grow [] machine = record { more = []; parts = sym (append-nil machine.ports.changes) }
writes-grow (write ∷ writes) machine =
    let later = writes-grow writes (varvara.write machine.ports machine.core write.0 write.1) in
    record {
      more = (effect machine.ports.devices machine.core write.0 write.1).changes ++ later.more;
      parts = later.parts ∙ append_assoc machine.ports.changes
          (effect machine.ports.devices machine.core write.0 write.1).changes later.more;
    }

written-append : (first more : List (ℕ × ℕ)) (machine : Machine Devised)
    → written_by varvara (first ++ more) machine ≡ written_by varvara more (written_by varvara first machine)
written-append [] more machine = refl
written-append (write ∷ first) more machine = written-append first more (varvara.write machine.ports machine.core write.0 write.1)

-- an access leaves the changes of its writes
access-writes : (access : Access) (core : Core) (so_far : Devised)
    → (access_done varvara access core so_far).ports.changes ≡ (written_by varvara (writes_in access)
    (record { core = core; ports = so_far })).ports.changes
access-writes Nothing core so_far = refl
access-writes (Read port mode) core so_far = refl
access-writes (Write port width value) core so_far = refl

-- the machine where the writes of an instruction begin
abbrev begins_with : DeviceState → Core → Machine Devised
begins_with devices core = record { core = (begun core).core; ports = no_changes devices }

-- the changes of these writes and of one more
abbrev changes_with : DeviceState → Core → List (ℕ × ℕ) → ℕ → ℕ → List Change
changes_with devices core writes port byte =
    (reached_by devices core writes).ports.changes
    ++ (effect (reached_by devices core writes).ports.devices (reached_by devices core writes).core port byte).changes

-- the changes of an instruction other than BRK are those of its writes
instruction-writes : (devices : DeviceState) (core : Core) → opcode_at core ≢ 0
    → (instruction_effect devices core).changes ≡ (reached_by devices core (writes_in (begun core).access)).ports.changes
unfolding instruction_effect after_instruction
instruction-writes devices core goes_on =
    let e : (opcode_at core == 0) ≡ false = grind (arith, nat_tests) in
    rw e (access-writes (begun core).access (begun core).core (no_changes devices))

-- those of the first of its writes come first among them
changes-then : (devices : DeviceState) (core : Core) (first after : List (ℕ × ℕ)) (port byte : ℕ) → opcode_at core ≢ 0
    → writes_in (begun core).access ≡ first ++ (port, byte) ∷ after
    → Grows (changes_with devices core first port byte) (instruction_effect devices core).changes
changes-then devices core first after port byte goes_on in_order =
    let later = writes-grow after (varvara.write (reached_by devices core first).ports (reached_by devices core first).core port byte) in
    record {
      more = later.more;
      parts =
          instruction-writes devices core goes_on
          ∙ ap (λ writes. (reached_by devices core writes).ports.changes) in_order
          ∙ ap (λ (m : Machine Devised). m.ports.changes) (written-append first ((port, byte) ∷ after) (begins_with devices core))
          ∙ later.parts;
    }

-- the same over nothing, and over two steps
pub same-itself : {T O E : Type 0} (of_tree : trees.Ghosts T) (bus : Bus T O E) → SameBus of_tree bus bus
same-itself of_tree bus = search (rules, refuses-nothing)

pub same-again : {T O E : Type 0} (of_tree : trees.Ghosts T) (a b c : Bus T O E)
    → SameBus of_tree a b → SameBus of_tree b c → SameBus of_tree a c
same-again of_tree a b c p q = record {
  borrowed = record {
    devices = q.borrowed.devices ∙ p.borrowed.devices;
    tree = q.borrowed.tree ∙ p.borrowed.tree;
    out = q.borrowed.out
        ∙ p.borrowed.out;
    err = q.borrowed.err ∙ p.borrowed.err;
  };
  files = record { stays = λ path outside there. (rw p.root at q.files).stays path outside (p.files.stays path outside there) };
  refusals = λ none. refuses-then _ _ _ (p.refusals none) (q.refusals (p.root ∙ none));
  frames = q.frames ∙ p.frames;
  clock = q.clock ∙ p.clock;
  root = q.root ∙ p.root;
}

module _ {T O E : Type 0} (meaning : BusModel T O E) where
  -- a bus stands to act from what it represents, and then it represents what is left
  stands-to : (asks : Bool) (bus : Bus T O E) (state : DeviceState) → BusRepresents (contents_on meaning.tree) bus state
      → RepresentsTo meaning asks bus state
  stands-to true bus state stands = stands
  stands-to false bus state stands = stands.devices

  comes-to : (asks : Bool) (before now : Bus T O E) (state : DeviceState) → ComesTo meaning asks before now state
      → (asks ≡ false → HasFiles (meaning.tree.state before.tree.now).contents state.root state.part state.parent)
      → BusRepresents (contents_on meaning.tree) now state
  comes-to true before now state come files = come
  comes-to false before now state come files = record { devices = come.0; files = rw come.1 (files refl) }

  -- so a write has its effect, from each state that the bus represented
  pub wrote-effect : (before now : Bus T O E) (core core_new : Core) (port byte : ℕ)
      → HasActed meaning ((port, byte) ∷ []) before core (action_of port) byte now core_new
      → (state : DeviceState) → BusRepresents (contents_on meaning.tree) before state
      → HasEffect meaning before now core_new (effect state core port byte)
  unfolding effect
  wrote-effect before now core core_new port byte wrote state stands =
      let asks = asks_tree (action_of port) in
      let done = wrote.does state (stands-to asks before state stands) in
      let keeps = effect-keeps state core port byte in
      record {
        core = done.core;
        devices = comes-to asks before now (effect state core port byte).devices done.devices
            (λ none. rw (keeps.root, keeps.part none, keeps.parent) stands.files);
        makes = done.makes;
      }

  -- since a bus stood so, its devices became these, and these changes were made
  pub record RepresentsSince (start now : Bus T O E) (so_far : Devised) : Type 0 where
    pub devices : BusRepresents (contents_on meaning.tree) now so_far.devices
    pub makes : Makes meaning start now so_far.changes

  pub carries : (start : Bus T O E) → Carries (bus_rules meaning) (RepresentsSince start) varvara
  carries start = record {
    reading = λ now so_far core port value stands reads. reads so_far.devices stands.devices.devices;
    writing = λ now so_far core port byte after core_after stands wrote.
        let done = wrote-effect now after core core_after port byte wrote so_far.devices stands.devices in
        record {
          same_core = done.core;
          same_ports = record {
            devices = done.devices;
            makes = ended-then so_far.changes (effect so_far.devices core port byte).changes None _ _ _ stands.makes done.makes;
          };
        };
  }

  pub starts : (start : Bus T O E) (devices : DeviceState) → BusRepresents (contents_on meaning.tree) start devices
      → RepresentsSince start start (no_changes devices)
  starts start devices stands = record { devices = stands; makes = done-nothing (outside_on meaning start) }

  carried : (before : Bus T O E) (core core_new : Core) (now : Bus T O E) (turn : Turn) (devices : DeviceState)
      → BusRepresents (contents_on meaning.tree) before devices
      → Instruction (bus_rules meaning) core before (Ok turn) core_new now
      → RepresentsMachine (bus_rules meaning) (RepresentsSince before) varvara core_new now (after_instruction varvara core
      (no_changes devices))
  carried before core core_new now Ran devices stands ran =
      carried-ran (bus_rules meaning) (RepresentsSince before) varvara (carries before) core before
      (no_changes devices) core_new now (starts before devices stands) ran
  carried before core core_new now Broke devices stands ran =
      carried-broke (bus_rules meaning) (RepresentsSince before) varvara core before
      (no_changes devices) core_new now (starts before devices stands) ran

  -- an instruction that ran over a bus has its effect, from each state that the bus represented
  pub instruction-done : (core core_new : Core) (before now : Bus T O E) (turn : Turn) (devices : DeviceState)
      → BusRepresents (contents_on meaning.tree) before devices → Instruction (bus_rules meaning) core before (Ok turn) core_new now
      → HasEffect meaning before now core_new (instruction_effect devices core)
  unfolding instruction_effect
  instruction-done core core_new before now turn devices stands ran =
      let at = carried before core core_new now turn devices stands ran in
      record { core = at.same_core; devices = at.same_ports.devices; makes = at.same_ports.makes }

  pub goes-on : (core core_new : Core) (before now : Bus T O E) (stop : Stop)
      → Instruction (bus_rules meaning) core before (Err stop) core_new now → opcode_at core ≢ 0
  unfolding Instruction
  goes-on core core_new before now stop stopped = stopped.0

  -- one that stopped at a write, after others, has made a prefix of its changes
  stopped-at : (before now : Bus T O E) (core core_new : Core) (stop : Stop) (devices : DeviceState) → opcode_at core ≢ 0
      → MachineStopsAt (bus_rules meaning) (RepresentsSince before) varvara (writes_in (begun core).access) (begins_with devices core)
      stop core_new now
      → StopsShort meaning before now stop (instruction_effect devices core).changes
  unfolding effect
  stopped-at before now core core_new stop devices other at =
      let later = changes-then devices core at.before at.after at.port at.byte other at.in_order in
      rw later.parts
      (ended-first (changes_with devices core at.before at.port at.byte) later.more _ _ _
      (ended-then (reached_by devices core at.before).ports.changes
      (effect (reached_by devices core at.before).ports.devices (reached_by devices core at.before).core at.port at.byte).changes
      (Some _) _ _ _ at.same_ports.makes
      (at.stops.cut (reached_by devices core at.before).ports.devices
      (stands-to (asks_tree (action_of at.port)) at.ports (reached_by devices core at.before).ports.devices at.same_ports.devices))))

  pub instruction-cut : (core core_new : Core) (before now : Bus T O E) (stop : Stop) (devices : DeviceState)
      → BusRepresents (contents_on meaning.tree) before devices → Instruction (bus_rules meaning) core before (Err stop) core_new now
      → StopsShort meaning before now stop (instruction_effect devices core).changes
  instruction-cut core core_new before now stop devices stands stopped =
      stopped-at before now core core_new stop devices (goes-on core core_new before now stop stopped)
      (carried-stopped (bus_rules meaning) (RepresentsSince before) varvara (carries before) core before
      (no_changes devices) stop core_new now (starts before devices stands) stopped)

  -- whatever became of an instruction, the same four are borrowed, and memory ran out only where there is a root
  same-root : (before now : Bus T O E) → SameBus meaning.tree before now → HasRoot now.devices.now → HasRoot before.devices.now
  same-root before now same has = rw same.root at has

  unchanged : (before now : Bus T O E) → now ≡ before → SameBus meaning.tree before now
  unchanged before now is = rw is (same-itself meaning.tree before)

  written-same : (writes : List (ℕ × ℕ)) (before : Bus T O E) (core : Core) (now : Bus T O E) (core_new : Core)
      → Written (bus_rules meaning) writes before core now core_new → SameBus meaning.tree before now
  written-same [] before core now core_new written = unchanged before now written.0
  written-same (write ∷ writes) before core now core_new written =
      same-again meaning.tree before written.0 now written.1.1.0.same (written-same writes written.0 written.1.0 now core_new written.1.1.1)

  stopped-same : (writes : List (ℕ × ℕ)) (before : Bus T O E) (core : Core) (stop : Stop) (now : Bus T O E) (core_new : Core)
      → WriteStops (bus_rules meaning) writes before core stop now core_new
      → SameBus meaning.tree before now × (stop ≡ NoMemory → HasRoot before.devices.now)
  stopped-same [] before core stop now core_new stopped = absurd stopped
  stopped-same (write ∷ writes) before core stop now core_new stopped = elim stopped [
    | inl here ↦ (here.same, here.memory)
    | inr later ↦
        let rest = stopped-same writes later.0 later.1.0 stop now core_new later.1.1.1 in (
          same-again meaning.tree before later.0 now later.1.1.0.same rest.0,
          λ wanting. same-root before later.0 later.1.1.0.same (rest.1 wanting),
        )
  ]

  finishes-same : (access : Access) (core core_new : Core) (before now : Bus T O E)
      → FinishesAccess (bus_rules meaning) access core before core_new now → SameBus meaning.tree before now
  unfolding FinishesAccess
  finishes-same Nothing core core_new before now done = unchanged before now done.0
  finishes-same (Read port mode) core core_new before now done = unchanged before now done.0
  finishes-same (Write port width value) core core_new before now done = written-same
      (writes_of width port value) before core now core_new done

  pub instruction-borrowed : (core core_new : Core) (before now : Bus T O E) (result : Result Turn Stop)
      → Instruction (bus_rules meaning) core before result core_new now → SameBus meaning.tree before now
  unfolding Instruction
  instruction-borrowed core core_new before now (Ok Broke) done = unchanged before now done.2
  instruction-borrowed core core_new before now (Ok Ran) done = finishes-same (begun core).access (begun core).core core_new before now done.1
  instruction-borrowed core core_new before now (Err stop) done = (stopped-same (writes_in (begun core).access)
      before (begun core).core stop now core_new done.1).0

  pub instruction-fault : (core core_new : Core) (before now : Bus T O E) (stop : Stop)
      → Instruction (bus_rules meaning) core before (Err stop) core_new now
      → stop ≡ NoMemory → HasRoot before.devices.now
  unfolding Instruction
  instruction-fault core core_new before now stop done = (stopped-same (writes_in (begun core).access)
      before (begun core).core stop now core_new done.1).1
