-- A bus over nothing outside: what it represents, and what an instruction over it leaves.
use Rattle.uxn_line.proofs.Common.{instruction-done, instruction-fault, ◌≡◌, refl, ◌∙◌, inl, inr, arith, None, Result, Ok, Err, Core, Devices}
use Rattle.uxn_line.proofs.Common.{DeviceState, instruction_effect, Rests, MachineHasDone}
use Rattle.uxn_io_traits.specs.Faults.{Ledger}
use Rattle.uxn_io_traits.specs.Nothing.{state_of_no_sink, state_of_no_tree}
use Rattle.uxn_io_traits.specs.declared.nothing.NoSink.{NoSink}
use Rattle.uxn_io_traits.specs.declared.nothing.NoTree.{NoTree}
use Rattle.uxn_opcodes.specs.declared.Stop.{Stop}
use Rattle.uxn_opcodes.specs.declared.Stop.TheVariants.{TreeFault, SinkFault, NoMemory}
use Rattle.uxn_opcodes.specs.declared.Turn.{Turn}
use Rattle.uxn_opcodes.specs.Ports.{result_blame}
use Rattle.uxn_opcodes.specs.Instruction.{Instruction}
use Rattle.varvara_bus.specs.declared.bus.Bus.{Bus}
use Rattle.varvara_bus.specs.Bus.{BusRepresents, contents_on, BusModel, meaning_of, bus_rules, bus_faults}

-- what nothing tells, and what it takes
abbrev pub nothing : BusModel NoTree NoSink NoSink
nothing = meaning_of (record { state = state_of_no_tree }) (record { state = state_of_no_sink }) (record { state = state_of_no_sink })

pub stands-alone : (bus : Bus NoTree NoSink NoSink) (held : Devices) (state : DeviceState) → bus.devices.now ≡ held → Rests held state
    → BusRepresents (contents_on nothing.tree) bus state
stands-alone bus held state same rests = record { devices = rw same rests.devices; files = rests.alone }

-- over nothing outside, and without a root, no instruction stops
stops-never : (core core_new : Core) (before now : Bus NoTree NoSink NoSink) (stop : Stop) → before.devices.now.root ≡ None
    → Instruction (bus_rules nothing) core before (Err stop) core_new now
    → Ledger (bus_faults nothing before) (bus_faults nothing now) (result_blame {T = Turn} (Err stop)) → ⊥
stops-never core core_new before now TreeFault alone stopped ledger = let l = ledger.tree.rose refl in omega (arith, l.risen)
stops-never core core_new before now SinkFault alone stopped (inl ledger) = let l = ledger.out.rose refl in omega (arith, l.risen)
stops-never core core_new before now SinkFault alone stopped (inr ledger) = let l = ledger.err.rose refl in omega (arith, l.risen)
stops-never core core_new before now NoMemory alone stopped ledger =
    let some = rw alone at (instruction-fault nothing core core_new before now NoMemory stopped refl) in cc

pub instruction-alone : (core core_new : Core) (before now : Bus NoTree NoSink NoSink) (result : Result Turn Stop) (held final : Devices)
    → before.devices.now ≡ held → final ≡ now.devices.now → Instruction (bus_rules nothing) core before result core_new now
    → Ledger (bus_faults nothing before) (bus_faults nothing now) (result_blame result)
    → (state : DeviceState) → Rests held state → MachineHasDone core_new final (instruction_effect state core)
instruction-alone core core_new before now (Ok turn) held final same last ran ledger state rests =
    let done = instruction-done nothing core core_new before now turn state (stands-alone before held state same rests) ran in
    record { core = done.core; devices = record { devices = rw last done.devices.devices; alone = done.devices.files } }
instruction-alone core core_new before now (Err stop) held final same last ran ledger state rests =
    absurd (stops-never core core_new before now stop (rw same (rests.devices.root ∙ rests.alone.0)) ran ledger)
