-- Changes made outside by a run itself, and not by its program: pictures and samples.
use Rattle.std.specs.Prelude.{◌≡◌, ◌≢◌, List, [], Result, Err, OnOk, OnErr}
use Rattle.uxn_io_traits.specs.Ended.{Ended}
use Rattle.uxn_io_traits.specs.Faults.{Ledger}
use Rattle.uxn_io_traits.specs.Outside.{Change}
use Rattle.uxn_opcodes.specs.declared.Stop.{Stop}
use Rattle.uxn_opcodes.specs.declared.Stop.TheVariants.{TreeFault}
use Rattle.uxn_opcodes.specs.Ports.{result_blame}
use Rattle.varvara_bus.specs.declared.bus.Bus.{Bus}
use Rattle.varvara_bus.specs.State.{DeviceState, DevicesRepresent}
use Rattle.varvara_bus.specs.Bus.{SameBus, BusRepresents, BusModel, outside_on, bus_faults, blame_for, screen_of, contents_on}

-- from each state that the bus represented the changes were made, or a prefix of them was, since the tree failed, and there are some; the
-- devices represent it still, and so does the bus where all were made
pub record MadeOrCut {T O E : Type 0} (meaning : BusModel T O E) (before now : Bus T O E) (changes : DeviceState → List Change)
    (result : Result (Unit {0}) Stop) : Type 0 where
  pub made : (state : DeviceState) → BusRepresents (contents_on meaning.tree) before state
      → Ended (changes state) (blame_for result) (outside_on meaning before) (outside_on meaning now)
  pub stands : OnOk result ((state : DeviceState) → BusRepresents (contents_on meaning.tree) before state
      → BusRepresents (contents_on meaning.tree) now state)
  pub devices : (state : DeviceState) → BusRepresents (contents_on meaning.tree) before state → DevicesRepresent now.devices.now state
  pub height : (screen_of now).height ≡ (screen_of before).height
  pub fault : OnErr result (result ≡ Err TreeFault)
  pub some : OnErr result ((state : DeviceState) → BusRepresents (contents_on meaning.tree) before state → changes state ≢ [])
  pub ledger : Ledger (bus_faults meaning before) (bus_faults meaning now) (result_blame result)
  pub same : SameBus meaning.tree before now
