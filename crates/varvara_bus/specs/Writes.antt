-- What holds of each write of an instruction, one after the other.
use Rattle.std.specs.Prelude.{ℕ, ◌==◌, List, [], ◌∷◌, ◌++◌, if◌then◌else◌}
use Rattle.std.proofs.Common.{inl, inr}
use Rattle.std.proofs.lemmas.Bool.{cases_Bool}
use Rattle.uxn_io_traits.specs.Outside.{Change}
use Rattle.uxn_opcodes.specs.declared.Core.{Core}
use Rattle.uxn_opcodes.specs.declared.rows.Access.{Access}
use Rattle.uxn_opcodes.specs.declared.rows.Access.TheVariants.{Nothing, Read, Write}
use Rattle.uxn_opcodes.specs.Rule.{opcode_at, begun}
use Rattle.uxn_opcodes.specs.Instruction.{writes_of}
use Rattle.uxn_opcodes.specs.Instruction.{writes_in}
use Rattle.uxn_opcodes.specs.Model.{Machine, after_instruction, access_done, written_by}
use Rattle.varvara_bus.specs.State.{DeviceState}
use Rattle.varvara_bus.specs.Effect.{effect}
use Rattle.varvara_bus.specs.Model.{no_changes, Devised, varvara, instruction_effect}

-- the writes of the coming instruction, in order
abbrev pub writes_at : Core → List (ℕ × ℕ)
writes_at core = if opcode_at core == 0 then [] else writes_in (begun core).access

-- what holds of some changes and the writes to come, and goes on to hold as each of them is done, holds of an instruction
module _ (R : List Change → List (ℕ × ℕ) → Type 0) (Q : DeviceState → Type 0)
    (next : (devices : DeviceState) (core : Core) (port byte : ℕ) (changes : List Change) (writes : List (ℕ × ℕ)) → Q devices
    → R changes ((port, byte) ∷ writes) → R (changes ++ (effect devices core port byte).changes) writes
    × Q (effect devices core port byte).devices) where
  written-holds : (writes : List (ℕ × ℕ)) (machine : Machine Devised) → Q machine.ports.devices → R machine.ports.changes writes
      → R (written_by varvara writes machine).ports.changes [] × Q (written_by varvara writes machine).ports.devices
  written-holds [] machine q r = (r, q)
  written-holds (write ∷ writes) machine q r =
      let done = next machine.ports.devices machine.core write.0 write.1 machine.ports.changes writes q r in
      written-holds writes (varvara.write machine.ports machine.core write.0 write.1) done.1 done.0

  access-holds : (access : Access) (core : Core) (devices : DeviceState) → Q devices → R [] (writes_in access)
      → R (access_done varvara access core (no_changes devices)).ports.changes []
      × Q (access_done varvara access core (no_changes devices)).ports.devices
  access-holds Nothing core devices q r = (r, q)
  access-holds (Read port mode) core devices q r = (r, q)
  access-holds (Write port width value) core devices q r =
      written-holds (writes_of width port value) (record { core = core; ports = no_changes devices }) q r

  pub instruction-holds : (devices : DeviceState) (core : Core) → Q devices → R [] (writes_at core)
      → R (instruction_effect devices core).changes [] × Q (instruction_effect devices core).devices
  unfolding instruction_effect after_instruction
  instruction-holds devices core q r =
      elim (cases_Bool (opcode_at core == 0)) [
        | inl broke ↦ rw broke (rw broke at r, q)
        | inr runs ↦ rw runs (access-holds (begun core).access (begun core).core devices q (rw runs at r))
      ]
