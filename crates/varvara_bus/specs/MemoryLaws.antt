-- Laws of memory: a word written to a port changes no other bytes than those that it may change.
use Rattle.std.specs.Prelude.{◌≡◌, ℕ, ◌+◌, ◌/◌, ◌%◌, ◌<◌, ◌≤◌, ◌==◌, false, List}
use Rattle.std.specs.Prelude.{[], ◌∷◌, length, Option, Some, None, is_some}
use Rattle.std.specs.Prelude.{slice_index, slice_set, if◌then◌else◌, refl}
use Rattle.std.proofs.Common.{ap, ◌∙◌, arith, inl, inr, lit<}
use Rattle.std.proofs.lemmas.Bool.{cases_Bool}
use Rattle.std.proofs.lemmas.List.{length-set}
use Rattle.uxn_opcodes.specs.declared.Core.{Core}
use Rattle.uxn_opcodes.specs.declared.operation.Width.{Width}
use Rattle.uxn_opcodes.specs.declared.operation.Width.TheVariants.{Byte, Short}
use Rattle.uxn_opcodes.specs.Instruction.{writes_of}
use Rattle.uxn_opcodes.specs.Model.{written_by}
use Rattle.system_port.specs.declared.expansions.BankRange.{BankRange}
use Rattle.system_port.specs.Expansion.{no_range}
use Rattle.system_port.specs.RangeLaws.{ChangesWithin}
use Rattle.varvara_bus.specs.declared.ports.Action.{Action}
use Rattle.varvara_bus.specs.declared.ports.Action.TheVariants.{Stores, Expands, ActsOnFile}
use Rattle.varvara_bus.specs.declared.ports.FileNumber.TheVariants.{First, Second}
use Rattle.varvara_bus.specs.declared.ports.FileAct.TheVariants.{Stat, Read}
use Rattle.varvara_bus.specs.History.{History, stored}
use Rattle.varvara_bus.specs.State.{DeviceState, storing}
use Rattle.varvara_bus.specs.Effect.{footprint, short_held, range_of, action_of, effect}
use Rattle.varvara_bus.specs.Footprints.{touches_memory, touches-behind, effect-keeps}
use Rattle.varvara_bus.specs.Touched.{touched_by_byte, next_port, touched_by_word}
use Rattle.varvara_bus.specs.Laws.{found}
use Rattle.varvara_bus.specs.Model.{no_changes, varvara}

-- a page of 256 bytes holds what was last stored in the ports
pub record IsPageOf (page : List ℕ) (history : History) : Type 0 where
  pub size : length page ≡ 256
  pub holds : (port : ℕ) → port < 256 → slice_index page port ≡ stored history port

page-stored : (page : List ℕ) (history : History) (port byte : ℕ) → port < 256 → IsPageOf page history
    → IsPageOf (slice_set page port byte) ((port, byte) ∷ history)
page-stored page history port byte small is = record {
  size = length-set page port byte ∙ is.size;
  holds = λ other less.
      found page port byte other (omega (arith, is.size)) ∙ ap (λ held. if other == port then byte else held) (is.holds other less);
}

-- ports that hold the same let an action touch the same
module _ (a b : ℕ → ℕ) (memory : List ℕ) (same : (port : ℕ) → port < 256 → a port ≡ b port) where
  same-short : (port : ℕ) → port < 255 → short_held a port ≡ short_held b port
  same-short port less =
      let high = same port (omega arith) in
      let low = same (port + 1) (omega arith) in
      rw (high, low) refl

  touched-same : (action : Action) → range_of (footprint action).memory a memory ≡ range_of (footprint action).memory b memory
  touched-same Expands = rw (same-short 0x02 (lit< tt)) refl
  touched-same (ActsOnFile First Stat) = rw (same-short 0xa4 (lit< tt), same-short 0xaa (lit< tt)) refl
  touched-same (ActsOnFile First Read) = rw (same-short 0xac (lit< tt), same-short 0xaa (lit< tt)) refl
  touched-same (ActsOnFile Second Stat) = rw (same-short 0xb4 (lit< tt), same-short 0xba (lit< tt)) refl
  touched-same (ActsOnFile Second Read) = rw (same-short 0xbc (lit< tt), same-short 0xba (lit< tt)) refl
  touched-same _ = refl

-- a byte written
byte-within : (devices : DeviceState) (core : Core) (page : List ℕ) (port byte : ℕ) → port < 256 → IsPageOf page devices.history
    → 65536 ≤ length core.memory
    → ChangesWithin (touched_by_byte core.memory page port byte) core.memory (effect devices core port byte).core.memory
byte-within devices core page port byte small is size =
    rw (touched-same (slice_index (slice_set page port byte)) (stored ((port, byte) ∷ devices.history)) core.memory
    (page-stored page devices.history port byte small is).holds (action_of port)) ((effect-keeps devices core port byte).memory size)

-- one that touches no memory leaves it as it is
pub same-range : (range : BankRange) (before middle after : List ℕ) → ChangesWithin range before middle → ChangesWithin no_range middle after
    → ChangesWithin range before after
same-range range before middle after first none = record {
  size = none.size ∙ first.size;
  same = λ place out. none.same place (λ k less is. absurd (omega arith)) ∙ first.same place out;
}

no-range : (touched : Option ((ℕ → ℕ) → List ℕ → BankRange)) (held : ℕ → ℕ) (memory : List ℕ) → is_some touched ≡ false
    → range_of touched held memory ≡ no_range
no-range None held memory none = refl
no-range (Some range) held memory none = cc

-- the core once a word was written
abbrev pub after_word : DeviceState → Core → Width → ℕ → ℕ → Core
after_word devices core width port value =
    (written_by varvara (writes_of width port value) (record { core = core; ports = no_changes devices })).core

-- a byte written behind one that was only stored
second-within : (devices : DeviceState) (core : Core) (page : List ℕ) (port high low : ℕ) → port < 256 → IsPageOf page devices.history
    → 65536 ≤ length core.memory → action_of port ≡ Stores
    → ChangesWithin (touched_by_byte core.memory (slice_set page port high) (next_port port) low) core.memory
    (effect (effect devices core port high).devices (effect devices core port high).core (next_port port) low).core.memory
unfolding effect
second-within devices core page port high low small is size stores =
    let next : next_port port < 256 = omega arith in
    rw stores (byte-within (storing ((port, high) ∷ []) devices) core (slice_set page port high) (next_port port) low next
    (page-stored page devices.history port high small is) size)

pub word-within : (devices : DeviceState) (core : Core) (page : List ℕ) (width : Width) (port value : ℕ) → port < 256
    → IsPageOf page devices.history → 65536 ≤ length core.memory
    → ChangesWithin (touched_by_word core.memory page width port value) core.memory (after_word devices core width port value).memory
unfolding touched_by_word
word-within devices core page Byte port value small is size = byte-within devices core page port (value % 256) small is size
word-within devices core page Short port value small is size =
    let next = next_port port in
    let first = effect devices core port (value / 256) in
    let one = byte-within devices core page port (value / 256) small is size in
    elim (cases_Bool (touches_memory (action_of next))) [
      | inl touches ↦
          let back : (next + 255) % 256 ≡ port = omega arith in
          rw touches (second-within devices core page port (value / 256) (value % 256) small is size (rw back at (touches-behind next touches)))
      | inr none ↦
          let more = (effect-keeps first.devices first.core next (value % 256)).memory (omega (arith, one.size)) in
          rw none (same-range _ core.memory first.core.memory _ one
          (rw (no-range (footprint (action_of next)).memory _ first.core.memory none) at more))
    ]

-- the bytes of both stacks stay as they are
pub word-stacks : (devices : DeviceState) (core : Core) (width : Width) (port value : ℕ)
    → (after_word devices core width port value).working.bytes ≡ core.working.bytes
    × (after_word devices core width port value).returns.bytes ≡ core.returns.bytes
word-stacks devices core Byte port value = let keeps = effect-keeps devices core port (value % 256) in (keeps.working, keeps.returns)
word-stacks devices core Short port value =
    let first = effect devices core port (value / 256) in
    let one = effect-keeps devices core port (value / 256) in
    let two = effect-keeps first.devices first.core (next_port port) (value % 256) in
    (two.working ∙ one.working, two.returns ∙ one.returns)
