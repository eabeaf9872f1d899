-- What an instruction of a machine without a root writes to port 18.
use Rattle.uxn_line.proofs.Common.{eqb-true, append-nil, ToOut, ToErr, Creates, ToFile, Removes, handed_in, ◌≡◌, ℕ, ◌==◌, false, cond, List, [], ◌∷◌}
use Rattle.uxn_line.proofs.Common.{◌++◌, inl, inr, refl, ap, sym, ◌∙◌, append_assoc, Option, cases_Bool, Change, Core, DeviceState}
use Rattle.uxn_line.proofs.Common.{instruction_effect, put_by, put_by-append, AllByRecursion, Devices, Rests}
use Rattle.uxn_limits.specs.declared.ports.TheConstants.{CONSOLE_WRITE}
use Rattle.varvara_bus.specs.Effect.{Footprint, footprint, action_of, effect}
use Rattle.varvara_bus.specs.Footprints.{IsWithin, FilesSuit, effect-keeps, puts-nothing}
use Rattle.varvara_bus.specs.Writes.{instruction-holds, writes_at}
use Rattle.uxn_line.specs.Machines.{handed_on}

-- changes within a footprint that leaves the standard output alone write nothing there
within-quiet : (print : Footprint) (root : Option (List ℕ)) (changes : List Change) → print.out ≡ false → AllByRecursion (IsWithin print root) changes
    → put_by changes ≡ []
within-quiet print root [] none within = refl
within-quiet print root (ToOut byte ∷ changes) none within = cc
within-quiet print root (ToErr byte ∷ changes) none within = within-quiet print root changes none within.1
within-quiet print root (Creates path ∷ changes) none within = within-quiet print root changes none within.1
within-quiet print root (ToFile path byte ∷ changes) none within = within-quiet print root changes none within.1
within-quiet print root (Removes path ∷ changes) none within = within-quiet print root changes none within.1

-- what one write writes there
write-puts : (devices : DeviceState) (core : Core) (port byte : ℕ) → FilesSuit devices
    → put_by (effect devices core port byte).changes ≡ cond (port == CONSOLE_WRITE) (byte ∷ []) []
unfolding effect
write-puts devices core port byte suit =
    elim (cases_Bool (port == CONSOLE_WRITE)) [
      | inl same ↦ rw (eqb-true port CONSOLE_WRITE same) refl
      | inr apart ↦ within-quiet (footprint (action_of port)) devices.root (effect devices core port byte).changes
          (puts-nothing port apart) ((effect-keeps devices core port byte).changes suit) ∙ ap (λ b. cond b (byte ∷ []) []) (sym apart)
    ]

pub rests-put : (held : Devices) (devices : DeviceState) (core : Core) → Rests held devices
    → put_by (instruction_effect devices core).changes ≡ handed_on core
unfolding handed_on
rests-put held devices core rests =
    sym (append-nil (put_by (instruction_effect devices core).changes))
    ∙ (instruction-holds (λ changes writes. put_by changes ++ handed_in writes ≡ handed_in (writes_at core)) FilesSuit
    (λ devices core_now port byte changes writes suit so_far.
    let done = (effect devices core_now port byte).changes in (
      ap (λ bytes. bytes ++ handed_in writes) (put_by-append changes done ∙ ap (λ bytes. put_by changes ++ bytes)
          (write-puts devices core_now port byte suit))
          ∙ append_assoc (put_by changes) (cond (port == CONSOLE_WRITE) (byte ∷ []) []) (handed_in writes) ∙ so_far,
      (effect-keeps devices core_now port byte).suit suit,
    )) devices core (rests.devices.files.first_suits, rests.devices.files.second_suits) refl).0
