use Rattle.uxn_line.proofs.Common.{ap, false, length, length-map, refl, sym, ◌∙◌}
use Rattle.std.specs.FinMap as nodes_map
use Rattle.uxn_opcodes.specs.Rule.{new_core}
use Rattle.uxn_line.proofs.machine.Machine.new.Goals as goal

pub returns : goal.returns
unfolding new_core
returns c script arguments clock =
    let count = sym (length-map _ _) ∙ ap length (sym arguments) in
    record {
      core = c.in_ok-core.ensures;
      devices = record {
        devices = rw (c.clock_of.ensures, ← clock, count) at (c.make_ready.ensures.stands _ (c.in_ok-devices.ensures nodes_map.empty false));
        alone = (refl, refl, refl);
      };
      left = refl;
    }
