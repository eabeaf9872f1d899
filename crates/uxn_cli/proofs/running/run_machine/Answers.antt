use Rattle.uxn_cli.proofs.Clauses.Works.{contents_on, ◌≡◌, ◌∙◌, refl, ap, rules, arith, Err, false, exit_code_of, first_devices, reference_trace}
use Rattle.uxn_cli.proofs.Clauses.Works.{at-start, exit_code_at, run_end}
use Rattle.uxn_cli.specs.RunsFromRoot.{machine_trace}
use Rattle.std.specs.FinMap as fin
use Rattle.uxn_cli.proofs.running.run_machine.Goals as goal

pub run_script-requires-clause-frames : goal.run_script-requires-clause-frames
run_script-requires-clause-frames g c = ap (λ devices. devices.time.frames) c.new-bus.ensures.devices_now
    ∙ (c.requires.devices fin.empty false).frames

pub returns-clause-runs : goal.returns-clause-runs
unfolding reference_trace
returns-clause-runs g c =
    let bus = c.new-bus.ensures in
    record {
      from = λ root_view root files.
          let machine = c.args.machine.now in
          let stands = at-start (contents_on g.T.Tree) c.new-bus.result _ _ machine.script root_view bus.devices_now bus.tree_now root
          c.requires.devices files in
          let ends = c.in_ok-tally.ensures.ok.from (first_devices machine.script root_view) stands in
          record {
            made = rw (bus.tree_now, bus.out_now, bus.err_now) at ends.follows.makes;
            ends = rw (c.exit_code.ensures, c.stored.ensures.stored _ ends.follows.devices.devices, ends.follows.tally) refl;
            names = tt;
          };
      ledger = rw (bus.tree_now, bus.out_now, bus.err_now) at c.in_ok-tally.ensures.ledger;
      memory = tt;
      files = rw (bus.devices_now, bus.tree_now) at c.in_ok-tally.ensures.files;
      code = rw c.exit_code.ensures (omega arith);
    }

pub returns-clause-watcher : goal.returns-clause-watcher
unfolding reference_trace
returns-clause-watcher g c = λ root_view root files.
    let machine = c.args.machine.now in
    let stands = at-start (contents_on g.T.Tree) c.new-bus.result _ _ machine.script root_view c.new-bus.ensures.devices_now
    c.new-bus.ensures.tree_now root c.requires.devices files in
    let ends = c.in_ok-tally.ensures.ok.from (first_devices machine.script root_view) stands in
    rw ends.follows.watcher at ends.watcher

pub returns-in_err-tally-clause-runs : goal.returns-in_err-tally-clause-runs
unfolding reference_trace
returns-in_err-tally-clause-runs g c =
    let result : c.from_residual.result ≡ Err c.in_err-tally.field-0.0 = search rules in
    let bus = c.new-bus.ensures in
    rw result (record {
      from = λ root_view root files.
          let machine = c.args.machine.now in
          let stands = at-start (contents_on g.T.Tree) c.new-bus.result _ _ machine.script root_view bus.devices_now bus.tree_now root
          c.requires.devices files in
          let short = c.in_err-tally.ensures.err.from (first_devices machine.script root_view) stands in
          record {
            made = rw (bus.tree_now, bus.out_now, bus.err_now) at short.made;
            ends = tt;
            names = short.names;
          };
      ledger = rw (bus.tree_now, bus.out_now, bus.err_now) at c.in_err-tally.ensures.ledger;
      memory = rw bus.devices_now at c.in_err-tally.ensures.memory;
      files = tt;
      code = tt;
    })

-- without a root no file was refused
pub returns-clause-refusals : goal.returns-clause-refusals
returns-clause-refusals g c = rw (c.new-bus.ensures.devices_now, c.new-bus.ensures.tree_now) at c.in_ok-tally.ensures.refusals

pub returns-in_err-tally-clause-refusals : goal.returns-in_err-tally-clause-refusals
returns-in_err-tally-clause-refusals g c = rw (c.new-bus.ensures.devices_now, c.new-bus.ensures.tree_now) at c.in_err-tally.ensures.refusals
