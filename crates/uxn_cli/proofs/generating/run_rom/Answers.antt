use Rattle.uxn_cli.proofs.Clauses.Works.Changes.Names.{◌≡◌, sym, subst, List, ℕ, [], refl, Some, None, ap, rules, arith, false}
use Rattle.uxn_cli.proofs.Clauses.Works.Changes.Names.{Result, Ok, Err, IfOk, result_or, Stop, RunEnd, Outside, RunsOverOutside, HasRunAlone}
use Rattle.uxn_cli.proofs.Clauses.Works.Changes.Names.{changed_by-puts, World, changed_by, Trace, no_root_view, lone_trace, put_by, USUAL_BUDGET, AreNew}
unfoldable use Rattle.uxn_cli.proofs.Clauses.Works.Changes.Names.{reference_trace}
use Rattle.uxn_line.specs.Streams.{run_of}
use Rattle.std.specs.FinMap as fin
use Rattle.uxn_cli.proofs.generating.run_rom.Goals as goal

-- what its own sink took is what its run puts there
has-console : (trace : Trace) (now before : World) (taken : List ℕ) → now ≡ changed_by before trace.changes → before.out ≡ Some []
    → now.out ≡ Some taken → taken ≡ put_by trace.changes
has-console = grind (arith, changed_by-puts)

-- so where it ran to its end, whatever a fault becomes
has-run : {E : Type 0} (fault : E) (trace : Trace) (watched : Type 0) (before now : Outside) (taken : List ℕ) (result : Result RunEnd Stop)
    → before.world.out ≡ Some [] → now.world.out ≡ Some taken → RunsOverOutside trace trace.changes watched before now result
    → IfOk (result_or result (Err fault)) (λ end. HasRunAlone trace end taken)
has-run fault trace watched before now taken (Ok end) empty took ran =
    record { ends = ran.ends; bytes = has-console trace now.world before.world taken ran.made.world empty took }
has-run fault trace watched before now taken (Err stop) empty took ran = tt

pub run_machine-requires-clause-devices : goal.run_machine-requires-clause-devices
run_machine-requires-clause-devices c =
    let machine = c.in_ok-machine.machine.value in
    let new = c.in_ok-machine.ensures.devices in
    let root : machine.devices.root ≡ None = (new fin.empty false).root in
    rw (c.deref_mut.ensures.value, c.in_ok-machine.ensures.script) (subst (AreNew machine.devices c.args.script) (sym root) new)

pub returns : goal.returns
unfolding reference_trace
returns c =
    let machine = c.in_ok-machine.machine.value in
    let root : machine.devices.root ≡ None = (c.in_ok-machine.ensures.devices fin.empty false).root in
    let trace : lone_trace machine.core machine.script ≡ run_of USUAL_BUDGET c.args.rom.now c.args.script =
    rw (c.in_ok-machine.ensures.script, c.in_ok-machine.ensures.core) refl in
    let ran = (rw c.deref_mut.ensures.value at c.run_machine.ensures.runs).from no_root_view (sym root) (refl, refl, refl) in
    rw c.or.ensures (has-run _ _ _ _ _ _ c.run_machine.result (ap Some c.requires.empty) (search rules) (rw trace at ran))
