use Rattle.uxn_cli.proofs.Clauses.Works.Changes.Names.{length-map, job_of_joined, arith}
use Rattle.uxn_cli.proofs.joining.run_line.Goals as goal

pub run_all-requires : goal.run_all-requires
run_all-requires g c = grind (arith, length-map)

pub returns-in-Ok : goal.returns-in-Ok
returns-in-Ok g c =
    let under = rw (c.deref.ensures.value, c.budget.ensures.budget) at (c.in_ok-line.ensures.under_way (g.O.Sink.state c.args.out.now)) in
    c.in-Ok.ensures.done (job_of_joined c.args.joined.now) _ under

pub returns : goal.returns
returns g c =
    let under = rw (c.deref.ensures.value, c.budget.ensures.budget) at (c.in_ok-line.ensures.under_way (g.O.Sink.state c.args.out.now)) in
    (c.in-Err.ensures.done (job_of_joined c.args.joined.now) _ under).0
