use Rattle.uxn_cli.proofs.Clauses.Works.{sym, append-nil, runs-as}
use Rattle.uxn_cli.proofs.playing.run_prepared.Goals as goal

pub run_session-requires-clause-devices : goal.run_session-requires-clause-devices
run_session-requires-clause-devices g c = rw c.deref_mut.ensures.value c.requires.devices

pub run_made-requires-clause-devices : goal.run_made-requires-clause-devices
run_made-requires-clause-devices g c = rw c.deref_mut-in-None.ensures.value c.requires.devices

pub returns-in-Some-clause-runs : goal.returns-in-Some-clause-runs
returns-in-Some-clause-runs g c =
    rw c.in-Some.is (rw c.deref_mut.ensures.value at c.run_session.ensures.runs)

pub returns-clause-runs : goal.returns-clause-runs
returns-clause-runs g c =
    rw c.in-None.is (runs-as _ _ _ _ _ _ _ _ _ (λ trace. sym (append-nil _)) (λ never. absurd never.is)
    (rw c.deref_mut-in-None.ensures.value at c.run_made.ensures.runs))
