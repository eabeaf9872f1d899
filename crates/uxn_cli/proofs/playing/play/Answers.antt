use Rattle.uxn_cli.proofs.Clauses.Works.{Err, Ok, does-run, ready-files, ready-log}
use Rattle.uxn_cli.proofs.playing.play.Goals as goal

pub run_prepared-requires-clause-files : goal.run_prepared-requires-clause-files
run_prepared-requires-clause-files g c = ready-files _ _ _ _ _ c.in-Ok.ensures c.requires.apart

pub run_prepared-requires-clause-log : goal.run_prepared-requires-clause-log
run_prepared-requires-clause-log g c = ready-log _ _ _ _ _ c.in-Ok.ensures c.requires.apart

pub returns-in-Ok-run_prepared-clause-does : goal.returns-in-Ok-run_prepared-clause-does
returns-in-Ok-run_prepared-clause-does g c =
    does-run _ _ _ _ _ c.in-Ok.ensures c.requires.apart _ _ _ c.in-Ok-run_prepared.ensures.refusals (Ok c.in-Ok-run_prepared.end) c.in-Ok-run_prepared.ensures.runs

pub returns-in-Err-run_prepared-clause-does : goal.returns-in-Err-run_prepared-clause-does
returns-in-Err-run_prepared-clause-does g c =
    does-run _ _ _ _ _ c.in-Ok.ensures c.requires.apart _ _ _ c.in-Err-run_prepared.ensures.refusals (Err c.in-Err-run_prepared.stop) c.in-Err-run_prepared.ensures.runs

pub returns-in-Err-clause-does : goal.returns-in-Err-clause-does
returns-in-Err-clause-does g c = c.in-Err.ensures _ _
