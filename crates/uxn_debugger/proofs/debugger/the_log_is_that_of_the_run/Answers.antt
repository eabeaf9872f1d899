use Rattle.uxn_debugger.proofs.Earlier.{UndoLaws}
use Rattle.uxn_debugger.proofs.LogLaw.{keeps_the_log}
use Rattle.uxn_debugger.proofs.RunLog.{keeps_the_log_of_runs}
use Rattle.uxn_debugger.proofs.debugger.the_log_is_that_of_the_run.Goals as goal

pub returns : goal.returns
returns c =
    let laws : UndoLaws = record {
      holding = c.the_newest_moments_are_held.ensures;
      going_back = c.going_back_gives_the_moment.ensures;
      run = c.the_moments_of_a_run_are_in_a_row.ensures;
    } in
    record { moments = keeps_the_log laws; runs = keeps_the_log_of_runs laws c.the_moments_of_a_run_are_counted.ensures }
