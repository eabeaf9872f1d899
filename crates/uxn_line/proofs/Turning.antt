-- The turns of a machine, taken one after the other, are its run.
use Rattle.uxn_line.proofs.Common.{put_by-append, FollowsRun, new_machine, run_of_machine, ◌≡◌, ℕ, ◌++◌, ap, sym, ◌∙◌, append-nil, Trace, no_outputs}
use Rattle.uxn_line.proofs.Common.{put_by, put_in, PlaceHasEnded, LineJob, IsJob, script_at, rom_at, stream, after, run_left}
use Rattle.vector_loop.specs.StepLaws.{ended-nothing, steps-are}

pub follows : (job : LineJob) → IsJob job → (machine count : ℕ) → FollowsRun (after job machine count) (run_of_machine job machine)
follows job is machine count =
    let script = script_at job machine in
    let now = after job machine count in
    let steps = steps-are job.budget no_outputs script (new_machine (rom_at job machine) script.clock) is.budget in
    let left = run_left job.budget no_outputs now.left now.pending_inputs now.done.last in
    record {
      rest = put_by left.changes;
      prefix = ap (λ (t : Trace). put_by t.changes) (sym (steps.parts count)) ∙ put_by-append now.done.changes left.changes;
      end = λ ended. (
        ap (λ (t : Trace). put_by t.changes) (ended-nothing job.budget no_outputs now.left now.pending_inputs now.done.last ended.0 ended.1),
        ap (λ (t : Trace). t.last) (sym (steps.end count ended)),
      );
    }

-- what is written at the end of a run is its whole stream
pub ended-whole : (job : LineJob) → IsJob job → (machine count : ℕ) → PlaceHasEnded (after job machine count)
    → (put_in (after job machine count) ≡ stream job machine) × ((after job machine count).done.last ≡ (run_of_machine job machine).last)
ended-whole job is machine count ended =
    let run = follows job is machine count in
    let put = put_in (after job machine count) in
    let end = run.end ended in
    (sym (run.prefix ∙ ap (λ rest. put ++ rest) end.0 ∙ append-nil put), sym end.1)
