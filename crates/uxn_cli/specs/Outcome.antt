-- What a verdict gives: the status, and the changes outside, in order.
use Rattle.std.specs.Prelude.{◌≡◌, ℕ, true, List, [], ◌++◌, map, Option, None, option_map, Result, Ok, Err}
use Rattle.std.specs.List.{list_any}
use Rattle.std.specs.Str.{bytes_eq}
use Rattle.file_ports.specs.RootPart.{below}
use Rattle.uxn_io_traits.specs.AtPath.{contents_at}
use Rattle.uxn_io_traits.specs.Files.{Nodes}
use Rattle.uxn_io_traits.specs.Ended.{to_out, to_err, creating_all}
use Rattle.uxn_io_traits.specs.Outside.{Change, World, changed_by}
use Rattle.uxn_cli.specs.declared.task_files.refusal.Refusal.{Refusal}
use Rattle.uxn_cli.specs.Statuses.{status_of}
use Rattle.uxn_cli.specs.Lines.{refusal_line}
use Rattle.vector_loop.specs.Trace.{Trace}
use Rattle.text_lines.specs.declared.script.Version.{Version}
use Rattle.uxn_cli.specs.Writing.{filling_all, writing}
use Rattle.uxn_cli.specs.RunJob.{RunJob, job_outputs, trace_of, report_of, log_texts}
use Rattle.uxn_line.specs.Streams.{LineJob, run_of_machine, stream, exit_code_at}
use Rattle.uxn_line.specs.Moves.{last_machine}
use Rattle.uxn_cli.specs.Verdict.{Work, Run, Write, Print, RunLine}

pub record Outcome : Type 0 where
  pub status : ℕ
  pub changes : List Change

-- a run, and then its report
abbrev pub reporting : Option (List ℕ) → Version → Trace → List Change
reporting report version trace = trace.changes ++ filling_all (report_of report version trace.last)

-- once its files are made: it runs, its report is written, and then the log of a debugger
abbrev pub run_changes : RunJob → Trace → List Change
run_changes job trace = reporting job.task.report job.script.version trace ++ filling_all (log_texts job.debug trace)

-- a run: its files are made first
unfoldable pub running : Option Nodes → RunJob → List Change
running files job = creating_all (job_outputs job) ++ run_changes job (trace_of files job)

-- of machines in a line: the exit code of the last one's run, and what it writes to port 18
abbrev pub line_exit : LineJob → ℕ
line_exit job = exit_code_at (run_of_machine job (last_machine job)).last

abbrev pub line_bytes : LineJob → List ℕ
line_bytes job = stream job (last_machine job)

-- over these files, of which a run sees what lies beneath its root
abbrev pub outcome_of : Option Nodes → Result Work Refusal → Outcome
outcome_of files (Err refusal) = record { status = status_of refusal; changes = to_err (refusal_line refusal) }
outcome_of files (Ok (Run job)) = record { status = exit_code_at (trace_of files job).last; changes = running files job }
outcome_of files (Ok (Write texts)) = record { status = 0; changes = writing texts }
outcome_of files (Ok (Print text)) = record { status = 0; changes = to_out text }
outcome_of files (Ok (RunLine job)) = record { status = line_exit job; changes = to_out (line_bytes job) }

-- the files that are written, and the root of the program that is run
abbrev pub written_paths : Result Work Refusal → List (List ℕ)
written_paths (Ok (Run job)) = job_outputs job
written_paths (Ok (Write texts)) = map (λ text. text.path) texts
written_paths _ = []

abbrev pub root_of_work : Result Work Refusal → Option (List ℕ)
root_of_work (Ok (Run job)) = job.task.root
root_of_work _ = None

-- a path at which a file is written
abbrev pub IsOutputOf : Result Work Refusal → List ℕ → Type 0
IsOutputOf found path = list_any (bytes_eq path) (written_paths found) ≡ true

-- a call gave an outcome over a world: its status, the bytes on both outputs, and what stands beneath a root and at some paths
pub record GivesOutcome (o : Outcome) (over : World) (root : Option (List ℕ)) (P : List ℕ → Type 0) (now : World) (answer : ℕ)
    : Type 0 where
  pub status : answer ≡ o.status
  pub out : now.out ≡ (changed_by over o.changes).out
  pub err : now.err ≡ (changed_by over o.changes).err
  pub part : option_map (below root) now.files ≡ option_map (below root) (changed_by over o.changes).files
  pub files : (path : List ℕ) → P path → contents_at path now.files ≡ contents_at path (changed_by over o.changes).files
