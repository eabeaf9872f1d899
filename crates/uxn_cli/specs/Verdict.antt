-- What is asked of the tree before anything is done, in the order of work, and what is to be done then: a refusal, or the work.
use Rattle.std.specs.Prelude.{ℕ, List, [], codes, if◌then◌else◌, Option, option_map, unwrap_or, Result, Ok, Err}
use Rattle.std.specs.List.{list_all}
use Rattle.uxn_limits.specs.declared.limits.TheConstants.{USUAL_BUDGET}
use Rattle.tal_rom.specs.Assembly.{rom_of}
use Rattle.tal_include.specs.Sources.{own_answer}
use Rattle.uxn_io_traits.specs.Inquiry.{Inquiry, Answer, and_then, result_as}
use Rattle.uxn_cli.specs.declared.task_files.refusal.Refusal.{Refusal}
use Rattle.uxn_cli.specs.declared.task_files.refusal.Refusal.TheVariants.{Faulty, OtherEvents}
use Rattle.uxn_cli.specs.Accepted.{validated_script, GivenInputs, run_of, files_of}
use Rattle.uxn_cli.specs.Accepted.{disassembly_of, Machines, machines_of, free_outputs}
use Rattle.uxn_arguments.specs.Values.{then_steps}
use Rattle.uxn_cli.specs.World.{Text}
use Rattle.uxn_line.specs.Streams.{LineJob, is_of_console}
use Rattle.uxn_arguments.specs.Options.{outputs_of}
use Rattle.uxn_arguments.specs.declared.task.DebugTask.{DebugTask}
use Rattle.uxn_arguments.specs.declared.task.RunTask.{RunTask}
use Rattle.uxn_arguments.specs.declared.task.Task.{Task}
use Rattle.uxn_arguments.specs.declared.task.Task.TheVariants as tasks
use Rattle.uxn_cli.specs.WorkloadSource.{workload_source}
use Rattle.uxn_cli.specs.RunJob.{Debugging, RunJob, debugging}
use Rattle.uxn_cli.specs.Workload.{workload_text}

-- a run of a ROM with a script, which a debugger may watch
abbrev pub given_debugging : GivenInputs → DebugTask → Debugging
given_debugging given debug = debugging debug given.commands given.program.labels

abbrev pub run_job : RunTask → Option DebugTask → GivenInputs → RunJob
run_job run debug given =
    record { task = run; rom = given.program.rom; script = given.script; debug = option_map (given_debugging given) debug }

-- the summary of a workload: its source has no fault, and is run over 60 frames
abbrev pub accepted_summary : ℕ → Result (List ℕ) Refusal
accepted_summary count =
    then_steps (result_as Faulty (own_answer (workload_source count))) (λ source.
    then_steps (validated_script (codes "frame 60")) (λ script.
    Ok (workload_text source.text (rom_of source.text) script)))

-- what is to be done: a ROM is run, files are written, a text is printed, or machines in a line are run
pub data Work : Type 0 where
  Run : (job : RunJob) → Work
  Write : (texts : List Text) → Work
  Print : (text : List ℕ) → Work
  RunLine : (job : LineJob) → Work

-- the work, and the files that the source includes which it is about
pub record Plan : Type 0 where
  pub work : Work
  pub included : List (List ℕ)

abbrev pub planned : Work → List (List ℕ) → Plan
planned work included = record { work = work; included = included }

-- a run, once its inputs are accepted
abbrev pub run_plan : RunTask → Option DebugTask → GivenInputs → Plan
run_plan run debug given = planned (Run (run_job run debug given)) given.program.included

unfoldable pub run_plan_of : RunTask → Option DebugTask → Inquiry (Result Plan Refusal)
run_plan_of run debug = and_then (run_of run debug) (λ given. Answer (Ok (run_plan run debug given)))

-- machines in a line, where their script has events of the console alone: bytes of input and ends of input (139)
abbrev pub line_job : Machines → LineJob
line_job machines = record { roms = machines.roms; script = machines.script; budget = unwrap_or machines.setup.budget USUAL_BUDGET }

abbrev pub accepted_line : Machines → Result Plan Refusal
accepted_line machines =
    if list_all is_of_console machines.script.events then Ok (planned (RunLine (line_job machines)) []) else Err OtherEvents

unfoldable pub line_plan_of : List ℕ → Inquiry (Result Plan Refusal)
line_plan_of path = and_then (machines_of path) (λ machines. Answer (accepted_line machines))

-- the inputs of a task, and the work that they ask for
abbrev pub plan_of : Task → Inquiry (Result Plan Refusal)
plan_of (tasks.Run run debug) = run_plan_of run debug
plan_of (tasks.Assemble task) = and_then (files_of task) (λ files. Answer (Ok (planned (Write files.texts) files.included)))
plan_of (tasks.Disassemble task) = and_then (disassembly_of task) (λ text. Answer (Ok (planned (Print text) [])))
plan_of (tasks.Generate count) = and_then (Answer (accepted_summary count)) (λ text. Answer (Ok (planned (Print text) [])))
plan_of (tasks.Line path) = line_plan_of path

-- then the outputs: each can be made and is no included file
unfoldable pub work_of : Task → Inquiry (Result Work Refusal)
work_of task = and_then (plan_of task) (λ plan. and_then (free_outputs plan.included (outputs_of task)) (λ free. Answer (Ok plan.work)))

-- words that are refused ask for nothing
abbrev pub inquiry_of : Result Task Refusal → Inquiry (Result Work Refusal)
inquiry_of (Err refusal) = Answer (Err refusal)
inquiry_of (Ok task) = work_of task
