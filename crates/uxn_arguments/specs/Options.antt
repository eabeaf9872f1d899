-- The options of each command, in the order of its usage line; what each sets in the task that is requested; and which of the files that
-- a task names it reads, and which it writes (profile).
use Rattle.std.specs.Prelude.{◌≤◌, ℕ, List, [], ◌∷◌, ◌++◌, codes, Option, Some, None}
use Rattle.std.specs.Prelude.{is_some, option_map, option_to_list, ok_or, Result, Ok, ⊤}
use Rattle.std.specs.Option.{option_map_or}
use Rattle.uxn_arguments.specs.Choices.{Choice, choice_of, operand}
use Rattle.uxn_arguments.specs.declared.choice.ChoiceKind.TheVariants.{Switch, Optional, Required}
use Rattle.uxn_arguments.specs.declared.task.AssembleTask.{AssembleTask}
use Rattle.uxn_arguments.specs.declared.task.DebugTask.{DebugTask}
use Rattle.uxn_arguments.specs.declared.task.DisassembleTask.{DisassembleTask}
use Rattle.uxn_arguments.specs.declared.task.RunTask.{RunTask}
use Rattle.uxn_arguments.specs.declared.task.Task.{Task}
use Rattle.uxn_arguments.specs.declared.task.Task.TheVariants.{Run, Assemble, Disassemble, Generate, Line}
use Rattle.uxn_arguments.specs.declared.words.Command.{Command}
use Rattle.uxn_arguments.specs.declared.words.Command.TheVariants as command
use Rattle.uxn_arguments.specs.declared.words.WordFault.{WordFault}
use Rattle.uxn_arguments.specs.declared.words.WordFault.TheVariants.{NotUnderstood}
use Rattle.uxn_arguments.specs.Values.{Values, then_steps, requested_budget, requested_count, required_path, optional_path}

-- ---- how they stand on the command line

-- those of a run
abbrev pub run_choices : List Choice
run_choices =
    choice_of (codes "rom") Switch ∷ choice_of (codes "budget") Optional ∷
    choice_of (codes "script") Optional ∷ choice_of (codes "root") Optional ∷
    choice_of (codes "frames") Optional ∷ choice_of (codes "samples") Optional ∷ choice_of (codes "report") Optional ∷ []

abbrev pub choices_of : Command → List Choice
choices_of command.Play = run_choices
choices_of command.Debug =
    choice_of (codes "commands") Required ∷ choice_of (codes "log") Required ∷ choice_of (codes "symbols") Optional ∷ run_choices
choices_of command.Assemble =
    choice_of (codes "out") Required ∷ choice_of (codes "symbols") Optional ∷ choice_of (codes "listing") Optional ∷ []
choices_of command.Disassemble = choice_of (codes "symbols") Optional ∷ []
choices_of _ = []

-- ---- what they set

-- only `debug` has a debugger
abbrev pub debug_task : Values → Result DebugTask WordFault
debug_task at =
    then_steps (required_path at (codes "commands")) (λ commands.
    then_steps (required_path at (codes "log")) (λ log.
    then_steps (optional_path at (codes "symbols")) (λ symbols.
    Ok (record { commands = commands; log = log; symbols = symbols }))))

abbrev pub debugger_of : Command → Values → Result (Option DebugTask) WordFault
debugger_of command.Debug at = then_steps (debug_task at) (λ debug. Ok (Some debug))
debugger_of _ at = Ok None

abbrev pub run_task : Values → ℕ → List ℕ → Result RunTask WordFault
run_task at budget file =
    then_steps (optional_path at (codes "script")) (λ script.
    then_steps (optional_path at (codes "root")) (λ root.
    then_steps (optional_path at (codes "frames")) (λ frames.
    then_steps (optional_path at (codes "samples")) (λ samples.
    then_steps (optional_path at (codes "report")) (λ report.
    Ok (record {
      file = file;
      rom = is_some (at (codes "rom"));
      budget = budget;
      script = script;
      root = root;
      frames = frames;
      samples = samples;
      report = report;
    }))))))

abbrev pub requested_run : Command → Values → Result Task WordFault
requested_run c at =
    then_steps (ok_or (requested_budget (at (codes "budget"))) NotUnderstood) (λ budget.
    then_steps (required_path at operand) (λ file.
    then_steps (debugger_of c at) (λ debug.
    then_steps (run_task at budget file) (λ run.
    Ok (Run run debug)))))

abbrev pub assemble_task : Values → Result AssembleTask WordFault
assemble_task at =
    then_steps (required_path at operand) (λ file.
    then_steps (required_path at (codes "out")) (λ out.
    then_steps (optional_path at (codes "symbols")) (λ symbols.
    then_steps (optional_path at (codes "listing")) (λ listing.
    Ok (record { file = file; out = out; symbols = symbols; listing = listing })))))

abbrev pub disassemble_task : Values → Result DisassembleTask WordFault
disassemble_task at =
    then_steps (required_path at operand) (λ file.
    then_steps (optional_path at (codes "symbols")) (λ symbols.
    Ok (record { file = file; symbols = symbols })))

abbrev pub requested_task : Command → Values → Result Task WordFault
requested_task command.Assemble at = then_steps (assemble_task at) (λ task. Ok (Assemble task))
requested_task command.Disassemble at = then_steps (disassemble_task at) (λ task. Ok (Disassemble task))
requested_task command.Generate at = then_steps (ok_or (requested_count (at operand)) NotUnderstood) (λ count. Ok (Generate count))
requested_task command.Line at = then_steps (required_path at operand) (λ file. Ok (Line file))
requested_task run at = requested_run run at

-- a run has a budget of at least one instruction
abbrev pub HasBudget : Task → Type 0
HasBudget (Run run debug) = 1 ≤ run.budget
HasBudget _ = ⊤

-- ---- the files that a task names

-- those that it reads
abbrev pub debug_inputs : Option DebugTask → List (List ℕ)
debug_inputs debug = option_map_or (λ debug. debug.commands ∷ option_to_list debug.symbols) debug []

abbrev pub inputs_of : Task → List (List ℕ)
inputs_of (Run run debug) = run.file ∷ debug_inputs debug ++ option_to_list run.script
inputs_of (Assemble task) = task.file ∷ []
inputs_of (Disassemble task) = task.file ∷ option_to_list task.symbols
inputs_of (Generate count) = []
inputs_of (Line file) = file ∷ []

-- those that it writes, in order
abbrev pub log_of : Option DebugTask → Option (List ℕ)
log_of debug = option_map (λ debug. debug.log) debug

abbrev pub run_outputs : RunTask → Option DebugTask → List (List ℕ)
run_outputs run debug = option_to_list (log_of debug) ++ option_to_list run.frames ++ option_to_list run.samples ++ option_to_list run.report

abbrev pub outputs_of : Task → List (List ℕ)
outputs_of (Run run debug) = run_outputs run debug
outputs_of (Assemble task) = task.out ∷ option_to_list task.symbols ++ option_to_list task.listing
outputs_of _ = []

-- the folder of a program's own files
abbrev pub root_of : Task → Option (List ℕ)
root_of (Run run debug) = run.root
root_of _ = None
