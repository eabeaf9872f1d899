-- What the inputs of a command are over known contents.
use Rattle.uxn_cli.proofs.Common.{◌≡◌, ℕ, ◌∙◌, List, [], Option, Some, None, Ok, Err, Result, ap, Bool, true, false, if◌then◌else◌}
use Rattle.uxn_cli.proofs.Common.{Nodes, Label, RunTask, DebugTask, AssembleTask, Run, Assemble, Refusal, answer_in}
unfoldable use Rattle.uxn_cli.proofs.Common.{run_of, program_of, symbols_of, script_of, commands_of, source_of, files_of}
use Rattle.uxn_io_traits.specs.InquiryLaws.{answered, answer-more, answer-refused}
use Rattle.uxn_cli.specs.Accepted.{GivenInputs, first_source}

pub same_ok : {A : Type 0} (one other : A) → ◌≡◌ {A = Result A Refusal} (Ok one) (Ok other) → one ≡ other
same_ok one other is = cc

-- what `play` is given of what `debug` is given: all but the labels of a symbol file, and the commands
abbrev pub played : GivenInputs → List Label → GivenInputs
played given labels = record given { program = record given.program { labels = labels }; commands = [] }

pub plays-given : (nodes : Nodes) (run : RunTask) (debug : DebugTask) (given : GivenInputs) → answer_in nodes (run_of run (Some debug)) ≡ Ok given
    → (labels : List Label) × (answer_in nodes (run_of run None) ≡ Ok (played given labels))
unfolding run_of symbols_of commands_of
plays-given nodes run debug given is =
    let program = answered nodes (program_of run.rom run.file) _ given is in
    let symbols = answered nodes (symbols_of program.value.labels debug.symbols) _ given program.rest in
    let script = answered nodes (script_of run.script) _ given symbols.rest in
    let commands = answered nodes (commands_of symbols.value (Some debug.commands)) _ given script.rest in (
      program.value.labels,
      answer-more nodes (program_of run.rom run.file) _ program.value program.first
          ∙ answer-more nodes (script_of run.script) _ script.value script.first
          ∙ ap (λ (g : GivenInputs). Ok (played g program.value.labels)) (same_ok _ given commands.rest),
    )

-- what is refused for the source that is read first
module _ (path : List ℕ) (nodes : Nodes) (refusal : Refusal) (refused : answer_in nodes (source_of path) ≡ Err refusal) where
  program-refused : (rom : Bool) (file : List ℕ) → (if rom then None else Some file) ≡ Some path → answer_in nodes (program_of rom file) ≡ Err refusal
  unfolding program_of
  program-refused true file first = absurd cc
  program-refused false file first = answer-refused nodes (source_of file) _ refusal (cc)

  pub run-refused : (run : RunTask) (debug : Option DebugTask) → first_source (Run run debug) ≡ Some path
      → answer_in nodes (run_of run debug) ≡ Err refusal
  unfolding run_of
  run-refused run debug first = answer-refused nodes (program_of run.rom run.file) _ refusal (program-refused run.rom run.file first)

  pub files-refused : (task : AssembleTask) → first_source (Assemble task) ≡ Some path → answer_in nodes (files_of task) ≡ Err refusal
  unfolding files_of
  files-refused task first = answer-refused nodes (source_of task.file) _ refusal (cc)
