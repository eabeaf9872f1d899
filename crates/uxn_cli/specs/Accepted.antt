-- What is asked for each input of a task, and what it says; then for all of them, in the order of work: the first that is not accepted
-- counts, and nothing is asked behind it.
use Rattle.std.specs.Prelude.{ℕ, Bool, true, false, not, ◌&&◌, if◌then◌else◌, List, [], ◌∷◌}
use Rattle.std.specs.Prelude.{◌++◌, Option, Some, None, option_map, option_and_then}
use Rattle.std.specs.Prelude.{Result, Ok, Err}
use Rattle.std.specs.List.{list_any}
use Rattle.std.specs.Str.{bytes_eq}
use Rattle.uxn_debugger.specs.declared.command.DebugCommand.{DebugCommand}
use Rattle.uxn_debugger.specs.CommandTexts.{commands_of_text}
use Rattle.text_lines.specs.Scripts.{ScriptView, script_of as script_in}
use Rattle.text_lines.specs.Setups.{SetupView, setup_of as setup_in}
use Rattle.tal_listing.specs.Disassembly.{disassembly}
use Rattle.tal_listing.specs.Listing.{listing_of}
use Rattle.tal_rom.specs.Assembly.{rom_of, layout}
use Rattle.tal_rom.specs.Program.{Program}
use Rattle.tal_include.specs.Sources.{Sourced, source_inquiry}
use Rattle.tal_symbols.specs.Reading.{symbols_in}
use Rattle.tal_symbols.specs.SymbolFile.{symbol_file}
use Rattle.tal_words.specs.declared.name.Label.{Label}
use Rattle.uxn_arguments.specs.declared.task.AssembleTask.{AssembleTask}
use Rattle.uxn_arguments.specs.declared.task.DebugTask.{DebugTask}
use Rattle.uxn_arguments.specs.declared.task.DisassembleTask.{DisassembleTask}
use Rattle.uxn_arguments.specs.declared.task.RunTask.{RunTask}
use Rattle.uxn_arguments.specs.declared.task.Task.{Task}
use Rattle.uxn_arguments.specs.declared.task.Task.TheVariants.{Run, Assemble}
use Rattle.uxn_io_traits.specs.Inquiry.{Inquiry, Answer, and_then, gather, creatable, refused_as, result_as}
use Rattle.uxn_cli.specs.declared.task_files.inputs.InputKind.TheVariants as kinds
use Rattle.uxn_cli.specs.declared.task_files.refusal.Refusal.{Refusal}
use Rattle.uxn_cli.specs.declared.task_files.refusal.Refusal.TheVariants.{Faulty, BadSymbols, BadScript, BadCommands, BadSetup, NoOutput}
use Rattle.uxn_cli.specs.Inputs.{text_of}
use Rattle.uxn_cli.specs.World.{Text, requested_output}

-- a source that has no fault, nor has a file that it includes (131): the text that is assembled, and the paths of the files that it
-- includes
unfoldable pub source_of : List ℕ → Inquiry (Result Sourced Refusal)
source_of path = and_then (text_of kinds.Source path) (λ text. refused_as Faulty (source_inquiry path text))

-- what is run: the ROM, the labels of its source and the files that this includes
pub record Loaded : Type 0 where
  pub rom : List ℕ
  pub labels : List Label
  pub included : List (List ℕ)

-- a ROM file has neither labels nor a source
abbrev pub loaded_rom : List ℕ → Loaded
loaded_rom rom = record { rom = rom; labels = []; included = [] }

abbrev pub loaded_source : Sourced → Loaded
loaded_source source = record { rom = rom_of source.text; labels = (layout source.text).labels; included = source.paths }

-- the ROM that a file holds, or that of the source in it
unfoldable pub program_of : Bool → List ℕ → Inquiry (Result Loaded Refusal)
program_of true path = and_then (text_of kinds.Rom path) (λ rom. Answer (Ok (loaded_rom rom)))
program_of false path = and_then (source_of path) (λ source. Answer (Ok (loaded_source source)))

-- a script that has no fault (132)
abbrev pub validated_script : List ℕ → Result ScriptView Refusal
validated_script text = result_as (λ fault. BadScript fault.0 fault.1) (script_in text)

-- without a file it is that of an empty text
unfoldable pub script_of : Option (List ℕ) → Inquiry (Result ScriptView Refusal)
script_of None = Answer (validated_script [])
script_of (Some path) = and_then (text_of kinds.Script path) (λ text. Answer (validated_script text))

-- the labels of a symbol file that has no fault (134)
abbrev pub validated_symbols : List ℕ → Result (List Label) Refusal
validated_symbols text = result_as (λ bad. BadSymbols bad.entry bad.kind) (symbols_in text)

-- without a file the labels stay
unfoldable pub symbols_of : List Label → Option (List ℕ) → Inquiry (Result (List Label) Refusal)
symbols_of labels None = Answer (Ok labels)
symbols_of labels (Some path) = and_then (text_of kinds.Symbols path) (λ text. Answer (validated_symbols text))

-- commands that have no fault (133)
abbrev pub validated_commands : List Label → List ℕ → Result (List DebugCommand) Refusal
validated_commands labels text = result_as (λ fault. BadCommands fault.0 fault.1) (commands_of_text labels text)

-- without a file there are none
unfoldable pub commands_of : List Label → Option (List ℕ) → Inquiry (Result (List DebugCommand) Refusal)
commands_of labels None = Answer (Ok [])
commands_of labels (Some path) = and_then (text_of kinds.Commands path) (λ text. Answer (validated_commands labels text))

-- a setup that has no fault (139)
abbrev pub said_setup : List ℕ → Result SetupView Refusal
said_setup text = result_as (λ fault. BadSetup fault.0 fault.1) (setup_in text)

unfoldable pub setup_of : List ℕ → Inquiry (Result SetupView Refusal)
setup_of path = and_then (text_of kinds.Setup path) (λ text. Answer (said_setup text))

-- the ROM of a machine's source
unfoldable pub machine_of : List ℕ → Inquiry (Result (List ℕ) Refusal)
machine_of path = and_then (source_of path) (λ source. Answer (Ok (rom_of source.text)))

-- ---- the inputs of each command, in the order of work

-- what a run is given: its program, its script, and the commands of a debugger
pub record GivenInputs : Type 0 where
  pub program : Loaded
  pub script : ScriptView
  pub commands : List DebugCommand

-- `play`, and `debug` with a debugger: a program has the labels of a symbol file in place of its own, where one is given
unfoldable pub run_of : RunTask → Option DebugTask → Inquiry (Result GivenInputs Refusal)
run_of run debug =
    and_then (program_of run.rom run.file) (λ program.
    and_then (symbols_of program.labels (option_and_then (λ debug. debug.symbols) debug)) (λ labels.
    and_then (script_of run.script) (λ script.
    and_then (commands_of labels (option_map (λ debug. debug.commands) debug)) (λ commands.
    Answer (Ok (record { program = record program { labels = labels }; script = script; commands = commands }))))))

-- `asm`: a source's ROM, symbols and listing, in the files that are requested; with the files that it includes
abbrev pub program_in : List ℕ → Program
program_in source = record { rom = rom_of source; places = (layout source).words; labels = (layout source).labels }

abbrev pub output_texts : AssembleTask → List ℕ → List Text
output_texts task source =
    requested_output (Some task.out) (rom_of source) ++ requested_output task.symbols (symbol_file (layout source).labels)
    ++ requested_output task.listing (listing_of source (program_in source))

pub record SourceFiles : Type 0 where
  pub texts : List Text
  pub included : List (List ℕ)

unfoldable pub files_of : AssembleTask → Inquiry (Result SourceFiles Refusal)
files_of task = and_then (source_of task.file) (λ source. Answer (Ok (record { texts = output_texts task source.text; included = source.paths })))

-- `dis`: the disassembly of a ROM, with the labels of a symbol file
unfoldable pub disassembly_of : DisassembleTask → Inquiry (Result (List ℕ) Refusal)
disassembly_of task =
    and_then (text_of kinds.BankRom task.file) (λ rom.
    and_then (symbols_of [] task.symbols) (λ labels.
    Answer (Ok (disassembly rom labels))))

-- `line`: the machines of a setup: their ROMs, and the script of the first one
pub record Machines : Type 0 where
  pub setup : SetupView
  pub roms : List (List ℕ)
  pub script : ScriptView

unfoldable pub machines_of : List ℕ → Inquiry (Result Machines Refusal)
machines_of path =
    and_then (setup_of path) (λ setup.
    and_then (gather machine_of [] setup.sources) (λ roms.
    and_then (script_of setup.script) (λ script.
    Answer (Ok (record { setup = setup; roms = roms; script = script })))))

-- the source that a task reads first
abbrev pub first_source : Task → Option (List ℕ)
first_source (Run run debug) = if run.rom then None else Some run.file
first_source (Assemble task) = Some task.file
first_source _ = None

-- ---- then the outputs, in order: each can be made and is no included file (135)

abbrev pub said_output : List (List ℕ) → List ℕ → Bool → Result (Unit {0}) Refusal
said_output included path can = if can && not (list_any (bytes_eq path) included) then Ok tt else Err (NoOutput path)

unfoldable pub free_output : List (List ℕ) → List ℕ → Inquiry (Result (Unit {0}) Refusal)
free_output included path = and_then (creatable path) (λ can. Answer (said_output included path can))

abbrev pub free_outputs : List (List ℕ) → List (List ℕ) → Inquiry (Result (Unit {0}) Refusal)
free_outputs included [] = Answer (Ok tt)
free_outputs included (path ∷ rest) = and_then (free_output included path) (λ free. free_outputs included rest)
