-- What the code holds of inputs that are accepted, as the definitions see it.
use Rattle.std.specs.Prelude.{◌≡◌, ℕ, ◌≤◌, List, length, All}
use Rattle.text_lines.specs.ScriptHeld.{bytes_in}
use Rattle.tal_include.specs.Sources.{SourceView}
use Rattle.uxn_io_traits.specs.ByteList.{ByteList}
use Rattle.uxn_memory.specs.Bytes.{largest_rom}
use Rattle.uxn_cli.specs.declared.task_files.assembling.Written.{Written}
use Rattle.uxn_cli.specs.declared.task_files.machines.LineInputs.{LineInputs}
use Rattle.uxn_cli.specs.declared.task_files.program.Program.{Program}
use Rattle.uxn_cli.specs.declared.task_files.run_inputs.RunInputs.{RunInputs}
use Rattle.uxn_cli.specs.Accepted.{Loaded, GivenInputs, SourceFiles, Machines}
use Rattle.uxn_cli.specs.Outputs.{observed_texts}

-- a program that was loaded, and what is loaded of a source
abbrev pub model_of_program : Program → Loaded
model_of_program program = record { rom = program.rom.list; labels = program.labels.items; included = program.included.items }

abbrev pub model_of_source : SourceView → Loaded
model_of_source source = record { rom = source.assembly.rom; labels = source.assembly.labels; included = source.paths }

-- all that a run is given
abbrev pub model_of_inputs : RunInputs → GivenInputs
model_of_inputs inputs = record {
  program = model_of_program inputs.program;
  script = inputs.script;
  commands = inputs.commands.items;
}

-- the files that are written out of a source
abbrev pub model_of_files : Written → SourceFiles
model_of_files written = record { texts = observed_texts written.outputs.items; included = written.included.items }

-- the machines of a setup
abbrev pub model_of_machines : LineInputs → Machines
model_of_machines inputs = record { setup = inputs.setup; roms = bytes_in inputs.roms.items; script = inputs.script }

-- 2 to 8 machines, each with a ROM that fits
pub record AreMachines (paths : List (List ℕ)) (roms : List ByteList) : Type 0 where
  pub count : length roms ≡ length paths
  pub least : 2 ≤ length roms
  pub most : length roms ≤ 8
  pub fit : All (λ rom. length rom.list ≤ largest_rom) roms
