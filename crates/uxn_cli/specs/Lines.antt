-- The one line of each refusal.
use Rattle.std.specs.Prelude.{ℕ, List, [], ◌∷◌, ◌++◌, codes, decimal}
use Rattle.tal_include.specs.Lines.{message_of}
use Rattle.tal_symbols.specs.Answers.{symbol_kind_name}
use Rattle.text_lines.specs.ScriptKinds.{script_kind_name}
use Rattle.uxn_debugger.specs.CommandKinds.{command_kind_name}
use Rattle.text_lines.specs.SetupKinds.{setup_kind_name}
use Rattle.uxn_cli.specs.declared.task_files.refusal.Refusal.{Refusal}
use Rattle.uxn_cli.specs.declared.task_files.refusal.Refusal.TheVariants.{NotUnderstood, NoPath, NoOutput, Missing, Faulty, LongRom}
use Rattle.uxn_cli.specs.declared.task_files.refusal.Refusal.TheVariants.{BadSymbols, BadScript, BadCommands, BadSetup, OtherEvents}

-- a text and a newline
abbrev pub line : List ℕ → List ℕ
line text = text ++ 10 ∷ []

abbrev pub refusal_text : Refusal → List ℕ
refusal_text NotUnderstood = codes "words: not understood"
refusal_text (NoPath word) = codes "path: " ++ word.list
refusal_text (NoOutput path) = codes "output: " ++ path
refusal_text (Missing path) = codes "missing: " ++ path
refusal_text (Faulty fault) = message_of fault
refusal_text (LongRom length) = codes "rom: " ++ decimal length ++ codes " bytes"
refusal_text (BadSymbols entry kind) = codes "symbols " ++ decimal entry ++ codes ": " ++ symbol_kind_name kind
refusal_text (BadScript number kind) = codes "script " ++ decimal number ++ codes ": " ++ script_kind_name kind
refusal_text (BadCommands number kind) = codes "commands " ++ decimal number ++ codes ": " ++ command_kind_name kind
refusal_text (BadSetup number kind) = codes "setup " ++ decimal number ++ codes ": " ++ setup_kind_name kind
refusal_text OtherEvents = codes "setup 0: Events"

abbrev pub refusal_line : Refusal → List ℕ
refusal_line refusal = line (refusal_text refusal)
