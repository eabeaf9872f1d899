-- The files that a task reads, by their kinds: what each may hold at most, why a longer one is refused, and what is asked for its bytes.
use Rattle.std.specs.Prelude.{ℕ, List, [], None, Result, Ok, Err}
use Rattle.uxn_debugger.specs.declared.command.CommandKind.TheVariants.{LongCommands}
use Rattle.text_lines.specs.declared.script.ScriptKind.TheVariants.{LongScript}
use Rattle.text_lines.specs.declared.setup.SetupKind.TheVariants.{LongSetup}
use Rattle.tal_include.specs.declared.faults.IncludeKind.TheVariants.{Words}
use Rattle.tal_rom.specs.Rom.{rom_limit}
use Rattle.uxn_limits.specs.declared.limits.TheConstants.{TEXT_LIMIT, SYMBOLS_LIMIT}
use Rattle.tal_include.specs.declared.source_fault.SourceFault.{SourceFault}
use Rattle.tal_symbols.specs.declared.stop.SymbolKind.TheVariants.{Long}
use Rattle.tal_words.specs.declared.fault.FaultKind.TheVariants.{LongSource}
use Rattle.uxn_io_traits.specs.Inquiry.{Inquiry, Answer, and_then, file_of}
use Rattle.uxn_io_traits.specs.ByteList.{tight}
use Rattle.uxn_io_traits.specs.declared.trees.FileBytes.{FileBytes}
use Rattle.uxn_io_traits.specs.declared.trees.FileBytes.TheVariants.{Found, Missing as NoFile, TooLong}
use Rattle.uxn_memory.specs.Bytes.{largest_rom}
use Rattle.uxn_cli.specs.declared.task_files.inputs.InputKind.{InputKind}
use Rattle.uxn_cli.specs.declared.task_files.inputs.InputKind.TheVariants as kinds
use Rattle.uxn_cli.specs.declared.task_files.refusal.Refusal.{Refusal}
use Rattle.uxn_cli.specs.declared.task_files.refusal.Refusal.TheVariants.{Missing, Faulty, LongRom, BadSymbols, BadScript, BadCommands, BadSetup}

-- a source that is too long has its fault at its first word, as the empty word
abbrev pub too_long : SourceFault
too_long = record { file = None; line = 1; column = 1; kind = Words LongSource; word = tight [] }

-- the most bytes of a file that are read, and the refusal of a file that has more, by its length
pub record SizeRule : Type 0 where
  pub most : ℕ
  pub refusal : ℕ → Refusal

-- a ROM that is run may fill all banks; one that is disassembled, bank 0
abbrev pub size_rule : InputKind → SizeRule
size_rule kinds.Source = record { most = TEXT_LIMIT; refusal = λ length. Faulty too_long }
size_rule kinds.Rom = record { most = largest_rom; refusal = LongRom }
size_rule kinds.BankRom = record { most = rom_limit; refusal = LongRom }
size_rule kinds.Symbols = record { most = SYMBOLS_LIMIT; refusal = λ length. BadSymbols 0 Long }
size_rule kinds.Script = record { most = TEXT_LIMIT; refusal = λ length. BadScript 1 LongScript }
size_rule kinds.Commands = record { most = TEXT_LIMIT; refusal = λ length. BadCommands 1 LongCommands }
size_rule kinds.Setup = record { most = TEXT_LIMIT; refusal = λ length. BadSetup 1 LongSetup }

-- the bytes of a file that is there (130) and not too long
abbrev pub kind_text : InputKind → List ℕ → FileBytes → Result (List ℕ) Refusal
kind_text kind path (Found text) = Ok text.list
kind_text kind path NoFile = Err (Missing path)
kind_text kind path (TooLong length) = Err ((size_rule kind).refusal length)

-- its bytes are asked for
unfoldable pub text_of : InputKind → List ℕ → Inquiry (Result (List ℕ) Refusal)
text_of kind path = and_then (file_of path (size_rule kind).most) (λ file. Answer (kind_text kind path file))
