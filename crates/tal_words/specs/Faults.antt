-- What can be wrong with a source, and which fault is the first (profile: the kinds, their order and the phases).
use Rattle.std.specs.Prelude.{◌≡◌, ℕ, Bool, if◌then◌else◌, List, [], ◌∷◌, codes, slice_get, Option, None, Some}
use Rattle.std.specs.Prelude.{Result, Ok, Err}
use Rattle.std.specs.Option.{option_map, option_or}
use Rattle.tal_words.specs.declared.span.Word.{Word}
use Rattle.tal_words.specs.declared.fault.Fault.{Fault}
use Rattle.tal_words.specs.declared.fault.FaultKind.{FaultKind}
use Rattle.tal_words.specs.declared.fault.FaultKind.TheVariants.{LongSource}
use Rattle.tal_words.specs.declared.fault.FaultKind.TheVariants as kind
use Rattle.tal_words.specs.declared.fault.AsmStop.{AsmStop}
use Rattle.tal_words.specs.declared.fault.AsmStop.TheVariants.{Refused, NoMemory}
use Rattle.tal_words.specs.Source.{bytes_run_at}

-- the name of a kind, as it is printed
abbrev pub kind_name : FaultKind → List ℕ
kind_name kind.OpenComment = codes "OpenComment"
kind_name kind.LongWord = codes "LongWord"
kind_name kind.StrayParen = codes "StrayParen"
kind_name kind.BadNumber = codes "BadNumber"
kind_name kind.BadName = codes "BadName"
kind_name kind.NoName = codes "NoName"
kind_name kind.IncludeHere = codes "IncludeHere"
kind_name kind.LongSource = codes "LongSource"
kind_name kind.MacroTwice = codes "MacroTwice"
kind_name kind.MacroBody = codes "MacroBody"
kind_name kind.MacroDeep = codes "MacroDeep"
kind_name kind.ManyWords = codes "ManyWords"
kind_name kind.StrayBrace = codes "StrayBrace"
kind_name kind.OpenBrace = codes "OpenBrace"
kind_name kind.LabelTwice = codes "LabelTwice"
kind_name kind.ZeroPage = codes "ZeroPage"
kind_name kind.Outside = codes "Outside"
kind_name kind.Rewind = codes "Rewind"
kind_name kind.UnknownName = codes "UnknownName"
kind_name kind.TooFar = codes "TooFar"

-- a word of a phase: where its faults are reported, and each kind of fault that it has, in order
pub record Validated : Type 0 where
  pub origin : Word
  pub kinds : List FaultKind

-- the kind, where the test says so
abbrev pub when : Bool → FaultKind → List FaultKind
when test kind = if test then kind ∷ [] else []

-- a fault of this kind at a word
abbrev pub fault_at : Word → FaultKind → Fault
fault_at word kind = record { at = word.span.start; line = word.line; column = word.column; kind = kind }

-- the first fault of a phase: at its first word that has a fault, of the first kind there
abbrev pub phase_fault : List Validated → Option Fault
phase_fault [] = None
phase_fault (word ∷ words) = option_or (option_map (fault_at word.origin) (slice_get word.kinds 0)) (phase_fault words)

-- a pass answers its value where it has no fault, and else its first fault, unless memory runs out
abbrev pub Gives : {X Y : Type 0} → (X → Y) → Result X AsmStop → Option Fault → Y → Type 0
Gives view (Ok x) fault value = (fault ≡ None) × (view x ≡ value)
Gives view (Err (Refused found)) fault value = fault ≡ Some found
Gives view (Err NoMemory) fault value = Unit {0}

-- the bytes of the faulty word: the token that begins at the fault, and none for a source that is too long
abbrev pub text_of_kind : FaultKind → List ℕ → List ℕ
text_of_kind LongSource text = []
text_of_kind _ text = text

abbrev pub fault_text : List ℕ → Fault → List ℕ
fault_text source fault = text_of_kind fault.kind (bytes_run_at source fault.at)
