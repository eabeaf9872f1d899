-- No refusal of an input is one that the words alone decide; and the files that are written out of a source are the outputs of a task.
use Rattle.uxn_cli.proofs.Common.{Err, List, Ok, Option, Some, None, Result, [], arith, map, ℕ, ◌∷◌, ◌++◌, ◌≡◌, ◌≤◌, common_steps, map-append}
use Rattle.uxn_cli.proofs.Common.{Bool, true, false, outputs_of, RunTask, DebugTask, AssembleTask, DisassembleTask, Assemble, SourceFiles}
use Rattle.uxn_cli.proofs.Common.{output_texts, Text, text_paths, Refusal, Label, Sourced, Inquiry, Answer, and_then, gather, free_outputs}
use Rattle.uxn_cli.proofs.Common.{rules, then_steps}
use Rattle.uxn_cli.specs.Accepted.{validated_script}
unfoldable use Rattle.uxn_cli.proofs.Common.{text_of, source_of, program_of, symbols_of, script_of, commands_of, setup_of}
unfoldable use Rattle.uxn_cli.proofs.Common.{machine_of, run_of, files_of, disassembly_of, machines_of, free_output}
unfoldable use Rattle.uxn_cli.proofs.Common.{source_inquiry}
use Rattle.tal_include.specs.declared.source_fault.SourceFault.{SourceFault}
use Rattle.uxn_io_traits.specs.Along.{Always}
use Rattle.uxn_io_traits.specs.Inquiry.{Ask, unless_refused, result_as}
use Rattle.uxn_io_traits.specs.InquiryLaws.{always-bind}
use Rattle.uxn_cli.specs.Statuses.{status_of}
use Rattle.uxn_cli.specs.declared.task_files.inputs.InputKind.{InputKind}
use Rattle.uxn_cli.specs.declared.task_files.inputs.InputKind.TheVariants as kinds
use Rattle.uxn_cli.specs.declared.task_files.refusal.Refusal.TheVariants.{Faulty}

-- a step gives a value of which this holds, or a refusal that the words alone do not decide
abbrev pub IsOfInputs : {A : Type 0} → (A → Type 0) → Result A Refusal → Type 0
IsOfInputs P (Ok value) = P value
IsOfInputs P (Err refusal) = 130 ≤ status_of refusal

-- so does an inquiry, whatever is replied
abbrev pub AsksFor : {A : Type 0} → (A → Type 0) → Inquiry (Result A Refusal) → Type 0
AsksFor P inquiry = Always (IsOfInputs P) inquiry

pub asks-then : {A B : Type 0} (P : A → Type 0) (Q : B → Type 0) (inquiry : Inquiry (Result A Refusal)) (next : A → Inquiry (Result B Refusal))
    → AsksFor P inquiry → ((value : A) → P value → AsksFor Q (next value)) → AsksFor Q (and_then inquiry next)
asks-then {A} {B} P Q inquiry next given more = always-bind (IsOfInputs P) (IsOfInputs Q) inquiry (unless_refused next) given go
  where
    go : (said : Result A Refusal) → IsOfInputs P said → Always (IsOfInputs Q) (unless_refused next said)
    go (Ok value) holds = more value holds
    go (Err refusal) other = other

-- ---- what is read

abbrev pub IsAsked : {A : Type 0} → Inquiry (Result A Refusal) → Type 0
IsAsked inquiry = AsksFor (λ value. Unit {0}) inquiry

pub asked-then : {A B : Type 0} (Q : B → Type 0) (inquiry : Inquiry (Result A Refusal)) (next : A → Inquiry (Result B Refusal))
    → IsAsked inquiry → ((value : A) → AsksFor Q (next value)) → AsksFor Q (and_then inquiry next)
asked-then Q inquiry next asked more = asks-then (λ value. Unit {0}) Q inquiry next asked (λ value _. more value)

asked-all : {A : Type 0} (P : A → Type 0) (inquiry : Inquiry A) → ((value : A) → P value) → Always P inquiry
asked-all P (Answer value) all = all value
asked-all P (Ask question more) all = λ reply is. asked-all P (more reply) all

pub text-asked : (kind : InputKind) (path : List ℕ) → IsAsked (text_of kind path)
unfolding text_of
text-asked kind path = λ reply is. grind arith

pub then-given : {A B : Type 0} (Q : B → Type 0) (said : Result A Refusal) (next : A → Result B Refusal) → IsOfInputs (λ value. Unit {0}) said
    → ((value : A) → IsOfInputs Q (next value)) → IsOfInputs Q (then_steps said next)
then-given Q (Ok value) next given more = more value
then-given Q (Err refusal) next given more = given

pub source-given : (said : Result Sourced SourceFault) → IsOfInputs (λ value. Unit {0}) (result_as Faulty said)
source-given said = grind arith

pub script-given : (text : List ℕ) → IsOfInputs (λ value. Unit {0}) (validated_script text)
script-given text = grind arith

pub source-asked : (path : List ℕ) → IsAsked (source_of path)
unfolding source_of
source-asked path =
    asked-then _ (text_of kinds.Source path) _ (text-asked kinds.Source path)
    (λ text. always-bind (λ said. Unit {0}) (IsOfInputs (λ value. Unit {0})) (source_inquiry path text) (λ said. Answer (result_as Faulty said))
    (asked-all (λ said. Unit {0}) (source_inquiry path text) (λ said. tt)) (λ said _. source-given said))

program-asked : (rom : Bool) (path : List ℕ) → IsAsked (program_of rom path)
unfolding program_of
program-asked true path = asked-then _ (text_of kinds.Rom path) _ (text-asked kinds.Rom path) (λ rom. tt)
program-asked false path = asked-then _ (source_of path) _ (source-asked path) (λ source. tt)

symbols-asked : (labels : List Label) (path : Option (List ℕ)) → IsAsked (symbols_of labels path)
unfolding symbols_of
symbols-asked labels None = tt
symbols-asked labels (Some path) = asked-then _ (text_of kinds.Symbols path) _ (text-asked kinds.Symbols path) (λ text. grind arith)

script-asked : (path : Option (List ℕ)) → IsAsked (script_of path)
unfolding script_of
script-asked None = script-given []
script-asked (Some path) = asked-then _ (text_of kinds.Script path) _ (text-asked kinds.Script path) (λ text. script-given text)

commands-asked : (labels : List Label) (path : Option (List ℕ)) → IsAsked (commands_of labels path)
unfolding commands_of
commands-asked labels None = tt
commands-asked labels (Some path) = asked-then _ (text_of kinds.Commands path) _ (text-asked kinds.Commands path) (λ text. grind arith)

machine-asked : (path : List ℕ) → IsAsked (machine_of path)
unfolding machine_of
machine-asked path = asked-then _ (source_of path) _ (source-asked path) (λ source. tt)

gather-asked : {A P : Type 0} (ask : P → Inquiry (Result A Refusal)) (done : List A) (paths : List P) → ((path : P) → IsAsked (ask path))
    → IsAsked (gather ask done paths)
gather-asked ask done [] each = tt
gather-asked ask done (path ∷ paths) each = asked-then _ (ask path) _ (each path) (λ value. gather-asked ask (done ++ value ∷ []) paths each)

-- ---- what a command is given

pub run-asked : (run : RunTask) (debug : Option DebugTask) → IsAsked (run_of run debug)
unfolding run_of
run-asked = search (rules, asked-then, program-asked, symbols-asked, script-asked, commands-asked) depth 9

pub disassembly-asked : (task : DisassembleTask) → IsAsked (disassembly_of task)
unfolding disassembly_of
disassembly-asked task = asked-then _ _ _ (text-asked _ _) (λ rom. asked-then _ _ _ (symbols-asked _ _) (λ labels. tt))

setup-asked : (path : List ℕ) → IsAsked (setup_of path)
unfolding setup_of
setup-asked path = asked-then _ (text_of kinds.Setup path) _ (text-asked kinds.Setup path) (λ text. grind arith)

pub machines-asked : (path : List ℕ) → IsAsked (machines_of path)
unfolding machines_of
machines-asked = search (rules, asked-then, setup-asked, gather-asked, machine-asked, script-asked)

-- the files that are written out of a source are the outputs of its task
paths-output_texts : (task : AssembleTask) (source : List ℕ) → map (λ (t : Text). t.path) (output_texts task source) ≡ outputs_of (Assemble task)
paths-output_texts task source = grind (arith, common_steps, map-append)

pub files-asked : (task : AssembleTask) → AsksFor (λ (files : SourceFiles). text_paths files.texts ≡ outputs_of (Assemble task)) (files_of task)
unfolding files_of
files-asked task = asked-then _ _ _ (source-asked task.file) (λ source. paths-output_texts task source.text)

pub outputs-asked : (included paths : List (List ℕ)) → IsAsked (free_outputs included paths)
unfolding free_output
outputs-asked included [] = tt
outputs-asked included (path ∷ paths) = asked-then _ (free_output included path) _ (λ can _. grind arith) (λ free. outputs-asked included paths)
