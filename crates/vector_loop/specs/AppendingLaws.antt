-- What holds of each change that a run makes; so at a path outside the root part a run only adds bytes to a file.
use Rattle.std.specs.Prelude.{ℕ, List, Option, Some, None}
use Rattle.std.specs.List.{AllByRecursion}
use Rattle.uxn_io_traits.specs.AtPath.{Spares, Adds}
use Rattle.uxn_io_traits.specs.EachLaws.{each-append, each-map, each-so}
use Rattle.uxn_io_traits.specs.Outside.{Change, ToFile}
use Rattle.uxn_io_traits.specs.PrefixLaws.{spares-adds}
use Rattle.text_lines.specs.Scripts.{ScriptView}
use Rattle.varvara_bus.specs.Touching.{IsSeparateFrom, instruction-spares}
use Rattle.vector_loop.specs.declared.output.Outputs.{Outputs}
use Rattle.vector_loop.specs.State.{State}
use Rattle.vector_loop.specs.Trace.{Trace}
use Rattle.vector_loop.specs.Outputs.{appended_to}
use Rattle.vector_loop.specs.Run.{run}
use Rattle.vector_loop.specs.RunLaws.{HoldsOn, run-holds}

-- this holds of each change of a trace, and a path stands apart still
abbrev pub KeepsAppending : (Change → Type 0) → List ℕ → Trace → Type 0
KeepsAppending P path trace = AllByRecursion P trace.changes × IsSeparateFrom path trace.last.devices

-- what holds of each change that leaves the path alone, and of each change of an output, holds of each change of a run
module _ (path : List ℕ) (P : Change → Type 0) (spares : (change : Change) → Spares path change → P change)
    (outputs : Outputs) (frames : (bytes : List ℕ) → AllByRecursion P (appended_to outputs.frames bytes))
    (samples : (bytes : List ℕ) → AllByRecursion P (appended_to outputs.samples bytes)) where
  part-keeps : HoldsOn outputs (λ state part. IsSeparateFrom path state.devices → KeepsAppending P path part)
  part-keeps = record {
    nothing = λ state apart. (tt, apart);
    one = λ state apart. let done = instruction-spares path state.devices state.core apart in (each-so (Spares path) P _ spares done.0, done.1);
    frames = λ bytes state apart. (frames bytes, apart);
    samples = λ bytes state apart. (samples bytes, apart);
    then = λ state first rest one more apart.
        let begun = one apart in
        let later = more first.last begun.1 in
        (each-append P first.changes (rest first.last).changes begun.0 later.0, later.1);
    alike = λ before now part alike keeps apart. keeps (rw (alike.root, alike.first, alike.second) apart);
  }

  pub run-keeps : (budget : ℕ) (script : ScriptView) (state : State) → IsSeparateFrom path state.devices
      → AllByRecursion P (run budget outputs script state).changes
  run-keeps budget script state apart =
      (run-holds outputs (λ state part. IsSeparateFrom path state.devices → KeepsAppending P path part) part-keeps budget script state apart).0

-- bytes that are appended to an output add to the file at a path, or leave it alone
appended-adds : (path : List ℕ) (output : Option (List ℕ)) (bytes : List ℕ) → AllByRecursion (Adds path) (appended_to output bytes)
appended-adds path None bytes = tt
appended-adds path (Some file) bytes = each-map (Adds path) (λ byte. ToFile file byte) bytes (λ byte. tt)

-- at a path outside the root part a run makes nothing and takes nothing away: it adds bytes to the file that is there, or leaves it alone
abbrev pub AppendsOnly : Type 0
AppendsOnly = (path : List ℕ) (budget : ℕ) (outputs : Outputs) (script : ScriptView) (state : State) → IsSeparateFrom path state.devices
    → AllByRecursion (Adds path) (run budget outputs script state).changes

pub run-adds : AppendsOnly
run-adds path budget outputs script state apart =
    run-keeps path (Adds path) (spares-adds path) outputs (appended-adds path outputs.frames) (appended-adds path outputs.samples) budget
    script state apart
