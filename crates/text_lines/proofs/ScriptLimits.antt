-- What is pushed keeps the limits of scripts.
use Rattle.std.proofs.lemmas.Grind.{common_steps}
use Rattle.std.proofs.Common.{◌≡◌, ◌<◌, ◌+◌, ◌-◌, ℕ, List, [], ◌∷◌, ◌++◌, map, take, length, arith}
use Rattle.std.specs.Prelude.{replicate}
use Rattle.std.specs.List.{All}
use Rattle.std.proofs.lemmas.List.Elements.{All-nil, All-head, All-tail, All-append, All-replicate, All-map, All-weaker}
use Rattle.text_lines.specs.declared.script.Event.{Event}
use Rattle.text_lines.specs.declared.script.Event.TheVariants.{Input}
use Rattle.text_lines.specs.declared.script.Version.{Version}
use Rattle.text_lines.specs.ScriptLimits.{IsEvent}
use Rattle.text_lines.specs.ScriptRows.{inputs_of}

pub inputs_hold : (number : Version) (each : List (List ℕ)) → All (All (λ byte. byte < 256)) each → All (IsEvent number) (inputs_of each)
inputs_hold number [] small = All-nil (IsEvent number)
inputs_hold number (text ∷ each) small =
    let given : (byte : ℕ) → byte < 256 → IsEvent number (Input byte) = λ byte is. record { within = (is, tt); belongs = tt } in
    All-append (IsEvent number) (map Input text) (inputs_of each)
    (All-map (IsEvent number) Input text (All-weaker (λ byte. byte < 256) (λ byte. IsEvent number (Input byte)) given text (All-head (All (λ byte. byte < 256)) text each small)))
    (inputs_hold number each (All-tail (All (λ byte. byte < 256)) text each small))

pub pushed_times : (number : Version) (before : List Event) (given : Event) (count : ℕ) → All (IsEvent number) before → IsEvent number given
    → All (IsEvent number) (before ++ replicate count given)
pushed_times number before given count valid is = All-append (IsEvent number) before (replicate count given) valid (All-replicate (IsEvent number) count given is)

-- a list made longer by so many of one event
pub made_longer : (before items : List Event) (given : Event) (size held count : ℕ) → size ≡ held → length before ≡ held
    → items ≡ take (size + count) before ++ replicate (size + count - held) given → items ≡ before ++ replicate count given
made_longer before items given size held count is_size is_held is = grind (arith, common_steps)
