-- The steps of a run, taken one after the other, are the run.
use Rattle.std.specs.Prelude.{◌≡◌, ℕ, zero, suc, ◌==◌, ◌≤◌, ◌⊎◌, true, false, List, []}
use Rattle.std.proofs.lemmas.Bool.{cases_Bool}
use Rattle.std.specs.Prelude.{◌∷◌, length, Option, Some, None}
use Rattle.std.proofs.Common.{inl, inr, cond, refl, ap, sym, subst, ◌∙◌, arith}
use Rattle.std.proofs.lemmas.List.{append-nil}
use Rattle.text_lines.specs.declared.script.Event.TheVariants.{Input, EndInput}
use Rattle.text_lines.specs.Scripts.{ScriptView}
use Rattle.uxn_limits.specs.declared.ports.TheConstants.{CONSOLE_VECTOR}
use Rattle.varvara_bus.specs.History.{made_ready, stored_short}
use Rattle.vector_loop.specs.declared.pending_input.PendingInput.{PendingInput}
use Rattle.vector_loop.specs.declared.pending_input.PendingInput.TheVariants.{OfArgument, OfEvent}
use Rattle.vector_loop.specs.declared.output.Outputs.{Outputs}
use Rattle.vector_loop.specs.State.{State, with_stored, is_over}
use Rattle.vector_loop.specs.Trace.{Trace, stays, followed_by}
use Rattle.vector_loop.specs.Vector.{at_break, instruction, instructions, begun_at, vector}
use Rattle.vector_loop.specs.Event.{vector_in, unless_over, give_each, console, give}
use Rattle.vector_loop.specs.Run.{run}
use Rattle.vector_loop.specs.PendingInputs.{ConsoleByte, pending_inputs_of, given, console_byte_of, counted_input}
use Rattle.vector_loop.specs.Places.{Place, place, PlaceHasEnded, cut_at, one_instruction, instruction_step, come_to, holding, vector_begins}
use Rattle.vector_loop.specs.Places.{giving_by, idle_step, next_place, step, after_steps, run_begun, vector_left, run_left, whole_run, StepsAre}
use Rattle.vector_loop.specs.TraceLaws.{followed_by-again, followed_by-at, stays-after}

-- an instruction, and then what is left of the vector and the rest
goes_on : (less : ℕ) (done : Trace) (rest : State → Trace)
    → followed_by done (λ s. followed_by (followed_by (instruction done.last) (instructions less)) rest)
    ≡ followed_by (followed_by done (λ s. record (instruction s) { last = cut_at less (instruction s).last }))
    (λ s. followed_by (vector_left less s) rest)
unfolding instructions
goes_on zero done rest =
    let one = instruction done.last in
    let cut : Trace = record one { last = cut_at zero one.last } in
    let ended : followed_by one (instructions zero) ≡ cut = ap (λ changes. record cut { changes = changes }) (append-nil one.changes) in
    ap (λ t. followed_by done (λ s. followed_by t rest)) ended ∙ sym (followed_by-again done (λ s. cut) rest)
goes_on (suc less) done rest =
    let one = instruction done.last in
    ap (λ t. followed_by done (λ s. t)) (followed_by-again one (instructions (suc less)) rest)
    ∙ sym (followed_by-again done (λ s. one) (λ s. followed_by (instructions (suc less) s) rest))

instruction-keeps : (budget : ℕ) (outputs : Outputs) (less : ℕ) (done : Trace) (later : List PendingInput)
    → whole_run budget outputs (place done (suc less) later) ≡ whole_run budget outputs (instruction_step less done later)
unfolding instruction_step instructions
instruction-keeps budget outputs less done later =
    let rest = give_each (given budget outputs) later in
    let one = instruction done.last in
    elim (at_break done.last) as (λ b. followed_by done (λ s. followed_by (cond b one (followed_by one (instructions less))) rest)
    ≡ followed_by (followed_by done (λ s. record one { last = cond b one.last (cut_at less one.last) }))
    (run_left budget outputs (cond b 0 less) later)) [
      | true ↦ sym (followed_by-again done (λ s. one) rest)
      | false ↦ goes_on less done rest
    ]

-- a vector that may run an instruction is the one that is left as it begins
vector-begun : (budget address : ℕ) (state : State) → 1 ≤ budget → vector budget address state ≡ vector_left budget (begun_at address state)
unfolding vector
vector-begun zero address state some = absurd (omega (arith, some))
vector-begun (suc less) address state some = refl

begins-keeps : (budget : ℕ) (outputs : Outputs) (held : State) (done : Trace) (later : List PendingInput) → 1 ≤ budget
    → followed_by done (λ s. followed_by (vector_in budget CONSOLE_VECTOR held) (give_each (given budget outputs) later))
    ≡ whole_run budget outputs (vector_begins budget held done later)
unfolding vector_begins vector_in
begins-keeps budget outputs held done later some =
    let address = stored_short held.devices.history CONSOLE_VECTOR in
    let rest = give_each (given budget outputs) later in
    elim (address == 0) as (λ b. followed_by done (λ s. followed_by (cond b (stays held) (vector budget address held)) rest)
    ≡ whole_run budget outputs (cond b (place (come_to held done) 0 later) (place (come_to (begun_at address held) done) budget later))) [
      | true ↦ refl
      | false ↦ ap (λ t. followed_by done (λ s. followed_by t rest)) (vector-begun budget address held some)
    ]

-- what is for the console is held there, and then its vector is run
HoldsFirst : ℕ → Outputs → PendingInput → State → Option ConsoleByte → Type 0
HoldsFirst budget outputs input state (Some byte) = given budget outputs input state ≡ vector_in budget CONSOLE_VECTOR
    (holding byte (counted_input input state))
HoldsFirst budget outputs input state None = Unit {0}

holds_first : (budget : ℕ) (outputs : Outputs) (input : PendingInput) (state : State)
    → HoldsFirst budget outputs input state (console_byte_of input)
unfolding HoldsFirst console give
holds_first budget outputs (OfArgument byte kind) state = refl
holds_first budget outputs (OfEvent (Input byte)) state = refl
holds_first budget outputs (OfEvent EndInput) state = refl
holds_first budget outputs (OfEvent _) state = tt

giving-keeps : (budget : ℕ) (outputs : Outputs) (input : PendingInput) (byte : Option ConsoleByte) (done : Trace) (later : List PendingInput)
    → 1 ≤ budget
    → HoldsFirst budget outputs input done.last byte
    → followed_by done (λ s. followed_by (given budget outputs input done.last) (give_each (given budget outputs) later))
    ≡ whole_run budget outputs (giving_by budget outputs input byte done later)
unfolding HoldsFirst
giving-keeps budget outputs input (Some byte) done later some holds =
    ap (λ t. followed_by done (λ s. followed_by t (give_each (given budget outputs) later))) holds
    ∙ begins-keeps budget outputs (holding byte (counted_input input done.last)) done later some
giving-keeps budget outputs input None done later some holds =
    sym (followed_by-again done (given budget outputs input) (give_each (given budget outputs) later))

idle-by : (budget : ℕ) (outputs : Outputs) (input : PendingInput) (done : Trace) (later : List PendingInput) → 1 ≤ budget
    → (is_over done.last ≡ true) ⊎ (is_over done.last ≡ false)
    → whole_run budget outputs (place done 0 (input ∷ later)) ≡ whole_run budget outputs (idle_step budget outputs done (input ∷ later))
unfolding give_each unless_over
idle-by budget outputs input done later some (inl over) =
    let here = place done 0 (input ∷ later) in
    let next = giving_by budget outputs input (console_byte_of input) done later in
    sym (ap (λ b. whole_run budget outputs (cond b here next)) over)
idle-by budget outputs input done later some (inr goes) =
    let here = place done 0 (input ∷ later) in
    let next = giving_by budget outputs input (console_byte_of input) done later in
    let rest = give_each (given budget outputs) later in
    ap (λ b. followed_by done (λ s. followed_by (cond b (stays done.last) (given budget outputs input done.last)) rest)) goes
    ∙ giving-keeps budget outputs input (console_byte_of input) done later some (holds_first budget outputs input done.last)
    ∙ sym (ap (λ b. whole_run budget outputs (cond b here next)) goes)

step-of-keeps : (budget : ℕ) (outputs : Outputs) (left : ℕ) (done : Trace) (later : List PendingInput) → 1 ≤ budget
    → whole_run budget outputs (place done left later) ≡ whole_run budget outputs (next_place budget outputs left done later)
step-of-keeps budget outputs zero done [] some = refl
step-of-keeps budget outputs zero done (input ∷ later) some = idle-by budget outputs input done later some (cases_Bool (is_over done.last))
step-of-keeps budget outputs (suc less) done later some = instruction-keeps budget outputs less done later

steps-keep : (budget : ℕ) (outputs : Outputs) (begun : Place) (count : ℕ) → 1 ≤ budget
    → whole_run budget outputs begun ≡ whole_run budget outputs (after_steps budget outputs count begun)
unfolding step
steps-keep budget outputs begun zero some = refl
steps-keep budget outputs begun (suc count) some =
    let now = after_steps budget outputs count begun in
    steps-keep budget outputs begun count some ∙ step-of-keeps budget outputs now.left now.done now.pending_inputs some

-- the whole run, as it begins
run-begins : (budget : ℕ) (outputs : Outputs) (script : ScriptView) (state : State) → 1 ≤ budget
    → whole_run budget outputs (run_begun budget script state) ≡ run budget outputs script state
unfolding run
run-begins budget outputs script state some =
    ap (λ t. followed_by t (give_each (given budget outputs) (pending_inputs_of script)))
    (sym (vector-begun budget 0x0100 (with_stored (made_ready (length script.arguments)) state) some))

-- nothing is left of a run that is over
over-nothing : {X : Type 0} (given : X → State → Trace) (xs : List X) (state : State) → is_over state ≡ true
    → give_each given xs state ≡ stays state
unfolding give_each unless_over
over-nothing given [] state over = refl
over-nothing given (x ∷ xs) state over =
    ap (λ b. followed_by (cond b (stays state) (given x state)) (give_each given xs)) over ∙ over-nothing given xs state over

pub ended-nothing : (budget : ℕ) (outputs : Outputs) (left : ℕ) (later : List PendingInput) (state : State) → left ≡ 0
    → (is_over state ≡ true) ⊎ (later ≡ []) → run_left budget outputs left later state ≡ stays state
unfolding give_each
ended-nothing budget outputs zero later state idle (inl over) = over-nothing (given budget outputs) later state over
ended-nothing budget outputs zero later state idle (inr none) = ap (λ g. give_each (given budget outputs) g state) none
ended-nothing budget outputs (suc less) later state idle over = absurd (omega (arith, idle))

ended-whole : (budget : ℕ) (outputs : Outputs) (now : Place) → PlaceHasEnded now → now.done ≡ whole_run budget outputs now
ended-whole budget outputs now ended =
    sym (followed_by-at now.done (run_left budget outputs now.left now.pending_inputs) stays
    (ended-nothing budget outputs now.left now.pending_inputs now.done.last ended.0 ended.1) ∙ stays-after now.done)

-- a run is over after some number of steps
abbrev Ends : ℕ → Outputs → Place → Type 0
Ends budget outputs now = (count : ℕ) × PlaceHasEnded (after_steps budget outputs count now)

step-first : (budget : ℕ) (outputs : Outputs) (count : ℕ) (now : Place)
    → after_steps budget outputs count (step budget outputs now) ≡ step budget outputs (after_steps budget outputs count now)
step-first budget outputs zero now = refl
step-first budget outputs (suc count) now = ap (step budget outputs) (step-first budget outputs count now)

ends-later : (budget : ℕ) (outputs : Outputs) (now : Place) → Ends budget outputs (step budget outputs now) → Ends budget outputs now
ends-later budget outputs now ends =
    let P : Place → Type 0 = λ p. PlaceHasEnded p in
    (suc ends.0, subst P (step-first budget outputs ends.0 now) ends.1)

-- where a run with these pending inputs left ends, whatever was done
abbrev EndsIdle : ℕ → Outputs → List PendingInput → Type 0
EndsIdle budget outputs later = (done : Trace) → Ends budget outputs (place done 0 later)

vector-ends : (budget : ℕ) (outputs : Outputs) (later : List PendingInput) → EndsIdle budget outputs later → (left : ℕ) (done : Trace)
    → Ends budget outputs (place done left later)
unfolding step instruction_step
vector-ends budget outputs later idle zero done = idle done
vector-ends budget outputs later idle (suc less) done =
    let now = followed_by done (one_instruction less) in
    ends-later budget outputs (place done (suc less) later)
    (elim (at_break done.last) as (λ b. Ends budget outputs (place now (cond b 0 less) later)) [
      | true ↦ idle now
      | false ↦ vector-ends budget outputs later idle less now
    ])

giving-ends : (budget : ℕ) (outputs : Outputs) (input : PendingInput) (byte : Option ConsoleByte) (done : Trace) (later : List PendingInput)
    → EndsIdle budget outputs later → Ends budget outputs (giving_by budget outputs input byte done later)
unfolding vector_begins
giving-ends budget outputs input (Some byte) done later idle =
    let held = holding byte (counted_input input done.last) in
    let address = stored_short held.devices.history CONSOLE_VECTOR in
    let next = come_to (begun_at address held) done in
    elim (address == 0) as (λ b. Ends budget outputs (cond b (place (come_to held done) 0 later) (place next budget later))) [
      | true ↦ idle (come_to held done)
      | false ↦ vector-ends budget outputs later idle budget next
    ]
giving-ends budget outputs input None done later idle = idle (followed_by done (given budget outputs input))

idle-ends : (budget : ℕ) (outputs : Outputs) (later : List PendingInput) → EndsIdle budget outputs later
unfolding step
idle-ends budget outputs [] done = (0, (refl, inr refl))
idle-ends budget outputs (input ∷ later) done =
    let here = place done 0 (input ∷ later) in
    let next = giving_by budget outputs input (console_byte_of input) done later in
    elim (cases_Bool (is_over done.last)) [
      | inl over ↦ (0, (refl, inl over))
      | inr goes ↦
          let P : Place → Type 0 = λ p. Ends budget outputs p in
          let ends = giving-ends budget outputs input (console_byte_of input) done later (idle-ends budget outputs later) in
          ends-later budget outputs here (subst P (sym (ap (λ b. cond b here next) goes)) ends)
    ]

pub steps-are : (budget : ℕ) (outputs : Outputs) (script : ScriptView) (state : State) → 1 ≤ budget → StepsAre budget outputs script state
steps-are budget outputs script state some =
    let begun = run_begun budget script state in
    let parts : (count : ℕ) → whole_run budget outputs (after_steps budget outputs count begun) ≡ run budget outputs script state
    = λ count. sym (steps-keep budget outputs begun count some) ∙ run-begins budget outputs script state some in
    record {
      parts = parts;
      end = λ count ended. ended-whole budget outputs (after_steps budget outputs count begun) ended ∙ parts count;
      ends = vector-ends budget outputs (pending_inputs_of script) (idle-ends budget outputs (pending_inputs_of script)) budget begun.done;
    }
