-- What the events of a run answer.
use Rattle.vector_loop.proofs.Common.{Answers, Count, Event, Models, Ok, Outputs, Result, Runner, State, Stop, Trace, ap, arith}
use Rattle.vector_loop.proofs.Common.{counting_event, ledger-same, of_events, of_vectors, rules, stays, stored, sym, unless_over, vector, vector_in}
use Rattle.vector_loop.proofs.Common.{with_stored, ℕ, ◌<◌, ◌∙◌, ◌≡◌, ◌≢◌, ◌≤◌}
use Rattle.std.specs.Prelude.{◌==◌}
use Rattle.input_ports.specs.declared.Input.{Input}
use Rattle.input_ports.specs.Page.{stores_after, stores_of, vector_of}
use Rattle.varvara_bus.specs.History.{stored_short}
use Rattle.varvara_bus.specs.ReadsPort.{read_of}
use Rattle.text_lines.specs.declared.script.Event.TheVariants.{Expect}
use Rattle.vector_loop.specs.State.{counting_expect, with_counted}
use Rattle.vector_loop.specs.Event.{give, happens, vector_at}
use Rattle.vector_loop.specs.Answers.{both_counts}
use Rattle.vector_loop.proofs.Counting.{grown-counted}
use Rattle.vector_loop.proofs.Makings.{makes-nothing}
use Rattle.vector_loop.proofs.Answering.{answers-then, answers-within, same-itself}

-- the vector in two ports, by the address there
pub no-vector : (budget port address : ℕ) (state : State) → address ≡ stored_short state.devices.history port → address ≡ 0
    → vector_in budget port state ≡ stays state
unfolding vector_in
no-vector budget port address state is zero = ap (λ a. vector_at budget a state) (sym is ∙ zero)

pub its-vector : (budget port address : ℕ) (state : State) → address ≡ stored_short state.devices.history port → address ≢ 0
    → vector_in budget port state ≡ vector budget address state
unfolding vector_in
its-vector = search (arith, rules)

-- every input's vector is in two ports
pub its-ports : (input : Input) → vector_of input < 255
unfolding vector_of
its-ports = search (arith, rules)

-- an input is stored, its vector is run, and it is settled
abbrev pub applying : Input → State → State
applying input state = with_stored (stores_of (stored state.devices.history) input) state

abbrev pub settling : Input → State → Trace
settling input state = unless_over (λ after. stays (with_stored (stores_after input) after)) state

-- an event is counted
abbrev pub one_event : Count
one_event = record { vectors = 0; events = 1 }

-- an expect is compared as it is counted
abbrev pub with_compared : ℕ → ℕ → State → State
with_compared port byte state =
    record state { tally = counting_expect (read_of state.devices state.core port == byte) (counting_event (Expect port byte) state.tally) }

module _ {T O E W H : Type 0} (models : Models T O E W H) where
  pub answers-counted : (a : Runner T O E W) (event : Event)
      → Answers models a (record a { tally = counting_event event a.tally }) (λ s. stays (with_counted event s)) one_event (Ok (tt {0}))
  answers-counted a event = search (arith, rules, grown-counted, same-itself, ledger-same, makes-nothing)

  -- an event is counted, and then happens
  pub answers-given : {X : Type 0} (a c : Runner T O E W) (budget : ℕ) (outputs : Outputs) (event : Event) (n : ℕ) (r : Result X Stop) → n ≤ 5
      → Answers models (record a { tally = counting_event event a.tally }) c (happens budget outputs event) (of_vectors n) r
      → Answers models a c (give budget outputs event) (of_events 1) r
  unfolding give
  answers-given a c budget outputs event n r few p =
      answers-within models a c (give budget outputs event) (both_counts one_event (of_vectors n)) (of_events 1) r (omega (arith, few)) (omega arith)
      (answers-then models a (record a { tally = counting_event event a.tally }) c (λ s. stays (with_counted event s)) (happens budget outputs event)
      one_event (of_vectors n) (tt {0}) r (answers-counted a event) p)
