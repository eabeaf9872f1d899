-- How much is counted of what a script gives.
use Rattle.vector_loop.proofs.Common.{Event, List, OfEvent, [], arith, counts_of, length, map, refl, ℕ, ◌*◌, ◌++◌, ◌+◌, ◌∷◌, ◌≡◌, rules}
use Rattle.vector_loop.specs.declared.pending_input.PendingInput.{PendingInput}
use Rattle.vector_loop.specs.PendingInputs.{ConsoleByte, of_argument}

pub record CountsAre (pending_inputs : List PendingInput) (begun given : ℕ) : Type 0 where
  pub vectors : (counts_of pending_inputs).vectors ≡ begun
  pub events : (counts_of pending_inputs).events ≡ given

pub inputs-count : (bytes : List ConsoleByte) (events : List Event)
    → CountsAre (map of_argument bytes ++ map OfEvent events) (length bytes + length events * 5) (length events)
inputs-count [] [] = record { vectors = refl; events = refl }
inputs-count [] (event ∷ events) = search (arith, rules, inputs-count [] events)
inputs-count (byte ∷ bytes) events = search (arith, rules, inputs-count bytes events)
