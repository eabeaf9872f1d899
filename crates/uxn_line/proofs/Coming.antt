-- What comes next to a machine: what its script still gives, or the bytes of its ring, those that are still to be written, and the end.
use Rattle.uxn_line.proofs.Common.{common_steps, is_none, slice_get, list_all, and_parts, is_of_console, ◌≡◌, ◌≢◌, ℕ, suc, ◌↔◌, true, List, [], ◌∷◌}
use Rattle.uxn_line.proofs.Common.{◌++◌, drop, map, refl, inl, inr, ap, ◌∙◌, arith, Option, PendingInput, OfEvent, ConsoleByte, pending_inputs_of}
use Rattle.uxn_line.proofs.Common.{AreForConsole, IsForConsole, LineJob, AreOfConsole, script_at, stream, next_pending, inputs, AreToCome}
use Rattle.text_lines.specs.declared.script.Event.{Event}
use Rattle.vector_loop.specs.PendingInputs.{arguments_given, of_argument}

-- all that the script of a line gives is for the console
pub script-is-for : (bytes : List ConsoleByte) (events : List Event) → AreOfConsole events
    → AreForConsole (map of_argument bytes ++ map OfEvent events)
script-is-for [] [] are = refl
script-is-for [] (event ∷ events) are =
    let parts = and_parts (is_of_console event) (list_all is_of_console events) are in
    rw parts.0 (script-is-for [] events parts.1)
script-is-for (byte ∷ bytes) events are = script-is-for bytes events are

-- bytes, and then the end
pub all-inputs : (job : LineJob) (before : ℕ) → pending_inputs_of (script_at job (suc before)) ≡ inputs (stream job before)
unfolding arguments_given
all-inputs job before = refl

pub inputs-some : (bytes : List ℕ) → inputs bytes ≢ []
inputs-some = grind (arith, common_steps)

-- the first of what is to come, where the end comes only once all was written
pub record Comes (ring rest : List ℕ) (all : List PendingInput) : Type 0 where
  pub later : List PendingInput
  pub are : all ≡ next_pending (slice_get ring 0) ∷ later
  pub last : (is_none (slice_get ring 0) ≡ true) ↔ (later ≡ [])
  pub to_come : AreToCome (drop 1 ring) rest later

pub comes : (ring rest : List ℕ) (all : List PendingInput) → AreToCome ring rest all → all ≢ [] → (ring ≡ [] → rest ≡ []) → Comes ring rest all
comes ring rest all (inr none) some ended = absurd (some none.0)
comes [] rest all (inl are) some ended = record {
  later = [];
  are = are ∙ ap inputs (ended refl);
  last = (λ e. refl, λ e. refl);
  to_come = inr (refl, (refl, ended refl));
}
comes (byte ∷ ring) rest all (inl are) some ended = record {
  later = inputs (ring ++ rest);
  are = are;
  last = (λ e. absurd (cc), λ e. absurd (inputs-some (ring ++ rest) e));
  to_come = inl refl;
}

pub next-is-of-console : (byte : Option ℕ) → IsForConsole (next_pending byte)
next-is-of-console = grind (arith, common_steps)
