-- What is left of a script once the next thing was taken.
use Rattle.std.proofs.lemmas.Grind.{common_steps}
use Rattle.vector_loop.proofs.Common.{Event, List, OfEvent, [], ap, arguments_given, arith, drop, length, map, slice_index_or, sym, take, ℕ}
use Rattle.vector_loop.proofs.Common.{◌++◌, ◌-◌, ◌<◌, ◌∙◌, ◌∷◌, ◌≡◌, ◌≢◌, ◌≤◌, rules}
use Rattle.std.proofs.Math.Seq.{take-length}
use Rattle.std.proofs.lemmas.List.{length-map}
use Rattle.text_lines.specs.ScriptHeld.{bytes_in}
use Rattle.uxn_io_traits.specs.ByteList.{ByteList}
use Rattle.vector_loop.specs.declared.pending_input.PendingInput.TheVariants.{OfArgument}
use Rattle.vector_loop.specs.PendingInputs.{kind_before, of_argument, pending_left}

-- what stands behind the first of a list
abbrev pub behind : {X : Type 0} → List X → List X
behind xs = take (length xs - 1) (drop 1 xs)

behind-first : {X : Type 0} (x : X) (xs : List X) → xs ≡ behind (x ∷ xs)
behind-first x xs = sym (ap (λ n. take n xs) (omega arith) ∙ take-length xs)

pub all-left : (texts : List (List ℕ)) (events : List Event)
    → pending_left (slice_index_or texts 0 []) texts events ≡ map of_argument (arguments_given texts) ++ map OfEvent events
unfolding arguments_given
all-left = search (arith, rules)

pub takes-newline : (bytes : List ℕ) (all : List ByteList) (events : List Event) → 1 ≤ length all → length bytes < 1
    → pending_left bytes (bytes_in all) events
    ≡ OfArgument 10 (kind_before (length (behind all)))
    ∷ pending_left (slice_index_or (bytes_in (behind all)) 0 []) (bytes_in (behind all)) events
takes-newline = grind (arith, common_steps, all-left, behind-first, length-map)

-- something is left where an argument is
pub some-left : (bytes : List ℕ) (all : List ByteList) (events : List Event) → 1 ≤ length all → pending_left bytes (bytes_in all) events ≢ []
some-left bytes [] events some none = omega (arith, some)
some-left [] (text ∷ texts) events some none = cc
some-left (byte ∷ bytes) (text ∷ texts) events some none = cc
