-- What is taken of a list, and the bytes of the arguments.
use Rattle.std.proofs.lemmas.Grind.{common_steps}
use Rattle.vector_loop.proofs.Common.{List, None, Some, [], arguments_given, arith, drop, length, length-append, refl, ℕ, ◌+◌, ◌∷◌, ◌≡◌, rules}
use Rattle.std.specs.Prelude.{slice_get}
use Rattle.std.proofs.lemmas.List.Sums.{sum_by-cons}
use Rattle.std.specs.List.{sum_by}
use Rattle.vector_loop.specs.PendingInputs.{argument_left}

-- a list by what was taken first, or where nothing was
pub taken-is : {X : Type 0} (xs : List X) (x : X) → Some x ≡ slice_get xs 0 → xs ≡ x ∷ drop 1 xs
taken-is = search (arith, rules)

pub untaken-is : {X : Type 0} (xs : List X) → None ≡ slice_get xs 0 → xs ≡ []
untaken-is [] is = refl
untaken-is (first ∷ rest) is = absurd (cc)

-- the bytes of an argument, and the newline behind it
argument-length : (text : List ℕ) (following : ℕ) → length (argument_left text following) ≡ length text + 1
argument-length = grind (arith, common_steps)

pub all-given : (texts : List (List ℕ)) → length (arguments_given texts) ≡ sum_by (λ text. length text + 1) texts
unfolding arguments_given
all-given [] = refl
all-given (text ∷ texts) = search (arith, rules, argument-length, length-append, sum_by-cons, all-given texts)
