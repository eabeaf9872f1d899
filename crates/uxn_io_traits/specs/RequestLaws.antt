-- Laws of what is requested of a tree.
use Rattle.std.specs.Prelude.{◌≡◌, ℕ, zero, suc, ◌<◌, List, [], ◌∷◌, ◌++◌, Option, Some, None, IsSome, refl}
use Rattle.std.specs.Option.{option_map}
use Rattle.std.proofs.Common.{ap, sym, subst, ◌∙◌, append_assoc, arith}
use Rattle.uxn_io_traits.specs.Requests.{begins_reading, Receives}
use Rattle.uxn_io_traits.specs.declared.requests.TreeRequest.{TreeRequest}
use Rattle.uxn_io_traits.specs.declared.requests.TreeRequest.TheVariants.{Reads}

module _ (first more : List TreeRequest) where
  -- who tells them after more tells them before it
  some-before : (b : Option (List TreeRequest)) → IsSome (option_map (λ earlier. earlier ++ more) b) → IsSome b
  some-before None is = is
  some-before (Some requests) is = refl

  both : (a : Option (List TreeRequest)) → option_map (λ earlier. earlier ++ more) (option_map (λ earlier. earlier ++ first) a)
      ≡ option_map (λ earlier. earlier ++ (first ++ more)) a
  both None = refl
  both (Some requests) = ap (λ (all : List TreeRequest). Some all) (append_assoc requests first more)

  -- requests, and then more
  pub receives-then : (a b c : Option (List TreeRequest)) → Receives first a b → Receives more b c → Receives (first ++ more) a c
  receives-then a b c p q = λ is.
      let here = q is in
      let there = p (some-before b (subst IsSome here is)) in
      here ∙ ap (λ requests. option_map (λ earlier. earlier ++ more) requests) there ∙ both a

-- so far a file was read up to a byte: to its first one, nothing was requested
abbrev pub reads_begun : List ℕ → ℕ → List TreeRequest
reads_begun path zero = []
reads_begun path (suc at) = Reads path ∷ []

reads-on : (path : List ℕ) (at : ℕ) → reads_begun path at ++ begins_reading path at ≡ Reads path ∷ []
reads-on path zero = refl
reads-on path (suc at) = refl

begun-some : (path : List ℕ) (at : ℕ) → 0 < at → reads_begun path at ≡ Reads path ∷ []
begun-some path zero some = absurd (omega (arith, some))
begun-some path (suc at) some = refl

-- it was read on from there, and so it was read
pub reads-once : (path : List ℕ) (at from : ℕ) (a b c : Option (List TreeRequest)) → from ≡ at → Receives (reads_begun path at) a b
    → Receives (begins_reading path from) b c → Receives (Reads path ∷ []) a c
reads-once path at from a b c is p q =
    subst (λ requests. Receives requests a c) (reads-on path at)
    (receives-then _ _ a b c p (subst (λ place. Receives (begins_reading path place) b c) is q))

-- up to a later byte
pub reads-later : (path : List ℕ) (at from later : ℕ) (a b c : Option (List TreeRequest))
    → from ≡ at → 0 < later → Receives (reads_begun path at) a b
    → Receives (begins_reading path from) b c → Receives (reads_begun path later) a c
reads-later path at from later a b c is some p q =
    subst (λ requests. Receives requests a c) (sym (begun-some path later some)) (reads-once path at from a b c is p q)
