-- Laws of calls that are handed on to a tree or a sink, once or twice.
use Rattle.std.specs.Prelude.{◌≡◌, ℕ, Bool, true, false, List, Option, refl}
use Rattle.std.proofs.Common.{arith, sym, ◌∙◌}
use Rattle.std.proofs.lemmas.Bool.{false≢true}
use Rattle.uxn_io_traits.specs.Faults.{FaultTally, Counted}
use Rattle.uxn_io_traits.specs.Outside.{Change}
use Rattle.uxn_io_traits.specs.State.{TreeState, SinkState}
use Rattle.uxn_io_traits.specs.Known.{extended}
use Rattle.uxn_io_traits.specs.Ended.{TreeEnded, TreeLooked, Refused, SinkEnded, SinkFailed}
use Rattle.uxn_cli_tests.specs.Retrying.{not_exact, retried_tree, retried_sink}

counted_once : (before now : FaultTally) (failed : Bool) → Counted before now failed → Counted (not_exact before) (not_exact now) failed
counted_once before now failed p = record { later = p.later; rose = p.rose; once = λ is. absurd (false≢true is); promise = refl }

counted_again : (a b c : FaultTally) (failed : Bool) → Counted a b true → Counted b c failed → Counted (not_exact a) (not_exact c) failed
counted_again a b c failed p q = record {
  later = omega (arith, p.later, q.later);
  rose = λ is. let rose = q.rose is in record { later = omega (arith, p.later, rose.later); risen = omega (arith, p.later, rose.risen) };
  once = λ is. absurd (false≢true is);
  promise = refl;
}

-- a call of a tree, handed on once
pub ended_once : (changes : List Change) (failed : Bool) (before now : TreeState) → TreeEnded changes failed before now
    → TreeEnded changes failed (retried_tree before) (retried_tree now)
ended_once changes failed before now p =
    record { stands = p.stands; counted = counted_once _ _ failed p.counted; blamed = p.blamed; left = p.left }

pub looked_once : (failed : Bool) (before now : TreeState) → TreeLooked failed before now
    → TreeLooked failed (retried_tree before) (retried_tree now)
looked_once failed before now p = record {
  contents = p.contents;
  counted = counted_once _ _ failed p.counted;
  refusals = λ is. absurd (false≢true is);
  blamed = p.blamed;
  left = p.left;
}

pub refused_once : (file : Option (List ℕ)) (before now : TreeState) → Refused file (retried_tree before) (retried_tree now)
refused_once file before now = λ is. absurd (false≢true is)

-- a call that looked at a tree, tried again once it had failed
pub looked_again : (failed : Bool) (a b c : TreeState) → TreeLooked true a b → TreeLooked failed b c
    → TreeLooked failed (retried_tree a) (retried_tree c)
looked_again failed a b c p q = record {
  contents = q.contents ∙ p.contents;
  counted = counted_again _ _ _ failed p.counted q.counted;
  refusals = λ is. absurd (false≢true is);
  blamed = λ _. p.blamed refl;
  left = λ _ guaranteed. absurd (p.blamed refl guaranteed);
}

-- a piece that a sink took, at once or when it was tried again
pub taken_once : (bytes : List ℕ) (before now : SinkState) → SinkEnded bytes false before now
    → SinkEnded bytes false (retried_sink before) (retried_sink now)
taken_once bytes before now p = record {
  holds = p.holds;
  counted = counted_once _ _ false p.counted;
  blamed = λ is. absurd (false≢true is);
  left = λ _. omega arith;
}

pub taken_again : (piece bytes : List ℕ) (a b c : SinkState) → SinkFailed piece a b → SinkEnded bytes false b c
    → SinkEnded bytes false (retried_sink a) (retried_sink c)
taken_again piece bytes a b c p q = record {
  holds = rw (sym p.contents) q.holds;
  counted = counted_again _ _ _ false p.counted q.counted;
  blamed = λ is. absurd (false≢true is);
  left = λ _. omega arith;
}

-- and one that it failed to take twice
pub failed_again : (piece : List ℕ) (a b c : SinkState) → SinkFailed piece a b → SinkFailed piece b c
    → SinkFailed piece (retried_sink a) (retried_sink c)
failed_again piece a b c p q =
    record { contents = q.contents ∙ p.contents; counted = counted_again _ _ _ true p.counted q.counted; blamed = λ less. omega (arith, less) }
