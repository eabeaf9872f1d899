-- Laws of counted faults: over no call, and over one call after another.
use Rattle.std.specs.Prelude.{◌≡◌, ℕ, ◌-◌, ◌^◌, ◌≤◌, Bool, true, false, refl, if◌then◌else◌}
use Rattle.std.proofs.Common.{inl, inr, ap, ◌∙◌, arith}
use Rattle.std.proofs.lemmas.Bool.{false≢true}
use Rattle.uxn_io_traits.specs.Faults.{one_more, FaultTally, Counted, Counts, Blame, Nobody, TheTree, ASink, AllCounted, Ledger}

-- no call
pub counted-same : (now : FaultTally) → Counted now now false
counted-same now = record { later = omega arith; rose = λ is. absurd (false≢true is); once = λ _. refl; promise = refl }

-- a call of an exact object that failed
pub counted-one : (before now : FaultTally) → before.faults ≤ 2 ^ 64 - 1 → now.faults ≡ one_more before.faults → now.exact ≡ before.exact
    → Counted before now true
counted-one before now fits is promise = record {
  later = omega (arith, fits, is);
  rose = λ _. record { later = omega (arith, fits, is); risen = omega (arith, is) };
  once = λ _. is;
  promise = promise;
}

-- a call, after one that did not fail
pub counted-then : (a b c : FaultTally) (failed : Bool) → Counted a b false → Counted b c failed → Counted a c failed
counted-then a b c failed p q = record {
  later = omega (arith, p.later, q.later);
  rose = λ is. let rose = q.rose is in record { later = omega (arith, p.later, rose.later); risen = omega (arith, p.later, rose.risen) };
  once = λ exact.
      q.once (p.promise ∙ exact) ∙ ap (λ (n : ℕ). if failed then one_more n else n) (p.once exact);
  promise = q.promise ∙ p.promise;
}

all-counted : (a b c : Counts) (tree_failed out_failed err_failed : Bool) → AllCounted a b false false false
    → AllCounted b c tree_failed out_failed err_failed → AllCounted a c tree_failed out_failed err_failed
all-counted a b c tree_failed out_failed err_failed p q = record {
  tree = counted-then a.tree b.tree c.tree tree_failed p.tree q.tree;
  out = counted-then a.out b.out c.out out_failed p.out q.out;
  err = counted-then a.err b.err c.err err_failed p.err q.err;
}

-- the same of all three objects
pub ledger-same : (now : Counts) → Ledger now now Nobody
ledger-same now = record { tree = counted-same now.tree; out = counted-same now.out; err = counted-same now.err }

pub ledger-kept : (before now : Counts) → now ≡ before → Ledger before now Nobody
ledger-kept before now is = rw is (ledger-same before)

pub ledger-then : (a b c : Counts) (blame : Blame) → Ledger a b Nobody → Ledger b c blame → Ledger a c blame
ledger-then a b c Nobody p q = all-counted a b c false false false p q
ledger-then a b c TheTree p q = all-counted a b c true false false p q
ledger-then a b c ASink p (inl q) = inl (all-counted a b c false true false p q)
ledger-then a b c ASink p (inr q) = inr (all-counted a b c false false true p q)
