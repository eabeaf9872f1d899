-- How far a tally grows, and how much room is left in it.
use Rattle.vector_loop.proofs.Common.{Count, Event, HasTallyRoom, Result, Stop, Tally, arith, counting_event, ℕ, ◌*◌, ◌+◌, ◌<◌, ◌≤◌, rules}
use Rattle.std.proofs.Common.{◌^◌}
use Rattle.std.proofs.Math.Nat.{mul-le-mul_right}
use Rattle.vector_loop.specs.declared.tally.VectorEnd.{VectorEnd}
use Rattle.vector_loop.specs.Budget.{counting_ran}
use Rattle.vector_loop.specs.State.{new_tally}
use Rattle.vector_loop.specs.Follows.{HasGrown, IsCompared}

pub grown-both : (a b c : Tally) (b1 g1 b2 g2 budget : ℕ) → HasGrown a b b1 g1 budget → HasGrown b c b2 g2 budget
    → HasGrown a c (b1 + b2) (g1 + g2) budget
grown-both a b c b1 g1 b2 g2 budget p q = search arith

pub grown-none : (a : Tally) (budget : ℕ) → HasGrown a a 0 0 budget
grown-none a budget = search arith

pub grown-within : (a b : Tally) (b1 g1 b2 g2 budget : ℕ) → b1 ≤ b2 → g1 ≤ g2 → HasGrown a b b1 g1 budget → HasGrown a b b2 g2 budget
grown-within a b b1 g1 b2 g2 budget p q h = let most = mul-le-mul_right budget p in search arith

-- what room there is for less, and what is left after so much was counted
pub room-less : (a : Tally) (m whole : Count) (budget : ℕ) → m.vectors ≤ whole.vectors → m.events ≤ whole.events
    → HasTallyRoom a budget whole → HasTallyRoom a budget m
room-less a m whole budget p q r = let most : m.vectors * budget ≤ whole.vectors * budget = mul-le-mul_right budget p in search arith

pub room-left : (a b : Tally) (m n whole : Count) (budget : ℕ) → m.vectors + n.vectors ≤ whole.vectors → m.events + n.events ≤ whole.events
    → HasTallyRoom a budget whole → HasGrown a b m.vectors m.events budget → HasTallyRoom b budget n
room-left a b m n whole budget p q r h =
    let most : (m.vectors + n.vectors) * budget ≤ whole.vectors * budget = mul-le-mul_right budget p in search arith

-- a script's vectors and events can be counted from nothing
pub room-new : (most : Count) (budget : ℕ) → 1 ≤ budget → most.vectors ≤ 9194305 → most.events ≤ 1000000 → budget < 2 ^ 32
    → HasTallyRoom new_tally budget most
room-new = search (arith, rules)

-- a vector was run, whatever ended it
pub grown-run : (a : Tally) (end : Result VectorEnd Stop) (number budget : ℕ) → number ≤ budget → HasGrown a (counting_ran end number a) 1 0 budget
grown-run = search (arith, rules)

-- an event is counted
pub grown-counted : (event : Event) (a : Tally) (budget : ℕ) → HasGrown a (counting_event event a) 0 1 budget
grown-counted = search (arith, rules)

-- an expect is counted, and compared
pub grown-compared : (a b : Tally) (budget : ℕ) → IsCompared (record a { events = a.events + 1 }) b → HasGrown a b 0 1 budget
grown-compared a b budget h = search arith
