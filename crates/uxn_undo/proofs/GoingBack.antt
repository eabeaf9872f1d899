-- Going back gives the memory of the moment gone to.
use Rattle.std.proofs.Common.{rules}
use Rattle.uxn_undo.proofs.Common.{◌≡◌, ℕ, zero, suc, ◌<◌, Bool, true, false, cond, List, [], ◌∷◌, take, Some}
use Rattle.uxn_undo.proofs.Common.{arith, map, slice_get, slice_index, nat_tests, take-take, get_or-map-range_with_len, Span}
use Rattle.uxn_undo.proofs.Common.{address_after_span, distance_to, covers, span_bytes_at, GivenMoments, DiffersWithin, Follow}
use Rattle.uxn_undo.specs.Kept.{byte_back}
use Rattle.uxn_undo.specs.Laws.{kept_of, GoingBackLaw}
use Rattle.uxn_undo.proofs.Holding.{holding_law}

-- an address that is covered is so far behind the first one as is said
pub record IsPlace (span : Span) (at : ℕ) : Type 0 where
  pub within : distance_to span at < span.count
  pub here : address_after_span span (distance_to span at) ≡ at

place_in : (page : Bool) (first count at : ℕ) → covers (record { first = first; count = count; in_zero_page = page }) at ≡ true
    → IsPlace (record { first = first; count = count; in_zero_page = page }) at
place_in true first count at is =
    let small : at < 256 = grind (arith, nat_tests) in
    record { within = grind (arith, nat_tests); here = omega arith }
place_in false first count at is =
    let small : at < 65536 = grind (arith, nat_tests) in
    record { within = grind (arith, nat_tests); here = omega arith }

-- one moment back
one_back : (span : Span) (before after : List ℕ) (at : ℕ) → DiffersWithin span before after → at < 65536
    → cond (covers span at) (slice_index (span_bytes_at span before) (distance_to span at)) (slice_index after at) ≡ slice_index before at
one_back = search (arith, rules, get_or-map-range_with_len, place_in)

-- moments in a row, back to one of them
many_back : (given : List GivenMoments) (last : List ℕ) (moment : GivenMoments) (back at : ℕ) → Follow given last → slice_get given back ≡ Some moment → at < 65536
    → byte_back (take (suc back) (map kept_of given)) at (slice_index last at) ≡ slice_index moment.core.memory at
unfolding byte_back
many_back [] last moment back at follow here small = cc
many_back (given ∷ older) last moment zero at follow here small = search (arith, rules, one_back)
many_back (given ∷ older) last moment (suc back) at follow here small = search (arith, rules, kept_of, one_back, many_back older)

pub going_back_law : GoingBackLaw
going_back_law = search (arith, rules, holding_law, kept_of, many_back, take-take)
