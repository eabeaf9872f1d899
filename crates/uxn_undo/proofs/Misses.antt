-- What a change of memory leaves alone.
use Rattle.uxn_undo.proofs.Common.{◌≡◌, ◌≢◌, ℕ, ◌+◌, ◌-◌, ◌%◌, ◌<◌, ◌≤◌, Bool, true, false, List, length, refl, sym, ◌∙◌, arith}
use Rattle.uxn_undo.proofs.Common.{slice_set, eqb-true, nat_tests, Span, address_after_span, covers, DiffersWithin}
use Rattle.std.proofs.Common.{true≢false, rules}
use Rattle.std.proofs.lemmas.List.{get_or-set_other, length-set}
use Rattle.system_port.specs.declared.expansions.BankRange.{BankRange}
use Rattle.system_port.specs.RangeLaws.{ChangesWithin}
use Rattle.uxn_undo.specs.Changes.{span_of_range}

-- an address that is not covered is none of them
misses_in : (page : Bool) (first count at k : ℕ) → covers (record { first = first; count = count; in_zero_page = page }) at ≡ false → k < count
    → at ≢ address_after_span (record { first = first; count = count; in_zero_page = page }) k
misses_in true first count at k out less e =
    let far : (at + 65536 - first % 65536) % 256 ≤ k = omega arith in
    let small : at < 256 = omega arith in
    let is : covers (record { first = first; count = count; in_zero_page = true }) at ≡ true = grind (arith, nat_tests) in
    true≢false (sym is ∙ out)
misses_in false first count at k out less e =
    let far : (at + 65536 - first % 65536) % 65536 ≤ k = omega arith in
    let small : at < 65536 = omega arith in
    let is : covers (record { first = first; count = count; in_zero_page = false }) at ≡ true = grind (arith, nat_tests) in
    true≢false (sym is ∙ out)

pub misses : (span : Span) (at k : ℕ) → covers span at ≡ false → k < span.count → at ≢ address_after_span span k
misses span at k out less = misses_in span.in_zero_page span.first span.count at k out less

-- memory changes within some addresses, and keeps bank 0
pub record Changes (span : Span) (before after : List ℕ) : Type 0 where
  pub within : DiffersWithin span before after
  pub size : length before ≤ length after

pub same-memory : (span : Span) (memory : List ℕ) → Changes span memory memory
same-memory span memory = record { within = λ at small out. refl; size = omega arith }

-- one of these bytes more is stored
pub one-set : (span : Span) (k place value : ℕ) (before after : List ℕ) → k < span.count → place ≡ address_after_span span k
    → Changes span before after → Changes span before (slice_set after place value)
one-set = search (arith, rules, get_or-set_other, length-set, misses)

-- so is what stays outside of a range: of one in another bank all of bank 0 does
pub range-changes : (range : BankRange) (before after : List ℕ) → ChangesWithin range before after → Changes (span_of_range range) before after
range-changes = search (arith, rules, eqb-true, misses)
