-- Addresses of bank 0, one after the other, that wrap within the zero page or within the bank.
use Rattle.std.specs.Prelude.{ℕ, ◌+◌, ◌-◌, ◌%◌, Bool, true, false, nat_lt, ◌&&◌, if◌then◌else◌, List, map, slice_index}
use Rattle.std.specs.List.{range_with_len}
use Rattle.uxn_undo.specs.declared.span.Span.{Span}

-- so many addresses from one on, in the zero page or anywhere in the bank
abbrev pub span_in_page : ℕ → ℕ → Span
span_in_page first count = record { first = first; count = count; in_zero_page = true }

abbrev pub span_in_bank : ℕ → ℕ → Span
span_in_bank first count = record { first = first; count = count; in_zero_page = false }

abbrev pub no_span : Span
no_span = span_in_bank 0 0

-- the number of addresses after which they begin again
abbrev pub wraps_at : Span → ℕ
wraps_at span = if span.in_zero_page then 256 else 65536

-- the address so many after the first, and how far behind the first an address is
abbrev pub address_after_span : Span → ℕ → ℕ
address_after_span span count = (span.first + count) % wraps_at span

abbrev pub distance_to : Span → ℕ → ℕ
distance_to span at = (at + 65536 - span.first % 65536) % wraps_at span

-- an address is one of them
abbrev pub covers : Span → ℕ → Bool
covers span at = nat_lt at (wraps_at span) && nat_lt (distance_to span at) span.count

-- the bytes of memory at these addresses
abbrev pub span_bytes_at : Span → List ℕ → List ℕ
span_bytes_at span memory = map (λ count. slice_index memory (address_after_span span count)) (range_with_len 0 span.count)
