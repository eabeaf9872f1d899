-- Two rings and the slots that hold the same moments.
use Rattle.std.proofs.Common.{rules}
use Rattle.uxn_undo.proofs.Common.{◌≡◌, ℕ, zero, suc, ◌+◌, ◌-◌, ◌<◌, ◌≤◌, Bool, true, false, cond, List, [], ◌∷◌, ◌++◌, length, take, drop, Some}
use Rattle.uxn_undo.proofs.Common.{None, refl, sym, ap, ◌∙◌, arith, Option, map, slice_get, slice_index, sum_by, option_map, range_with_len}
use Rattle.uxn_undo.proofs.Common.{nat_tests, take-take, get_or-take, get_or-drop, length-take, length-take-le, length-append, sum_by-cons}
use Rattle.uxn_undo.proofs.Common.{length-map-range_with_len, covers, distance_to, Kept, byte_count, Buffer, buffer, Row, Record, moment_of}
use Rattle.uxn_undo.proofs.Common.{entry_count, row_of, AreRings, moments_in}
use Rattle.std.specs.Prelude.{get_or}
use Rattle.std.proofs.lemmas.List.{drop-take, take_at, drop_at, take_all, drop-drop, drop_more}
use Rattle.std.proofs.lemmas.List.Sums.{sum_by_more, sum_by_more_le}
use Rattle.std.proofs.lemmas.Option.{get_or_from_slice_get, slice_get_within}
use Rattle.uxn_undo.specs.Kept.{byte_back}

-- where the last record ends
last_ends : (records : List Record) (last : Record) (i : ℕ) → length records ≡ suc i → slice_get records i ≡ Some last
    → sum_by entry_count (take i records) + entry_count last ≡ sum_by entry_count records
last_ends records last i size is =
    let all : take (i + 1) records ≡ records = take_all (i + 1) records (omega arith) in
    let here : get_or records i last ≡ last = get_or_from_slice_get records i last last is in
    let more = sum_by_more entry_count records i last (omega arith) in
    sym (ap (λ (xs : List Record). sum_by entry_count xs) (sym all) ∙ more ∙ ap (λ r. sum_by entry_count (take i records) + entry_count r) here)

-- a byte that a record keeps
kept_byte : (bytes : List ℕ) (r : Record) (begin at byte : ℕ) (is : Bool) → covers r.span at ≡ is
    → cond is (slice_index (take (entry_count r) (drop begin bytes)) (distance_to r.span at)) byte ≡ cond is (slice_index bytes (begin + distance_to r.span at)) byte
kept_byte bytes r begin at byte false e = refl
kept_byte bytes r begin at byte true e = search (arith, rules, get_or-drop, get_or-take)

in_span : (r : Record) (at distance : ℕ) (is : Bool) → covers r.span at ≡ is → Some distance ≡ cond is (Some (distance_to r.span at)) None
    → (begin size : ℕ) → begin + entry_count r ≤ size → begin + distance < size
in_span r at distance false e found begin size fits = cc
in_span r at distance true e found begin size fits =
    let same : distance ≡ distance_to r.span at = cc in
    let less : distance_to r.span at < entry_count r = grind (arith, nat_tests) in
    omega arith

-- a byte that a record keeps lies in the second stack
pub in_bytes : (records : List Record) (bytes : List ℕ) (i begin at distance : ℕ) (r : Record) → length bytes ≡ sum_by entry_count records
    → slice_get records i ≡ Some r → begin ≡ sum_by entry_count (take i records)
    → Some distance ≡ cond (covers r.span at) (Some (distance_to r.span at)) None → begin + distance < length bytes
in_bytes records bytes i begin at distance r filled is begins found =
    let here : get_or records i r ≡ r = get_or_from_slice_get records i r r is in
    let more : sum_by entry_count (take i records) + entry_count (get_or records i r) ≤ sum_by entry_count records =
    sum_by_more_le entry_count records i r (slice_get_within records i r is) in
    let parts = (rw here at more) in
    in_span r at distance (covers r.span at) refl found begin (length bytes) (omega (arith, parts))

-- the byte that is found, or the one that is not
abbrev byte_at : List ℕ → ℕ → ℕ → Option ℕ → ℕ
byte_at bytes begin byte None = byte
byte_at bytes begin byte (Some distance) = slice_index bytes (begin + distance)

pub byte_found : (bytes : List ℕ) (begin byte next far : ℕ) (found : Option ℕ) (is : Bool) → found ≡ cond is (Some far) None
    → next ≡ byte_at bytes begin byte found → next ≡ cond is (slice_index bytes (begin + far)) byte
byte_found bytes begin byte next far found true e at = at ∙ ap (byte_at bytes begin byte) e
byte_found bytes begin byte next far found false e at = at ∙ ap (byte_at bytes begin byte) e

pub begins_next : (records : List Record) (i : ℕ) (r : Record) → slice_get records i ≡ Some r
    → sum_by entry_count (take (i + 1) records) ≡ sum_by entry_count (take i records) + entry_count r
begins_next records i r is =
    sum_by_more entry_count records i r (slice_get_within records i r is)
    ∙ ap (λ r. sum_by entry_count (take i records) + entry_count r) (get_or_from_slice_get records i r r is)

pub all_back : (n : ℕ) (held : List Kept) (at byte : ℕ) → n ≡ 0 → byte_back (take n held) at byte ≡ byte
unfolding byte_back
all_back n held at byte none = rw none refl

-- one byte more before those that were put
pub put_one : (f : ℕ → ℕ) (left less count capacity : ℕ) (others : List ℕ) → less + 1 ≡ left → left ≤ count → length others + count ≤ capacity
    → take capacity (f less ∷ (map f (range_with_len left (count - left)) ++ others)) ≡ map f (range_with_len less (count - less)) ++ others
put_one f left less count capacity others next le fits =
    let one : count - less ≡ suc (count - left) = omega arith in
    let size = length-append (map f (range_with_len left (count - left))) others in
    let put = length-map-range_with_len f left (count - left) in
    rw (one, next) (take_all capacity (f less ∷ (map f (range_with_len left (count - left)) ++ others)) (omega (arith, size, put)))

module _ (rows : List Row) where
  pub length-moments : (records : List Record) (bytes : List ℕ) → length (moments_in rows records bytes) ≡ length records
  unfolding moments_in
  length-moments [] bytes = refl
  length-moments (newest ∷ older) bytes = ap suc (length-moments older (drop (entry_count newest) bytes))

  pub counts-moments : (records : List Record) (bytes : List ℕ) → sum_by byte_count (moments_in rows records bytes) ≡ sum_by entry_count records
  unfolding moments_in
  counts-moments [] bytes = refl
  counts-moments (newest ∷ older) bytes = search (arith, rules, sum_by-cons, counts-moments older)

  -- one more record, with its bytes
  pub moments-push : (newest : Record) (older : List Record) (bytes others : List ℕ) → length bytes ≡ entry_count newest
      → moments_in rows (newest ∷ older) (bytes ++ others) ≡ moment_of newest (row_of rows newest) bytes ∷ moments_in rows older others
  unfolding moments_in
  moments-push = search (arith, rules, drop_at, take_at)

  -- the newest records, with their bytes
  moments-take : (n : ℕ) (records : List Record) (bytes : List ℕ)
      → moments_in rows (take n records) (take (sum_by entry_count (take n records)) bytes) ≡ take n (moments_in rows records bytes)
  unfolding moments_in
  moments-take zero records bytes = refl
  moments-take (suc n) [] bytes = refl
  moments-take (suc n) (newest ∷ older) bytes =
      let count = entry_count newest in
      let rest = sum_by entry_count (take n older) in
      ap (λ s. moment_of newest (row_of rows newest) (take count (take s bytes)) ∷ moments_in rows (take n older) (drop count (take s bytes))) (sum_by-cons entry_count newest (take n older))
      ∙ ap (λ (z : List ℕ). moment_of newest (row_of rows newest) z ∷ moments_in rows (take n older) (drop count (take (count + rest) bytes))) (take-take count (count + rest) bytes (omega arith))
      ∙ ap (λ (z : List ℕ). moment_of newest (row_of rows newest) (take count bytes) ∷ moments_in rows (take n older) z) (drop-take count rest bytes)
      ∙ ap (λ (z : List Kept). moment_of newest (row_of rows newest) (take count bytes) ∷ z) (moments-take n older (drop count bytes))

  pub record Forgotten (records : List Record) (bytes : List ℕ) (last : Record) : Type 0 where
    pub moments : moments_in rows (take (length records - 1) records) (take (length bytes - entry_count last) bytes) ≡ take (length (moments_in rows records bytes) - 1) (moments_in rows records bytes)
    pub filled : length (take (length bytes - entry_count last) bytes) ≡ sum_by entry_count (take (length records - 1) records)
    pub fits : entry_count last ≤ length bytes

  pub forgotten : (records : List Record) (bytes : List ℕ) (last : Record) → length bytes ≡ sum_by entry_count records
      → slice_get records (length records - 1) ≡ Some last → Forgotten records bytes last
  forgotten records bytes last filled is =
      let i = length records - 1 in
      let less : i < length records = slice_get_within records i last is in
      let ends : sum_by entry_count (take i records) + entry_count last ≡ sum_by entry_count records = last_ends records last i (omega arith) is in
      let size : length bytes - entry_count last ≡ sum_by entry_count (take i records) = omega arith in
      record {
        moments = ap (λ n. moments_in rows (take i records) (take n bytes)) size ∙ moments-take i records bytes
            ∙ ap (λ n. take (n - 1) (moments_in rows records bytes)) (sym (length-moments records bytes));
        filled = ap (λ n. length (take n bytes)) size ∙ length-take-le (sum_by entry_count (take i records)) bytes (omega arith);
        fits = omega arith;
      }

  -- a part of a record that does not lie in its bytes
  pub at_moment : {X : Type 0} (f : Kept → X) (g : Record → X) → ((r : Record) (bytes : List ℕ) → f (moment_of r (row_of rows r) bytes) ≡ g r)
      → (records : List Record) (bytes : List ℕ) (i : ℕ) (r : Record) → slice_get records i ≡ Some r
      → option_map f (slice_get (moments_in rows records bytes) i) ≡ Some (g r)
  unfolding moments_in
  at_moment f g same [] bytes i r is = cc
  at_moment f g same (newest ∷ older) bytes zero r is =
      let here : newest ≡ r = cc in
      ap Some (same newest (take (entry_count newest) bytes) ∙ ap g here)
  at_moment f g same (newest ∷ older) bytes (suc i) r is = at_moment f g same older (drop (entry_count newest) bytes) i r is

  -- one moment further back
  pub next_back : (records : List Record) (bytes : List ℕ) (back i begin at byte next : ℕ) (r : Record) → i < back → slice_get records i ≡ Some r
      → next ≡ cond (covers r.span at) (slice_index bytes (begin + distance_to r.span at)) byte
      → byte_back (take (back - i) (moments_in rows (drop i records) (drop begin bytes))) at byte
      ≡ byte_back (take (back - (i + 1)) (moments_in rows (drop (i + 1) records) (drop (begin + entry_count r) bytes))) at next
  unfolding byte_back moments_in
  next_back records bytes back i begin at byte next r less is found =
      let k = back - (i + 1) in
      let one : back - i ≡ suc k = omega arith in
      let rest : drop i records ≡ r ∷ drop (i + 1) records =
      drop_more records i r (slice_get_within records i r is) ∙ ap (λ first. first ∷ drop (i + 1) records) (get_or_from_slice_get records i r r is) in
      let kept = take (entry_count r) (drop begin bytes) in
      let same : cond (covers r.span at) (slice_index kept (distance_to r.span at)) byte ≡ next =
      kept_byte bytes r begin at byte (covers r.span at) refl ∙ sym found in
      rw (one, rest) (ap (λ (z : List ℕ). byte_back (take k (moments_in rows (drop (i + 1) records) z)) at (cond (covers r.span at) (slice_index kept (distance_to r.span at)) byte)) (drop-drop (entry_count r) begin bytes)
      ∙ ap (λ b. byte_back (take k (moments_in rows (drop (i + 1) records) (drop (begin + entry_count r) bytes))) at b) same)

  -- what the two stacks hold
  pub length_held : (records : List Record) (bytes : List ℕ) (held : List Kept) → moments_in rows records bytes ≡ held → length records ≡ length held
  length_held records bytes held is = sym (length-moments records bytes) ∙ ap (λ (z : List Kept). length z) is

  pub bytes_held : (records : Buffer Record) (bytes : Buffer ℕ) (held : List Kept) → moments_in rows records.items bytes.items ≡ held
      → AreRings records bytes → sum_by byte_count held ≡ length bytes.items
  bytes_held = search (arith, rules, counts-moments)

  pub forgotten-rings : (records : Buffer Record) (bytes : Buffer ℕ) (last : Record) → AreRings records bytes
      → slice_get records.items (length records.items - 1) ≡ Some last
      → AreRings (buffer (take (length records.items - 1) records.items) records.capacity)
      (buffer (take (length bytes.items - entry_count last) bytes.items) bytes.capacity)
  forgotten-rings records bytes last rings is =
      let done = forgotten records.items bytes.items last rings.filled is in
      let few : length records.items ≤ 65536 = rings.few in
      let small : length bytes.items ≤ 16777216 = rings.small in
      record {
        moments = rings.moments;
        room = rings.room;
        few = rw (length-take (length records.items - 1) records.items) (omega arith);
        small = rw (length-take (length bytes.items - entry_count last) bytes.items) (omega arith);
        filled = done.filled;
      }
