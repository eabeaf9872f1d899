-- One moment more is kept.
use Rattle.uxn_undo.proofs.Common.{◌≡◌, ℕ, ◌+◌, ◌-◌, ◌<◌, ◌≤◌, List, ◌∷◌, ◌++◌, length, sym, ap, ◌∙◌, arith, sum_by, length-append}
use Rattle.uxn_undo.proofs.Common.{length-map-range_with_len, slice_index_or, sum_by-cons, Buffer, buffer, span_bytes_at, Kept, byte_count}
use Rattle.uxn_undo.proofs.Common.{most_bytes, Row, Record, entry_count, moment_of, moments_in, no_row, AreRings}
use Rattle.uxn_undo.specs.Kept.{held_of, holding}
use Rattle.uxn_undo.specs.Slots.{InOrder}
use Rattle.uxn_undo.proofs.Holding.{IsHeld, is-held, held-next}
use Rattle.uxn_undo.proofs.Joined.{length_held, bytes_held}
use Rattle.uxn_undo.proofs.Slots.{SameBut, put_moment}

module _ (rows : List Row) (records : Buffer Record) (bytes : Buffer ℕ) (before held : List Kept) (count : ℕ)
    (is : moments_in rows records.items bytes.items ≡ held) (lie : AreRings records bytes) (left : held ≡ held_of 65535 (most_bytes - count) before)
    (short : count < 65536) where
  -- there is room
  pub record HasRoom : Type 0 where
    pub few : length records.items < 65536
    pub room : length bytes.items + count ≤ bytes.capacity

  pub has-room : HasRoom
  has-room =
      let fits : IsHeld 65535 (most_bytes - count) before held = rw left (is-held 65535 (most_bytes - count) before) in
      let size : length records.items ≡ length held = length_held rows records.items bytes.items held is in
      let filled : sum_by byte_count held ≡ length bytes.items = bytes_held rows records bytes held is lie in
      record { few = omega (arith, fits.few); room = omega (arith, fits.small, lie.room) }

  -- and one more is put there
  pub record Keeps (now : List Row) (newest : Record) (kept : Kept) : Type 0 where
    pub rings : AreRings (buffer (newest ∷ records.items) records.capacity) (buffer (kept.bytes ++ bytes.items) bytes.capacity)
    pub holds : moments_in now (newest ∷ records.items) (kept.bytes ++ bytes.items) ≡ holding (kept ∷ before)

  pub keeps : (size : ℕ) (now : List Row) (newest : Record) (row : Row) (memory : List ℕ) → entry_count newest ≡ count
      → SameBut size newest.slot rows now → slice_index_or now newest.slot no_row ≡ row → newest.slot < 65536 → InOrder size newest.slot records.items
      → Keeps now newest (moment_of newest row (span_bytes_at newest.span memory))
  keeps size now newest row memory counts same here small order =
      let kept = moment_of newest row (span_bytes_at newest.span memory) in
      let has = has-room in
      let put : length kept.bytes ≡ entry_count newest = length-map-range_with_len _ 0 newest.span.count in
      let long = length-append kept.bytes bytes.items in
      let fits : byte_count kept ≤ most_bytes = omega arith in
      record {
        rings = record {
          moments = lie.moments;
          room = lie.room;
          few = omega (arith, has.few);
          small = omega (arith, long, has.room, lie.room);
          filled = long ∙ sym (sum_by-cons entry_count newest records.items ∙ ap (λ n. entry_count newest + n) (sym lie.filled)
              ∙ ap (λ n. n + length bytes.items) (sym put));
        };
        holds = put_moment size newest row records.items kept.bytes bytes.items rows now same here small has.few order put
            ∙ ap (λ (z : List Kept). kept ∷ z) (is ∙ left ∙ ap (λ n. held_of 65535 (most_bytes - n) before) (sym counts))
            ∙ sym (held-next 65535 most_bytes kept before fits);
      }
