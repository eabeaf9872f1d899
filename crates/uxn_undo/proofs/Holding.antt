-- What keeps one moment after another holds the newest of all of them.
use Rattle.uxn_undo.proofs.Common.{◌≡◌, ℕ, zero, suc, ◌-◌, ◌<◌, ◌≤◌, List, [], ◌∷◌, length, take, refl, sym, ap, ◌∙◌, inl, inr, arith, sum_by}
use Rattle.uxn_undo.proofs.Common.{cases_lt, nat_tests, sum_by-cons, Kept, byte_count, most_moments, most_bytes}
use Rattle.std.proofs.Common.{◌+◌, Bool, true, false, rules}
use Rattle.std.proofs.lemmas.List.{nil_from_length, take_all}
use Rattle.std.specs.Prelude.{◌&&◌, nat_le, nat_lt}
use Rattle.uxn_undo.specs.Kept.{held_of, holding}
use Rattle.uxn_undo.specs.Laws.{HoldingLaw}

-- a moment is held before older ones, or its bytes are too many
pub held-next : (left room : ℕ) (kept : Kept) (older : List Kept) → byte_count kept ≤ room
    → held_of (suc left) room (kept ∷ older) ≡ kept ∷ held_of left (room - byte_count kept) older
unfolding held_of
held-next left room kept older small = let is : nat_le (byte_count kept) room ≡ true = grind (arith, nat_tests) in rw is refl

held-large : (left room : ℕ) (kept : Kept) (older : List Kept) → room < byte_count kept → held_of (suc left) room (kept ∷ older) ≡ []
unfolding held_of
held-large left room kept older large = let not : nat_le (byte_count kept) room ≡ false = grind (arith, nat_tests) in rw not refl

held-none : (room : ℕ) (given : List Kept) → held_of 0 room given ≡ []
unfolding held_of
held-none room given = refl

held-nothing : (left room : ℕ) → held_of left room [] ≡ []
unfolding held_of
held-nothing zero room = refl
held-nothing (suc left) room = refl

-- what is held fits, and is the newest
pub record IsHeld (left room : ℕ) (given held : List Kept) : Type 0 where
  pub few : length held ≤ left
  pub small : sum_by byte_count held ≤ room
  pub newest : held ≡ take (length held) given

nothing-held : (left room : ℕ) (given : List Kept) → IsHeld left room given []
nothing-held left room given = record { few = omega arith; small = omega arith; newest = refl }

pub is-held : (left room : ℕ) (given : List Kept) → IsHeld left room given (held_of left room given)
is-held zero room given = rw (held-none room given) (nothing-held 0 room given)
is-held (suc left) room [] = rw (held-nothing (suc left) room) (nothing-held (suc left) room [])
is-held (suc left) room (kept ∷ older) = elim (cases_lt room (byte_count kept)) [
  | inl large ↦ rw (held-large left room kept older large) (nothing-held (suc left) room (kept ∷ older))
  | inr small ↦
      let rest = is-held left (room - byte_count kept) older in
      let sum = sum_by-cons byte_count kept (held_of left (room - byte_count kept) older) in
      rw (held-next left room kept older small) (search (arith, rules))
]

-- all moments are, where they fit
pub held-all : (left room : ℕ) (given : List Kept) → length given ≤ left → sum_by byte_count given ≤ room → held_of left room given ≡ given
held-all left room [] few small = held-nothing left room
held-all zero room (kept ∷ older) few small = absurd (omega arith)
held-all (suc left) room (kept ∷ older) few small =
    let sum = sum_by-cons byte_count kept older in
    held-next left room kept older (omega arith)
    ∙ ap (λ (z : List Kept). kept ∷ z) (held-all left (room - byte_count kept) older (omega arith) (omega arith))

-- nothing depends on the moments behind those that are held
held-take : (left room n : ℕ) (given : List Kept) → length (held_of left room given) ≤ n → held_of left room (take n given) ≡ held_of left room given
held-take left room zero given few = held-nothing left room ∙ sym (nil_from_length (held_of left room given) (omega (arith, few)))
held-take zero room (suc n) given few = held-none room (take (suc n) given) ∙ sym (held-none room given)
held-take (suc left) room (suc n) [] few = refl
held-take (suc left) room (suc n) (kept ∷ older) few = search (arith, rules, held-large, held-next, held-take left)

-- more room holds no fewer
held-more : (left room more_left more : ℕ) (given : List Kept) → left ≤ more_left → room ≤ more
    → length (held_of left room given) ≤ length (held_of more_left more given)
held-more zero room more_left more given few le = omega (arith, ap length (held-none room given))
held-more (suc left) room zero more given few le = absurd (omega arith)
held-more (suc left) room (suc more_left) more [] few le = omega (arith, ap length (held-nothing (suc left) room))
held-more (suc left) room (suc more_left) more (kept ∷ older) few le = search (arith, rules, held-large, held-next, held-more left)

-- whether there is room for one more moment that keeps so many bytes
abbrev has_room_for : ℕ → List Kept → Bool
has_room_for count held = nat_lt (length held) most_moments && nat_le (sum_by byte_count held + count) most_bytes

-- without room the oldest is none of those that are held beside it, and with room all are
pub held-fewer : (count : ℕ) (held before now : List Kept) (room : Bool) → room ≡ has_room_for count held → room ≡ false
    → count < 65536 → now ≡ take (length held - 1) held → held_of 65535 (most_bytes - count) held ≡ held_of 65535 (most_bytes - count) before
    → held_of 65535 (most_bytes - count) now ≡ held_of 65535 (most_bytes - count) before
held-fewer = search (arith, rules, held-take, is-held, take_all)

pub held-fits : (count : ℕ) (held before : List Kept) (room : Bool) → room ≡ has_room_for count held → room ≡ true
    → held_of 65535 (most_bytes - count) held ≡ held_of 65535 (most_bytes - count) before → held ≡ held_of 65535 (most_bytes - count) before
held-fits = search (arith, rules, held-all)

one_more : (given : List Kept) (kept : Kept) → holding (kept ∷ holding given) ≡ holding (kept ∷ given)
one_more given kept =
    let all = is-held most_moments most_bytes given in
    let held = holding given in
    elim (cases_lt most_bytes (byte_count kept)) [
      | inl large ↦ held-large 65535 most_bytes kept held large ∙ sym (held-large 65535 most_bytes kept given large)
      | inr small ↦
          held-next 65535 most_bytes kept held small
          ∙ ap (λ (z : List Kept). kept ∷ held_of 65535 (most_bytes - byte_count kept) z) all.newest
          ∙ ap (λ (z : List Kept). kept ∷ z) (held-take 65535 (most_bytes - byte_count kept) (length held) given
          (held-more 65535 (most_bytes - byte_count kept) most_moments most_bytes given (omega arith) (omega arith)))
          ∙ sym (held-next 65535 most_bytes kept given small)
    ]

pub holding_law : HoldingLaw
holding_law = search (arith, rules, held-nothing, is-held, one_more)
