-- What a command does where a run stands, against the indices of the finished list.
use Rattle.std.proofs.Common.{rules, ◌≡◌, ℕ, zero, suc, ◌+◌, ◌-◌, ◌<◌, ◌≤◌, true, false, cond, List, [], ◌∷◌, length, drop, Option, Some, None}
use Rattle.std.proofs.Common.{refl, sym, ap, ◌∙◌, arith}
use Rattle.std.specs.Prelude.{slice_get, min, ◌==◌}
use Rattle.std.specs.List.{position_or_len}
use Rattle.std.proofs.lemmas.Bool.Decides.{nat_tests}
use Rattle.tal_words.specs.declared.name.Label.{Label}
use Rattle.uxn_undo.specs.Kept.{Kept}
use Rattle.uxn_debugger.specs.declared.place.Place.{Place}
use Rattle.uxn_debugger.specs.declared.place.Place.TheVariants.{Before, End}
use Rattle.uxn_debugger.specs.Log.{Shown, AddressSet, IsRegular}
use Rattle.uxn_debugger.specs.Watching.{is_stop, was_at_break, stands_at_break, next_stop}
use Rattle.uxn_debugger.proofs.Places.{get_at, within, first_passes, first_fails, drop_next}
use Rattle.uxn_debugger.proofs.Earlier.{UndoLaws, undo_at, held_within, is_kept}

pub next_stop-here : (breaks : AddressSet) (held : List Kept) (place : Place) (less : ℕ) → is_stop breaks held place less ≡ true → next_stop breaks held place (suc less) ≡ Some less
unfolding next_stop
next_stop-here breaks held place less is = ap (λ b. cond b (Some less) (next_stop breaks held place less)) is

pub next_stop-later : (breaks : AddressSet) (held : List Kept) (place : Place) (less : ℕ) → is_stop breaks held place less ≡ false
    → next_stop breaks held place (suc less) ≡ next_stop breaks held place less
unfolding next_stop
next_stop-later breaks held place less other = ap (λ b. cond b (Some less) (next_stop breaks held place less)) other

pub next_stop-none : (breaks : AddressSet) (held : List Kept) (place : Place) → next_stop breaks held place zero ≡ None
unfolding next_stop
next_stop-none breaks held place = refl

module _ (labels : List Label) (moments : List Shown) (end : Shown) (laws : UndoLaws) (regular : IsRegular moments end) where
  module _ (i : ℕ) (breaks : AddressSet) (place : Place) where
    -- the break that is met behind the moment so far back
    abbrev pub met_behind : ℕ → ℕ
    met_behind back = min (i + 1 - back + position_or_len (λ s. breaks s.moment.address) (drop (i + 1 - back) moments)) (length moments)

    -- it is the one that was found, or the one behind the moment that is shown
    pub record IsFound (back stop : ℕ) : Type 0 where
      pub index : met_behind back ≡ i - stop
      pub later : stop < back

    abbrev pub Finds : ℕ → Option ℕ → Type 0
    Finds back None = met_behind back ≡ met_behind 0
    Finds back (Some stop) = IsFound back stop

    -- a moment stands there, which is a stop or not
    record IsThere (less : ℕ) : Type 0 where
      shown : Shown
      more : List Shown
      cut : drop (i - less) moments ≡ shown ∷ more
      test : is_stop breaks (undo_at labels moments end i) place less ≡ breaks shown.moment.address

    found_later : (less : ℕ) (found : Option ℕ) → met_behind (suc less) ≡ met_behind less → Finds less found → Finds (suc less) found
    found_later = search (arith, rules)

    one_more : (less : ℕ) → i ≤ length moments → less ≤ i → IsThere less → Finds less (next_stop breaks (undo_at labels moments end i) place less)
        → Finds (suc less) (next_stop breaks (undo_at labels moments end i) place (suc less))
    one_more = search (arith, rules, drop_next, first_fails, first_passes, found_later, next_stop-here, next_stop-later, undo_at, within)

    kept_there : (less : ℕ) → i ≤ length moments → suc less ≤ length (undo_at labels moments end i) → IsThere (suc less)
    kept_there less le under =
        let is = is_kept labels moments end laws i less le (omega arith) in
        let held = undo_at labels moments end i in
        let some : (suc less == 0) ≡ false = grind (arith, nat_tests) in
        let one : suc less - 1 ≡ less = omega arith in
        record {
          shown = is.shown;
          more = is.more;
          cut = is.cut;
          test = ap (λ b. cond b (stands_at_break breaks place) (was_at_break breaks (slice_get held (suc less - 1)))) some
              ∙ ap (λ n. was_at_break breaks (slice_get held n)) one
              ∙ ap (was_at_break breaks) is.kept
              ∙ ap breaks (sym (regular.addresses (i - suc less) is.shown (get_at moments (i - suc less) is.shown is.more is.cut)));
        }

    -- of those that are held, and the one that is shown
    finds_all : i ≤ length moments → Finds 1 (next_stop breaks (undo_at labels moments end i) place 1)
        → (back : ℕ) → back ≤ length (undo_at labels moments end i) → Finds back (next_stop breaks (undo_at labels moments end i) place back)
    finds_all le first zero under = rw (next_stop-none breaks (undo_at labels moments end i) place) refl
    finds_all le first (suc zero) under = first
    finds_all le first (suc (suc less)) under =
        let inside : suc less ≤ i = omega (arith, held_within labels moments end laws i le) in
        one_more (suc less) le inside (kept_there less le (omega arith)) (finds_all le first (suc less) (omega arith))

  -- at a moment
  pub finds_before : (i : ℕ) (breaks : AddressSet) (s : Shown) (left : List Shown) → drop i moments ≡ s ∷ left
      → (back : ℕ) → back ≤ length (undo_at labels moments end i)
      → Finds i breaks (Before s.moment) back (next_stop breaks (undo_at labels moments end i) (Before s.moment) back)
  finds_before i breaks s left is =
      let le : i ≤ length moments = omega (arith, within moments i s left is) in
      let here : i - 0 ≡ i = omega arith in
      let none : Finds i breaks (Before s.moment) 0 (next_stop breaks (undo_at labels moments end i) (Before s.moment) 0) =
      rw (next_stop-none breaks (undo_at labels moments end i) (Before s.moment)) refl in
      finds_all i breaks (Before s.moment) le
      (one_more i breaks (Before s.moment) 0 le (omega arith) (record { shown = s; more = left; cut = rw here is; test = refl }) none)

  -- at the end
  pub finds_at_end : (i : ℕ) (breaks : AddressSet) → i ≡ length moments → drop i moments ≡ []
      → (back : ℕ) → back ≤ length (undo_at labels moments end i)
      → Finds i breaks (End end.moment) back (next_stop breaks (undo_at labels moments end i) (End end.moment) back)
  finds_at_end = search (arith, rules, finds_all, next_stop-later, next_stop-none, undo_at)
