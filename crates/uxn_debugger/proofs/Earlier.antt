-- What is kept of the moments before one, and what is observed by it.
use Rattle.std.proofs.lemmas.Grind.{common_steps}
use Rattle.std.proofs.Common.{rules, ◌≡◌, ℕ, zero, suc, ◌+◌, ◌-◌, ◌%◌, ◌<◌, ◌≤◌, false, cond, List, [], ◌∷◌, length, take, drop, Option, Some, None}
use Rattle.std.proofs.Common.{refl, sym, ap, ◌∙◌, arith}
use Rattle.std.specs.Prelude.{slice_get, map, option_map, ◌==◌}
use Rattle.std.proofs.Math.Path.{fun_ext}
use Rattle.std.proofs.lemmas.Bool.Decides.{nat_tests}
use Rattle.std.proofs.lemmas.List.{drop-map, length-map}
use Rattle.std.proofs.lemmas.Option.{slice_get-map, slice_get_past}
use Rattle.uxn_opcodes.specs.declared.Core.{Core}
use Rattle.tal_words.specs.declared.name.Label.{Label}
use Rattle.uxn_undo.specs.Kept.{Kept, kept_at, holding, byte_back}
use Rattle.uxn_undo.specs.Laws.{kept_of, Follow, HoldingLaw, GoingBackLaw}
use Rattle.uxn_undo.specs.Runs.{memory_next, RunLaw}
use Rattle.uxn_debugger.specs.declared.place.Place.{Place}
use Rattle.uxn_debugger.specs.declared.place.Place.TheVariants.{Before, End}
use Rattle.uxn_debugger.specs.Printing.{MomentView, view, text_byte_at, moment_at}
use Rattle.uxn_debugger.specs.Log.{Shown, before, gone, at_end, moment_of_shown, IsRegular, observed, view_at, given_before}
use Rattle.uxn_debugger.specs.Watching.{observed_view, observed_back}
use Rattle.uxn_debugger.proofs.Places.{get_at, within, from_place, taken_get, reverse_next, reverse_get}

-- the three laws of what keeps moments
pub record UndoLaws : Type 0 where
  pub holding : HoldingLaw
  pub going_back : GoingBackLaw
  pub run : RunLaw

module _ (labels : List Label) (moments : List Shown) (end : Shown) where
  abbrev pub kept_before : ℕ → List Kept
  kept_before i = map kept_of (given_before labels moments end i)

  -- what is held once so many moments were shown
  abbrev pub undo_at : ℕ → List Kept
  undo_at i = holding (kept_before i)

  given_next : (i : ℕ) (s : Shown) (left : List Shown) → drop i moments ≡ s ∷ left
      → given_before labels moments end (i + 1) ≡ moment_of_shown s ∷ given_before labels moments end i
  given_next i s left is =
      let next : i + 1 ≡ suc i = omega arith in
      rw next (reverse_next (map moment_of_shown moments) i (moment_of_shown s) (map moment_of_shown left) (drop-map moment_of_shown i moments ∙ ap (map moment_of_shown) is))

  module _ (laws : UndoLaws) where
    pub held_within : (i : ℕ) → i ≤ length moments → length (undo_at i) ≤ i
    held_within = grind (arith, common_steps)

    -- one more is kept
    pub keeps : (i : ℕ) (s : Shown) (left : List Shown) → drop i moments ≡ s ∷ left
        → holding (kept_at s.core s.page.stored ∷ undo_at i) ≡ undo_at (i + 1)
    keeps = search (rules, given_next)

    -- what is kept of a moment that is held
    pub record IsKept (i less : ℕ) : Type 0 where
      pub shown : Shown
      pub more : List Shown
      pub cut : drop (i - suc less) moments ≡ shown ∷ more
      pub given : slice_get (given_before labels moments end i) less ≡ Some (moment_of_shown shown)
      pub kept : slice_get (undo_at i) less ≡ Some (kept_at shown.core shown.page.stored)

    pub is_kept : (i less : ℕ) → i ≤ length moments → less < length (undo_at i) → IsKept i less
    is_kept i less le under =
        let inside : less < i = omega (arith, held_within i le) in
        let from = from_place moments (i - suc less) (omega arith) in
        let givens = map moment_of_shown moments in
        let given = reverse_get givens i less inside (omega (arith, length-map moments moment_of_shown))
        ∙ slice_get-map moment_of_shown moments (i - suc less)
        ∙ ap (option_map moment_of_shown) (get_at moments (i - suc less) from.first from.more from.cut) in
        record {
          shown = from.first;
          more = from.more;
          cut = from.cut;
          given = given;
          kept = ap (λ held. slice_get held less) (laws.holding.newest (kept_before i))
              ∙ taken_get (length (undo_at i)) (kept_before i) less under
              ∙ slice_get-map kept_of (given_before labels moments end i) less ∙ ap (option_map kept_of) given;
        }

    module _ (regular : IsRegular moments end) where
      -- a machine that the run came to behind so many moments
      pub record IsCome (i : ℕ) (core : Core) (place : Place) : Type 0 where
        pub moments_before : i ≤ length moments
        pub counted : (moment_at place).instructions ≡ i
        pub memory : memory_next (drop i (map moment_of_shown moments)) end.core.memory ≡ core.memory

      byte_observed : (i less : ℕ) (core : Core) (place : Place) (s : Shown) → IsCome i core place → less < length (undo_at i)
          → slice_get (given_before labels moments end i) less ≡ Some (moment_of_shown s) → (at : ℕ)
          → byte_back (take (suc less) (undo_at i)) (at % 65536) (text_byte_at core.memory at) ≡ text_byte_at s.core.memory at
      byte_observed i less core place s come under here at =
          let next : less + 1 ≡ suc less = omega arith in
          let small : at % 65536 < 65536 = omega arith in
          let follow : Follow (given_before labels moments end i) core.memory =
          rw come.memory at (laws.run.follow (map moment_of_shown moments) end.core.memory i regular.memory) in
          rw next at (laws.going_back (given_before labels moments end i) core (moment_of_shown s) less (at % 65536) follow under here small)

      gone_observed : (furthest index : ℕ) (s : Shown) (more : List Shown) → drop index moments ≡ s ∷ more → index < furthest
          → view_at labels moments end furthest index ≡ gone s
      gone_observed = search (arith, rules, get_at, nat_tests)

      kept_observed : (i less : ℕ) (core : Core) (page : List ℕ) (place : Place) → IsCome i core place → less < length (undo_at i)
          → observed_view (view core page place) (undo_at i) (suc less) (slice_get (undo_at i) less) ≡ view_at labels moments end i (i - suc less)
      kept_observed i less core page place come under =
          let is = is_kept i less come.moments_before under in
          let s = is.shown in
          let here = get_at moments (i - suc less) s is.more is.cut in
          let inside : less < i = omega (arith, held_within i come.moments_before) in
          let count : (moment_at place).instructions - suc less ≡ s.moment.instructions =
          ap (λ n. n - suc less) come.counted ∙ sym (regular.counts (i - suc less) s here) in
          let address : s.core.at ≡ s.moment.address = sym (regular.addresses (i - suc less) s here) in
          let made : (ℕ → ℕ) → ℕ → ℕ → MomentView = λ byte instructions address. record {
            working = s.core.working;
            returns = s.core.returns;
            byte = byte;
            page = s.page.stored;
            place = Before (record { instructions = instructions; address = address });
          } in
          ap (observed_view (view core page place) (undo_at i) (suc less)) is.kept
          ∙ ap (λ byte. made byte ((moment_at place).instructions - suc less) s.core.at) (fun_ext (byte_observed i less core place s come under is.given))
          ∙ ap (λ instructions. made (text_byte_at s.core.memory) instructions s.core.at) count
          ∙ ap (λ address. made (text_byte_at s.core.memory) s.moment.instructions address) address
          ∙ sym (gone_observed i (i - suc less) s is.more is.cut (omega arith))

      -- so far back one sees what stands there
      pub sees_back : (i : ℕ) (core : Core) (page : List ℕ) (place : Place) → IsCome i core place → view core page place ≡ view_at labels moments end i i
          → (back : ℕ) → back ≤ length (undo_at i)
          → observed_back (view core page place) (undo_at i) back ≡ view_at labels moments end i (i - back)
      sees_back i core page place come now zero le = let none : i - 0 ≡ i = omega arith in rw none now
      sees_back i core page place come now (suc less) le =
          let some : (suc less == 0) ≡ false = grind (arith, nat_tests) in
          let one : suc less - 1 ≡ less = omega arith in
          ap (λ b. cond b (view core page place) (observed_view (view core page place) (undo_at i) (suc less) (slice_get (undo_at i) (suc less - 1)))) some
          ∙ ap (λ n. observed_view (view core page place) (undo_at i) (suc less) (slice_get (undo_at i) n)) one
          ∙ kept_observed i less core page place come (omega arith)

      -- at a moment, and at the end
      view_now : (i : ℕ) (one : Option Shown) (now : MomentView) → slice_get moments i ≡ one → observed labels moments end false one ≡ now
          → now ≡ view_at labels moments end i i
      view_now = search (arith, rules)

      pub now_before : (i : ℕ) (s : Shown) (left : List Shown) → drop i moments ≡ s ∷ left → before s ≡ view_at labels moments end i i
      now_before i s left is = view_now i (Some s) (before s) (get_at moments i s left is) refl

      pub now_at_end : (i : ℕ) → i ≡ length moments → at_end end ≡ view_at labels moments end i i
      now_at_end i is = view_now i None (at_end end) (slice_get_past moments i (omega arith)) refl

      pub comes_before : (i : ℕ) (s : Shown) (left : List Shown) → drop i moments ≡ s ∷ left → IsCome i s.core (Before s.moment)
      comes_before = search (arith, rules, drop-map, get_at, within)

      pub comes_at_end : (i : ℕ) → i ≡ length moments → drop i moments ≡ [] → IsCome i end.core (End end.moment)
      comes_at_end = grind (arith, common_steps)
