-- The search for the `}` of a body, one word at a time.
use Rattle.tal_macros.proofs.Common.{◌≡◌, ℕ, suc, ◌+◌, ◌-◌, ◌<◌, ◌≤◌, Bool, true, false, ◌&&◌, ◌==◌, List, [], ◌∷◌, map, length, take, drop, Option}
use Rattle.tal_macros.proofs.Common.{Some, None, refl, ap, sym, ◌∙◌, arith, if◌then◌else◌, find, option_map, option_or, drop_all, ne_eqb, eqb-true}
use Rattle.tal_macros.proofs.Common.{Word, begins, is_only, word_text, body_after, word_at, is_head, IsBody}
use Rattle.tal_words.specs.Braces.{opens, closes, one_if, matching_after, matching}
use Rattle.tal_macros.proofs.Known.{drop-word}

-- a word that is one byte alone begins no head, unless this is `%`
only-no_head : (byte : ℕ) (text : List ℕ) → is_only byte text ≡ true → (byte ≡ 37 → ⊥) → begins 37 text ≡ false
only-no_head byte [] only other = refl
only-no_head byte (first ∷ []) only other = ne_eqb first 37 (λ is. other (sym (eqb-true first byte only) ∙ is))
only-no_head byte (first ∷ second ∷ more) only other = cc

-- an index counted from further ahead
abbrev shifted : ℕ → Option ℕ → Option ℕ
shifted count index = option_map (λ k. count + k) index

shifted-step : (count : ℕ) (ends : Bool) (later : Option ℕ) → shifted count (if ends then Some 0 else option_map suc later) ≡ (if ends then Some count else shifted (count + 1) later)
shifted-step count ends later = grind arith

or-step : {X : Type 0} (found : Option X) (test : Bool) (x : X) (later : Option X)
    → option_or found (if test then Some x else later) ≡ option_or (option_or found (if test then Some x else None)) later
or-step found test x later = grind arith

module _ (source : List ℕ) (words : List Word) (brace : ℕ) where
  abbrev text_at : ℕ → List ℕ
  text_at index = word_text source (word_at words index)

  -- the search from an index on gives what the whole gives, and so do the words that begin heads
  pub record Searches (index opened closed : ℕ) (nested : Option Word) : Type 0 where
    pub found : shifted (index - (brace + 1)) (matching_after opened closed (map (word_text source) (drop index words)))
        ≡ matching (map (word_text source) (drop (brace + 1) words))
    pub heads : (to : ℕ) → index ≤ to → option_or nested (find (is_head source) (take (to - index) (drop index words))) ≡ find (is_head source) (take (to - brace) (drop brace words))
    pub opened_bound : opened ≤ index
    pub closed_bound : closed ≤ index

  heads-step : (index to : ℕ) (nested : Option Word) → index < length words → index + 1 ≤ to
      → option_or nested (find (is_head source) (take (to - index) (drop index words)))
      ≡ option_or (option_or nested (if is_head source (word_at words index) then Some (word_at words index) else None)) (find (is_head source) (take (to - (index + 1)) (drop (index + 1) words)))
  heads-step index to nested within below =
      let size : to - index ≡ suc (to - (index + 1)) = omega arith in
      rw (size, drop-word words index within) (or-step nested (is_head source (word_at words index)) (word_at words index) _)

  module _ (brace_within : brace < length words) (brace_opens : is_only 123 (text_at brace) ≡ true) where
    body-is : body_after source (drop brace words) ≡ option_map (λ count. take count (drop (brace + 1) words)) (matching (map (word_text source) (drop (brace + 1) words)))
    body-is = rw (drop-word words brace brace_within, brace_opens) refl

    pub searches_start : Searches (brace + 1) 0 0 None
    searches_start =
        let none : brace + 1 - (brace + 1) ≡ 0 = omega arith in
        record {
          found = rw none (grind arith);
          heads = λ to below. sym (heads-step brace to None brace_within below ∙ rw (only-no_head 123 (text_at brace) brace_opens (λ never. omega arith)) refl);
          opened_bound = omega arith;
          closed_bound = omega arith;
        }

    module _ (index opened closed : ℕ) (nested : Option Word) (searches : Searches index opened closed nested) where
      pub searches_end : length words ≤ index → body_after source (drop brace words) ≡ None
      searches_end past = body-is ∙ ap (option_map (λ count. take count (drop (brace + 1) words))) (sym (rw (drop_all index words past) at searches.found))

      module _ (after : brace + 1 ≤ index) (within : index < length words) where
        step : (if closes (text_at index) && opened == closed then Some (index - (brace + 1)) else shifted (index - (brace + 1) + 1)
            (matching_after (opened + one_if (opens (text_at index))) (closed + one_if (closes (text_at index)))
            (map (word_text source) (drop (index + 1) words))))
            ≡ matching (map (word_text source) (drop (brace + 1) words))
        step = sym (shifted-step (index - (brace + 1)) (closes (text_at index) && opened == closed) _)
            ∙ rw (drop-word words index within) at searches.found

        pub searches_found : (closes (text_at index) && opened == closed) ≡ true → IsBody source words brace (record { from = brace + 1; to = index }) nested
        searches_found here =
            let closing : closes (text_at index) ≡ true = grind arith in
            let none : index + 1 - (index + 1) ≡ 0 = omega arith in
            record {
              closed = body-is ∙ ap (option_map (λ count. take count (drop (brace + 1) words))) (sym (rw here at step));
              from = refl;
              ordered = after;
              within = within;
              heads = sym (sym (searches.heads (index + 1) (omega arith)) ∙ heads-step index (index + 1) nested within (omega arith)
                  ∙ rw (none, only-no_head 125 (text_at index) closing (λ never. omega arith)) (grind arith));
            }

        pub searches_more : (closes (text_at index) && opened == closed) ≡ false
            → Searches (index + 1) (opened + one_if (opens (text_at index))) (closed + one_if (closes (text_at index)))
            (option_or nested (if is_head source (word_at words index) then Some (word_at words index) else None))
        searches_more here =
            let further : index + 1 - (brace + 1) ≡ index - (brace + 1) + 1 = omega arith in
            record {
              found = rw further (rw here at step);
              heads = λ to below. sym (heads-step index to nested within below) ∙ searches.heads to (omega arith);
              opened_bound = grind (arith, searches.opened_bound);
              closed_bound = grind (arith, searches.closed_bound);
            }
