-- What `path_of` answers, test by test, and how a path is kept.
use Rattle.std.proofs.Common.{◌≡◌, ℕ, ◌-◌, ◌≤◌, Bool, true, false, cond, not, ◌&&◌, List, ◌++◌, take, drop, length, replicate, Result, Ok, Err, is_ok, refl, ap, sym, ◌∙◌, arith, eqb}
use Rattle.std.specs.List.{list_all}
use Rattle.std.specs.Str.{is_utf8}
use Rattle.std.proofs.lemmas.Bool.{ltb-false, or_parts}
use Rattle.std.proofs.lemmas.List.{length-append, take_at, drop_at, drop-replicate}
use Rattle.uxn_io_traits.specs.declared.paths.PathFault.{PathFault}
use Rattle.uxn_io_traits.specs.declared.paths.PathFault.TheVariants.{Empty, BadComponent, TooLong}
use Rattle.uxn_io_traits.specs.PathText.{path_of, components, is_component, is_too_long}
use Rattle.uxn_io_traits.specs.PathBytes.{IsPathBytes}

-- the answer, from the three tests
abbrev pub answer_of : List ℕ → Bool → Bool → Bool → Result (List ℕ) PathFault
answer_of text empty good long = cond empty (Err Empty) (cond (not good) (Err BadComponent) (cond long (Err TooLong) (Ok text)))

pub path_of-tests : (text : List ℕ) (empty good long : Bool) → empty ≡ eqb (length text) 0 → good ≡ (is_utf8 text && list_all is_component (components text)) → long ≡ is_too_long text → path_of text ≡ answer_of text empty good long
unfolding path_of
path_of-tests text empty good long is_empty is_good is_long i = answer_of text (sym is_empty i) (sym is_good i) (sym is_long i)

answer_is_text : (text : List ℕ) (empty good long : Bool) → is_ok (answer_of text empty good long) ≡ true → answer_of text empty good long ≡ Ok text
answer_is_text text true good long e = cc
answer_is_text text false false long e = cc
answer_is_text text false true true e = cc
answer_is_text text false true false e = refl

-- where a text is a path, it is that path
pub path_of_text : (text : List ℕ) → is_ok (path_of text) ≡ true → path_of text ≡ Ok text
unfolding path_of
path_of_text text e = answer_is_text text _ _ _ e

-- a text and zeros behind it keep the text
pub kept : (text bytes : List ℕ) → length text ≤ 255 → bytes ≡ text ++ replicate (255 - length text) 0 → path_of text ≡ Ok text → IsPathBytes bytes (length text)
kept text bytes short is path =
    let prefix : take (length text) bytes ≡ text = ap (take (length text)) is ∙ take_at text _ _ refl in
    record {
      within = rw is (omega (arith, length-append text (replicate (255 - length text) 0)));
      path = ap (λ (z : List ℕ). is_ok (path_of z)) prefix ∙ ap (λ (r : Result (List ℕ) PathFault). is_ok r) path;
      zeros = ap (drop (length text)) is ∙ drop_at text _ _ refl;
    }

-- the text that is kept so
pub kept_text : (text bytes zeros : List ℕ) → bytes ≡ text ++ zeros → take (length text) bytes ≡ text
kept_text text bytes zeros is = ap (take (length text)) is ∙ take_at text zeros _ refl

-- the text written over the prefix of zeros
pub padded_text : (text prefix zeros : List ℕ) → prefix ≡ text → zeros ≡ replicate 255 0 → length text ≤ 255 → prefix ++ drop (length text) zeros ≡ text ++ replicate (255 - length text) 0
padded_text text prefix zeros is_text is_zeros short i = is_text i ++ (ap (drop (length text)) is_zeros ∙ drop-replicate (length text) 255 0) i

-- a text that is not too long has at most 255 bytes
pub fits_from_short : (text : List ℕ) → false ≡ is_too_long text → length text ≤ 255
fits_from_short text e = ltb-false 255 (length text) (or_parts _ _ (sym e)).1
