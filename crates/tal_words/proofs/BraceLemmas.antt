-- What words that open or close a lambda are.
use Rattle.std.proofs.Common.{◌≡◌, ℕ, true, false, List, [], ◌∷◌, Ok, refl, sym, ◌∙◌, arith, inl, inr}
use Rattle.std.specs.Prelude.{◌==◌, is_some, unwrap_or}
use Rattle.std.proofs.lemmas.Bool.{and_parts, cases_Bool, eqb-true}
use Rattle.std.proofs.lemmas.Bool.Decides.{nat_tests}
use Rattle.tal_words.specs.declared.form.Form.{Form}
use Rattle.tal_words.specs.declared.form.Form.TheVariants.{LambdaEnd, Refer}
use Rattle.tal_words.specs.declared.form.Rune.{Rune}
use Rattle.tal_words.specs.declared.form.Rune.TheVariants.{Jsi}
use Rattle.tal_words.specs.Braces.{opens, closes}
use Rattle.tal_words.specs.Forms.{form}
use Rattle.tal_words.specs.Names.{rune_of}

-- no word opens and closes
pub opens-closes : (text : List ℕ) → opens text ≡ true → closes text ≡ false
opens-closes [] e = refl
opens-closes (first ∷ []) e = grind (arith, nat_tests)
opens-closes (first ∷ second ∷ rest) e = refl

-- one that closes is the end of a lambda
pub form-closes : (text : List ℕ) → closes text ≡ true → form text ≡ Ok LambdaEnd
unfolding form
form-closes [] e = cc
form-closes (first ∷ []) e = (let same : first ≡ 125 = eqb-true first 125 e in rw same refl)
form-closes (first ∷ second ∷ rest) e = cc

-- one that opens is a reference
braced : (first : ℕ) → is_some (rune_of first) ≡ true → form (first ∷ 123 ∷ []) ≡ Ok (Refer (unwrap_or (rune_of first) Jsi))
unfolding form
braced first some = grind (arith, nat_tests)

pub opener : (text : List ℕ) → opens text ≡ true → (rune : Rune) × (form text ≡ Ok (Refer rune))
unfolding form
opener [] e = cc
opener (first ∷ []) e = (Jsi, grind (arith, nat_tests))
opener (first ∷ second ∷ []) e =
    let parts = and_parts (is_some (rune_of first)) (second == 123) e in
    (unwrap_or (rune_of first) Jsi, rw (eqb-true second 123 parts.1) (braced first parts.0))
opener (first ∷ second ∷ third ∷ rest) e = (let never : false ≡ true = (and_parts (is_some (rune_of first)) false e).1 in cc)

pub not_opening : (text : List ℕ) (shape : Form) → form text ≡ Ok shape → ((rune : Rune) → shape ≡ Refer rune → ⊥) → opens text ≡ false
not_opening text shape e other = elim (cases_Bool (opens text)) [
  | inl opening ↦ (let both : Ok shape ≡ Ok (Refer (opener text opening).0) = sym e ∙ (opener text opening).1 in absurd (other (opener text opening).0 cc))
  | inr closed ↦ closed
]
