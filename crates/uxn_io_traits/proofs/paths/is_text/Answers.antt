use Rattle.std.proofs.Common.{◌≡◌, Bool, true, false, List, ℕ, Result, Ok, Err, MatchResult, is_ok, refl, sym, ◌∙◌}
use Rattle.std.specs.Str.{is_utf8, IsUtf8}
use Rattle.std.proofs.lemmas.Str.{IsUtf8-from_is_utf8, is_utf8-from_IsUtf8}
use Rattle.uxn_io_traits.proofs.paths.is_text.Goals as goal

not_true : (b : Bool) → (b ≡ true → ⊥) → false ≡ b
not_true true f = absurd (f refl)
not_true false f = refl

answered : {A E : Type 0} (bs : List ℕ) (r : Result A E) (P : A → Type 0) (Q : E → Type 0) → MatchResult r (λ s. P s × IsUtf8 bs) (λ e. ¬ (IsUtf8 bs) × Q e) → is_ok r ≡ is_utf8 bs
answered bs (Ok s) P Q h = sym (is_utf8-from_IsUtf8 bs h.1)
answered bs (Err e) P Q h = not_true (is_utf8 bs) (λ e. h.0 (IsUtf8-from_is_utf8 bs e))

pub returns : goal.returns
returns c = c.is_ok.ensures.value ∙ answered _ _ _ _ c.from_utf8.ensures.cases
