-- A source without a tilde has no include word.
use Rattle.std.proofs.Common.{◌≡◌, ℕ, zero, suc, arith, Bool, false, List, [], ◌∷◌, take, drop, refl}
use Rattle.std.specs.Prelude.{◌-◌, nat_eq}
use Rattle.std.specs.List.{list_any}
use Rattle.tal_words.specs.declared.span.Word.{Word}
use Rattle.tal_words.specs.Source.{word_text}
use Rattle.tal_words.specs.Comments.{words_of}
use Rattle.tal_include.specs.Includes.{is_include}
use Rattle.tal_include.specs.Splice.{has_includes, is_spliced}

-- 126 is a tilde
abbrev HasTilde : List ℕ → Bool
HasTilde text = list_any (λ byte. nat_eq byte 126) text

none_behind : (n : ℕ) (text : List ℕ) → HasTilde text ≡ false → HasTilde (drop n text) ≡ false
none_behind zero text none = none
none_behind (suc n) [] none = refl
none_behind (suc n) (byte ∷ text) none = grind (arith, none_behind n text)

none_before : (n : ℕ) (text : List ℕ) → HasTilde text ≡ false → HasTilde (take n text) ≡ false
none_before zero text none = refl
none_before (suc n) [] none = refl
none_before (suc n) (byte ∷ text) none = grind (arith, none_before n text)

no_include : (text : List ℕ) → HasTilde text ≡ false → is_include text ≡ false
no_include text none = grind arith

no_includes : (source : List ℕ) (words : List Word) → HasTilde source ≡ false → list_any (λ word. is_include (word_text source word)) words ≡ false
no_includes source [] none = refl
no_includes source (word ∷ words) none =
    rw (no_include (word_text source word) (none_before (word.span.end - word.span.start) (drop word.span.start source) (none_behind word.span.start source none)))
    (no_includes source words none)

pub not_spliced : (source : List ℕ) → HasTilde source ≡ false → false ≡ is_spliced source
not_spliced source none =
    let includes : has_includes source ≡ false = no_includes source (words_of source) none in
    rw includes (grind arith)
