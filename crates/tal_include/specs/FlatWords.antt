-- What the words of a flat text are.
use Rattle.std.specs.Prelude.{◌≡◌, ◌≤◌, ℕ, List, true, length, map, None, IsSome}
use Rattle.std.specs.List.{AllByRecursion}
use Rattle.uxn_limits.specs.declared.limits.TheConstants.{TEXT_LIMIT}
use Rattle.tal_words.specs.Comments.{words_of, word_fault}
use Rattle.tal_include.specs.Flat.{Flat, origin_at}
use Rattle.tal_include.specs.Splice.{has_includes}

-- the words of the text are the spliced ones: they begin where these do, and each has an origin; none has a fault of words, and
-- the text of a source with includes is no longer than a source may be
pub record HasItsWords (source : List ℕ) (flat : Flat) : Type 0 where
  pub begins : map (λ word. word.span.start) (words_of flat.text) ≡ map (λ place. place.at) flat.places
  pub origins : AllByRecursion (λ word. IsSome (origin_at flat word.span.start)) (words_of flat.text)
  pub faultless : length flat.text ≤ TEXT_LIMIT → word_fault flat.text ≡ None
  pub short : has_includes source ≡ true → length flat.text ≤ TEXT_LIMIT
