-- The words of a source are its tokens outside comments (Uxntal syntax reference; profile: the limits).
use Rattle.std.specs.Prelude.{ℕ, zero, suc, Bool, not, ◌&&◌, ◌==◌, nat_lt, if◌then◌else◌, List, [], ◌∷◌}
use Rattle.std.specs.Prelude.{◌++◌, length, fold, Option, Some}
use Rattle.std.specs.List.{list_any}
use Rattle.uxn_limits.specs.declared.limits.TheConstants.{TEXT_LIMIT, WORD_LIMIT}
use Rattle.tal_words.specs.declared.span.Word.{Word}
use Rattle.tal_words.specs.declared.fault.Fault.{Fault}
use Rattle.tal_words.specs.declared.fault.FaultKind.TheVariants.{OpenComment, LongWord, StrayParen, LongSource}
use Rattle.tal_words.specs.Order.{each, collected}
use Rattle.tal_words.specs.Source.{begins, is_only, word_text, tokens_of}
use Rattle.tal_words.specs.Faults.{Validated, when, phase_fault}

-- how many comments are open after a token, where so many are before it: outside comments a token that begins with `(` opens
-- one, and inside one only the tokens `(` and `)` count
abbrev pub depth_after : ℕ → List ℕ → ℕ
depth_after zero text = if begins 40 text then 1 else 0
depth_after (suc outer) text = if is_only 40 text then suc (suc outer) else if is_only 41 text then outer else suc outer

module _ (source : List ℕ) where
  -- the comment depth of a token, by the tokens before it
  unfoldable pub comment_depth : List Word → ℕ
  comment_depth before = fold (λ depth token. depth_after depth (word_text source token)) 0 before

  -- a token stands outside comments
  abbrev pub is_outside : List Word → Bool
  is_outside before = comment_depth before == 0

  -- a token outside comments opens one, or is a word
  abbrev pub opens_comment : List Word → Word → Bool
  opens_comment before token = is_outside before && begins 40 (word_text source token)

  abbrev pub is_word : List Word → Word → Bool
  is_word before token = is_outside before && not (begins 40 (word_text source token))

  -- behind one of the tokens after these no comment is open
  abbrev pub closed_comment : List Word → List Word → Bool
  closed_comment before after = list_any (λ closed. closed) (each (λ earlier token later. is_outside (earlier ++ token ∷ [])) before after)

  -- a token with what is wrong with it
  abbrev pub validated_token : List Word → Word → List Word → Validated
  validated_token before token after = record {
    origin = token;
    kinds =
        when (opens_comment before token && not (closed_comment (before ++ token ∷ []) after)) OpenComment
        ++ when (is_word before token && nat_lt WORD_LIMIT (length (word_text source token))) LongWord
        ++ when (is_word before token && begins 41 (word_text source token)) StrayParen;
  }

  -- the word that a token is
  abbrev pub word_given : List Word → Word → List Word → List Word
  word_given before token after = if is_word before token then token ∷ [] else []

-- a source that is too long is refused as a whole
abbrev pub long_source : Fault
long_source = record { at = 0; line = 1; column = 1; kind = LongSource }

-- the words of a source
unfoldable pub words_of : List ℕ → List Word
words_of source = collected (word_given source) [] (tokens_of source)

-- the first fault of the cutting into words
unfoldable pub word_fault : List ℕ → Option Fault
word_fault source =
    if nat_lt TEXT_LIMIT (length source) then Some long_source
    else phase_fault (each (validated_token source) [] (tokens_of source))
