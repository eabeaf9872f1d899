use Rattle.std.proofs.Common.{◌≡◌, [], ◌∷◌, ap, ◌∙◌, arith}
use Rattle.std.specs.Int.{w16, from_be_bytes}
use Rattle.std.specs.Result.{is_ok}
use Rattle.std.proofs.lemmas.Result.{MatchResult-at_ok}
use Rattle.tal_words.specs.Digits.{number_of_digits}
use Rattle.tal_words.proofs.Numbers.{short_read}
use Rattle.tal_words.proofs.digits.short_value.Goals as goal

pub unwrap-requires : goal.unwrap-requires
unwrap-requires c =
    let short = short_read c.args.text.now c.requires in
    let read = MatchResult-at_ok _ _ (short.high ∷ short.low ∷ []) short.read c.decode_to_slice.ensures.value in
    ap is_ok read.0

pub returns : goal.returns
returns c =
    let short = short_read c.args.text.now c.requires in
    let read = MatchResult-at_ok _ _ (short.high ∷ short.low ∷ []) short.read c.decode_to_slice.ensures.value in
    let sum : from_be_bytes w16 (short.high ∷ short.low ∷ []) ≡ number_of_digits c.args.text.now = omega (arith, short.value) in
    c.from_be_bytes.ensures ∙ ap (from_be_bytes w16) read.1 ∙ sum
