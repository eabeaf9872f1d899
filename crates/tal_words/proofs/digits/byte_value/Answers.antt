use Rattle.std.proofs.Common.{[], ◌∷◌, slice_index_or, ap}
use Rattle.std.specs.Result.{is_ok}
use Rattle.std.proofs.lemmas.Result.{MatchResult-at_ok}
use Rattle.tal_words.specs.Digits.{number_of_digits}
use Rattle.tal_words.proofs.Numbers.{byte_read}
use Rattle.tal_words.proofs.digits.byte_value.Goals as goal

pub unwrap-requires : goal.unwrap-requires
unwrap-requires c =
    let read = MatchResult-at_ok _ _ (number_of_digits c.args.text.now ∷ []) (byte_read c.args.text.now c.requires) c.decode_to_slice.ensures.value in
    ap is_ok read.0

pub returns : goal.returns
returns c =
    let read = MatchResult-at_ok _ _ (number_of_digits c.args.text.now ∷ []) (byte_read c.args.text.now c.requires) c.decode_to_slice.ensures.value in
    ap (λ bytes. slice_index_or bytes 0 0) read.1
