use Rattle.std.proofs.Common.{Some, ap}
use Rattle.tal_words.proofs.Numbers.{padded}
use Rattle.tal_words.proofs.digits.address_value.Goals as goal

pub short_value-requires : goal.short_value-requires
short_value-requires c = rw c.copy_from_slice.ensures.after (padded c.args.text.now c.if-is_empty.ensures c.if-text-gt4.false c.if-not-are_digits.ensures).four

pub returns : goal.returns
returns c =
    let digits = padded c.args.text.now c.if-is_empty.ensures c.if-text-gt4.false c.if-not-are_digits.ensures in
    rw (digits.number, c.short_value.ensures, c.copy_from_slice.ensures.after) (ap Some digits.value)
