use Rattle.std.proofs.Common.{pos, ◌*ℤ◌, arith, FitsSigned, w32, w64, ◌∙◌, refl}
use Rattle.std.proofs.lemmas.Int.{to_z-of_z}
use Rattle.jiff_core.proofs.SignedLemmas.{signed_arith}
use Rattle.clock_port.proofs.shown_at.Goals as goal

pub returns : goal.returns
returns c =
    let moment = rw c.unwrap-moment.ensures at c.from_second.ensures.value in
    let offset = rw c.unwrap-offset.ensures at c.from_seconds.ensures.value in
    let fits : FitsSigned w64 c.args.seconds = c.ranges.seconds in
    let offset_fits : FitsSigned w32 c.args.offset_minutes = c.ranges.offset_minutes in
    let product_fits : FitsSigned w32 (c.args.offset_minutes *ℤ pos 60) = omega (arith, signed_arith, c.requires.offset_from, c.requires.offset_to) in
    c.to_datetime.ensures ∙ rw (moment, offset, to_z-of_z w64 c.args.seconds fits, to_z-of_z w32 c.args.offset_minutes offset_fits, to_z-of_z w32 (c.args.offset_minutes *ℤ pos 60) product_fits) refl
