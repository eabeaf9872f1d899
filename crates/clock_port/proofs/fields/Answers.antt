use Rattle.std.proofs.Common.{◌≡◌, ℕ, ℤ, pos, unsigned_abs, FitsSigned, w8, w16, w32, w64, to_z, of_z, arith, ap, sym, ◌∙◌, refl}
use Rattle.std.proofs.lemmas.Int.{to_z-of_z}
use mir.Syntax.{Width}
use Rattle.jiff_core.proofs.CalendarLemmas.{days_in_month_bounds, days_in_year_bounds, day_of_year_bound}
use Rattle.jiff_core.proofs.DateLemmas.{civil}
use Rattle.jiff_core.proofs.SignedLemmas.{signed_arith}
use Rattle.clock_port.proofs.Shown.{shows}
use Rattle.clock_port.proofs.fields.Goals as goal

-- the size of a small number is that number
size_of : (w : Width) (z : ℤ) (size : ℕ) (answer : ℕ) → FitsSigned w (pos size) → z ≡ pos size → answer ≡ unsigned_abs (to_z w (of_z w z)) → answer ≡ size
size_of w z size answer fits is found = found ∙ rw is (ap unsigned_abs (to_z-of_z w (pos size) fits))

year_of : (z year : ℤ) (answer : ℕ) → FitsSigned w16 year → z ≡ year → answer ≡ unsigned_abs (to_z w16 (of_z w16 z)) → answer ≡ unsigned_abs year
year_of z year answer fits is found = found ∙ rw is (ap unsigned_abs (to_z-of_z w16 year fits))

pub returns : goal.returns
returns c =
    let fits : FitsSigned w64 c.args.seconds = c.ranges.seconds in
    let offset_fits : FitsSigned w32 c.args.offset_minutes = c.ranges.offset_minutes in
    let at = c.shown_at-shown.result in
    let shown = rw (to_z-of_z w64 c.args.seconds fits, to_z-of_z w32 c.args.offset_minutes offset_fits) at c.shown_at-shown.ensures in
    let year = year_of _ at.date.year _ (omega (arith, signed_arith, at.date.year_in)) c.year.ensures c.unsigned_abs.ensures.value in
    let month = size_of w8 _ at.date.month _ (omega (arith, signed_arith, at.date.month_in)) c.month.ensures c.unsigned_abs-2.ensures.value in
    let day = size_of w8 _ at.date.day _ (omega (arith, signed_arith, at.date.day_in, days_in_month_bounds at.date.year at.date.month)) c.day.ensures c.unsigned_abs-3.ensures.value in
    let hour = size_of w8 _ at.time.hour _ (omega (arith, signed_arith, at.time.hour_in)) c.hour.ensures c.unsigned_abs-4.ensures.value in
    let minute = size_of w8 _ at.time.minute _ (omega (arith, signed_arith, at.time.minute_in)) c.minute.ensures c.unsigned_abs-5.ensures.value in
    let second = size_of w8 _ at.time.second _ (omega (arith, signed_arith, at.time.second_in)) c.second.ensures c.unsigned_abs-6.ensures.value in
    let sunday = rw c.weekday.ensures at c.to_sunday_zero_offset.ensures.value in
    let weekday = size_of w8 _ _ _ (omega (arith, signed_arith)) sunday c.unsigned_abs-7.ensures.value in
    let year_day = size_of w16 _ _ _ (omega (arith, signed_arith, day_of_year_bound _ _ _ (civil at.date), days_in_year_bounds at.date.year)) c.day_of_year.ensures c.unsigned_abs-8.ensures.value in
    sym (shows at c.args.seconds c.args.offset_minutes c.requires.seconds_from c.requires.offset_from shown
    ∙ rw (year, month, day, hour, minute, second, weekday, year_day) refl)
