-- The date and the time that the calendar crate gives are the fields of the clock.
use Rattle.std.proofs.Common.{◌≡◌, ℕ, zero, suc, ◌+◌, ◌-◌, ◌*◌, ◌/◌, ◌%◌, ◌<◌, ◌≤◌, get_or, refl, sym, ap, subst, ◌∙◌, arith, ℤ, pos, negsuc, neg_ℤ, ◌+ℤ◌, ◌*ℤ◌, ◌≤ℤ◌, unsigned_abs}
use Rattle.std.proofs.lemmas.Int.{by_lt_z}
use Rattle.jiff_core.specs.declared.civil.datetime.DateTime.{DateTime}
use Rattle.jiff_core.specs.declared.civil.date.Date.{Date}
use Rattle.jiff_core.specs.declared.civil.time.Time.{Time}
use Rattle.jiff_core.specs.Calendar.{day_count, days_from_civil, days_of_months, days_in_month, weekday_number}
use Rattle.jiff_core.specs.Date.{epoch_day, ordinal, weekday_of}
use Rattle.jiff_core.specs.DateTime.{civil_nanos}
use Rattle.jiff_core.proofs.CalendarLemmas.{day_count-epoch, day_count-next_year, day_count-day_of_year, day_count-lt_year, days_of_months-zero, days_of_months_more, days_from_civil-day_count, weekday_number-parts}
use Rattle.jiff_core.proofs.DateLemmas.{civil}
use Rattle.jiff_core.proofs.DateTimeLemmas.{civil_nanos-parts}
use Rattle.jiff_core.proofs.SignedLemmas.{signed_arith}
use Rattle.clock_port.specs.Calendar.{days_before_year, days_before_month, month_lengths, day_number, clock_seconds, civil_fields, IsDate}
use Rattle.clock_port.proofs.Gregorian.{next_year, next_month, date_found}
use borrow.Author.Differences.{up, down}
use Rattle.std.proofs.lemmas.Grind.{common_steps}

from_year_1 : (year : ℕ) → day_count (pos (suc year)) 1 1 ≡ day_count (pos 1) 1 1 + days_before_year (suc year)
unfolding days_before_year
from_year_1 zero = omega arith
from_year_1 (suc year) =
    let next : suc year + 1 ≡ suc (suc year) = omega arith in
    let step = day_count-next_year (pos (suc year)) (pos (suc (suc year))) (omega (arith, signed_arith)) (omega (arith, signed_arith)) in
    omega (arith, step, from_year_1 year, rw next at (next_year year))

-- 1 January 1970 is day 719162 from 1 January of the year 1
epoch : days_before_year 1970 ≡ 719162
unfolding days_before_year
epoch = refl

before_1969 : days_before_year 1969 ≡ 718797
unfolding days_before_year
before_1969 = refl

pub first_of_year : (year : ℕ) → day_count (pos (suc year)) 1 1 + 719162 ≡ 4371953 + days_before_year (suc year)
first_of_year year = omega (arith, from_year_1 year, from_year_1 1969, epoch, day_count-epoch)

-- the length of a month, and the days before it
length_is : (year month : ℕ) → month < 12 → days_in_month (pos year) (month + 1) ≡ get_or (month_lengths year) month 0
length_is year zero within = grind arith
length_is year (suc zero) within = grind arith
length_is year (suc (suc zero)) within = grind arith
length_is year (suc (suc (suc zero))) within = grind arith
length_is year (suc (suc (suc (suc zero)))) within = grind arith
length_is year (suc (suc (suc (suc (suc zero))))) within = grind arith
length_is year (suc (suc (suc (suc (suc (suc zero)))))) within = grind arith
length_is year (suc (suc (suc (suc (suc (suc (suc zero))))))) within = grind arith
length_is year (suc (suc (suc (suc (suc (suc (suc (suc zero)))))))) within = grind arith
length_is year (suc (suc (suc (suc (suc (suc (suc (suc (suc zero))))))))) within = grind arith
length_is year (suc (suc (suc (suc (suc (suc (suc (suc (suc (suc zero)))))))))) within = grind arith
length_is year (suc (suc (suc (suc (suc (suc (suc (suc (suc (suc (suc zero))))))))))) within = grind arith
length_is year (suc (suc (suc (suc (suc (suc (suc (suc (suc (suc (suc (suc month)))))))))))) within = absurd (omega arith)

none_before : (year : ℤ) → days_before_month (unsigned_abs year) 0 ≡ 0
unfolding days_before_month
none_before year = refl

start_is : (year month : ℕ) → month < 12 → days_of_months (pos year) month ≡ days_before_month year month
start_is year zero within = days_of_months-zero (pos year) ∙ sym (none_before (pos year))
start_is year (suc month) within =
    let next : suc month ≡ month + 1 = omega arith in
    let back : month + 1 - 1 ≡ month = omega arith in
    let more : days_of_months (pos year) (month + 1) ≡ days_of_months (pos year) month + days_in_month (pos year) (month + 1) =
    rw back at (days_of_months_more (pos year) (month + 1) (omega arith)) in
    rw next (more ∙ rw (start_is year month (omega arith), length_is year month (omega arith)) (sym (next_month year month (omega arith))))

natural : (z : ℤ) → pos 1969 ≤ℤ z → z ≤ℤ pos 9999 → (year : ℕ) × (z ≡ pos (suc year)) × (suc year < 10000)
natural (pos zero) from to = absurd (omega (arith, signed_arith))
natural (pos (suc year)) from to = (year, refl, omega (arith, signed_arith))
natural (negsuc n) from to = absurd (omega (arith, signed_arith))

-- a date from 31 December 1969 on has a year from 1969 on
year_is : (d : Date) → negsuc 0 ≤ℤ epoch_day d → (year : ℕ) × (d.year ≡ pos (suc year)) × (suc year < 10000)
year_is d late = by_lt_z d.year (pos 1969)
    (λ early. absurd (omega (arith, signed_arith, late, days_from_civil-day_count d.year d.month d.day, day_count-lt_year d.year d.month d.day (pos 1969) 1 1 (civil d) (omega arith) early, first_of_year 1968, before_1969)))
    (λ from. natural d.year from d.year_in.1)

-- the day of a date
day_is : (year month day : ℕ) → 1 ≤ month → month < 13 → 1 ≤ day → up (days_from_civil (pos (suc year)) month day) + 719162 ≡ down (days_from_civil (pos (suc year)) month day) + day_number (suc year) (month - 1) day
day_is year month day from to first =
    omega (arith, days_from_civil-day_count (pos (suc year)) month day, day_count-day_of_year (pos (suc year)) month day first, first_of_year year, start_is (suc year) (month - 1) (omega arith))

-- the seconds of a time
abbrev seconds_of : Time → ℕ
seconds_of time = time.hour * 3600 + time.minute * 60 + time.second

-- a date and a time that are as far from the start of 1970 as the clock
whole_seconds : (dt : DateTime) (seconds offset : ℤ) → civil_nanos dt ≡ seconds *ℤ pos 1000000000 +ℤ offset *ℤ pos 60 *ℤ pos 1000000000 → epoch_day dt.date *ℤ pos 86400 +ℤ pos (seconds_of dt.time) ≡ seconds +ℤ offset *ℤ pos 60
whole_seconds dt seconds offset same = omega (arith, signed_arith, civil_nanos-parts dt, same, dt.time.subsec_in)

clock_is : (day : ℤ) (number second : ℕ) (seconds offset : ℤ) → up day + 719162 ≡ down day + number → day *ℤ pos 86400 +ℤ pos second ≡ seconds +ℤ offset *ℤ pos 60 → clock_seconds seconds offset ≡ number * 86400 + second
clock_is day number second seconds offset numbered same =
    let start : 719162 * 86400 ≡ 62135596800 = refl in
    let whole : pos 62135596800 +ℤ seconds +ℤ offset *ℤ pos 60 ≡ pos (number * 86400 + second) = omega (arith, signed_arith, numbered, same) in
    rw (epoch, start) (ap unsigned_abs whole)

weekday_is : (day : ℤ) (number : ℕ) → up day + 719162 ≡ down day + number → (number + 1) % 7 ≡ (weekday_number day + 1) % 7
weekday_is day number numbered = omega (arith, weekday_number-parts day)

is_date : (d : Date) (year : ℕ) → d.year ≡ pos (suc year) → suc year < 10000 → IsDate (suc year) (d.month - 1) d.day
is_date d year e within = grind (arith, common_steps)

pub shows : (dt : DateTime) (seconds offset : ℤ) → pos 0 ≤ℤ seconds → neg_ℤ (pos 840) ≤ℤ offset → civil_nanos dt ≡ seconds *ℤ pos 1000000000 +ℤ offset *ℤ pos 60 *ℤ pos 1000000000
    → civil_fields seconds offset ≡ record {
      year = unsigned_abs dt.date.year;
      month = dt.date.month - 1;
      day = dt.date.day;
      hour = dt.time.hour;
      minute = dt.time.minute;
      second = dt.time.second;
      weekday = (weekday_of dt.date + 1) % 7;
      year_day = ordinal dt.date - 1;
    }
unfolding civil_fields
shows dt seconds offset from least same =
    let d = dt.date in
    let time = dt.time in
    let whole = whole_seconds dt seconds offset same in
    let small : seconds_of time < 86400 = omega (arith, time.hour_in, time.minute_in, time.second_in) in
    let late : negsuc 0 ≤ℤ epoch_day d = omega (arith, signed_arith, whole, small, from, least) in
    let found = year_is d late in
    let year = found.0 in
    let e : d.year ≡ pos (suc year) = found.1 in
    let date = is_date d year e found.2 in
    let number = day_number (suc year) (d.month - 1) d.day in
    let numbered : up (epoch_day d) + 719162 ≡ down (epoch_day d) + number =
    subst (λ y. up (days_from_civil y d.month d.day) + 719162 ≡ down (days_from_civil y d.month d.day) + number) (sym e)
    (day_is year d.month d.day d.month_in.0 (omega (arith, d.month_in.1)) d.day_in.0) in
    let clock = clock_is (epoch_day d) number (seconds_of time) seconds offset numbered whole in
    let days : (number * 86400 + seconds_of time) / 86400 ≡ number = omega (arith, small) in
    let rest : (number * 86400 + seconds_of time) % 86400 ≡ seconds_of time = omega (arith, small) in
    let hour : seconds_of time / 3600 ≡ time.hour = omega (arith, time.minute_in, time.second_in) in
    let minute : seconds_of time / 60 % 60 ≡ time.minute = omega (arith, time.minute_in, time.second_in) in
    let second : seconds_of time % 60 ≡ time.second = omega (arith, time.second_in) in
    let place : days_before_month (suc year) (d.month - 1) ≡ days_of_months d.year (d.month - 1) =
    subst (λ y. days_before_month (suc year) (d.month - 1) ≡ days_of_months y (d.month - 1)) (sym e)
    (sym (start_is (suc year) (d.month - 1) (omega (arith, d.month_in.0, d.month_in.1)))) in
    let year_abs : unsigned_abs d.year ≡ suc year = ap unsigned_abs e in
    rw (clock, days, rest) (date_found (suc year) (d.month - 1) d.day (seconds_of time) date
    ∙ rw (hour, minute, second, weekday_is (epoch_day d) number numbered, place, year_abs) refl)
