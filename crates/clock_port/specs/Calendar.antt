-- The proleptic Gregorian calendar (ISO 8601), in days and seconds from the start of the year 1; the ports' own counts
-- are those of the Varvara device reference: months, weekdays and days of the year from 0, and Sunday is weekday 0.
use Rattle.std.specs.Prelude.{◌<◌, ◌≤◌, ℕ, zero, suc, ◌+◌, ◌-◌, ◌*◌, ◌/◌, ◌%◌, nat_le, Bool, not}
use Rattle.std.specs.Prelude.{◌&&◌, ◌||◌, ◌==◌, if◌then◌else◌, ℤ, pos, ◌+ℤ◌, ◌*ℤ◌, unsigned_abs}
use Rattle.std.specs.Prelude.{List, [], ◌∷◌, take, sum, slice_index}
use Rattle.clock_port.specs.declared.CivilFields.{CivilFields}

-- every fourth year is a leap year, but of the centuries only every fourth
abbrev pub is_leap_year : ℕ → Bool
is_leap_year year = year % 4 == 0 && (not (year % 100 == 0) || year % 400 == 0)

-- the days of all years before this one: 365 each, and one more for each leap year
unfoldable pub days_before_year : ℕ → ℕ
days_before_year year = 365 * (year - 1) + (year - 1) / 4 - (year - 1) / 100 + (year - 1) / 400

-- the lengths of a year's months
abbrev pub month_lengths : ℕ → List ℕ
month_lengths year = 31 ∷ (if is_leap_year year then 29 else 28) ∷ 31 ∷ 30 ∷ 31 ∷ 30 ∷ 31 ∷ 31 ∷ 30 ∷ 31 ∷ 30 ∷ 31 ∷ []

-- the days of a year before its month; January is 0
unfoldable pub days_before_month : ℕ → ℕ → ℕ
days_before_month year month = sum (take month (month_lengths year))

-- the last of the first n numbers that passes a test, or 0
unfoldable pub last_below : ℕ → (ℕ → Bool) → ℕ
last_below zero passes = 0
last_below (suc n) passes = if passes n then n else last_below n passes

-- the year of a day: the last one that has begun
unfoldable pub year_of : ℕ → ℕ
year_of day = last_below 10000 (λ year. nat_le (days_before_year year) day)

-- the month of a day of the year, both from 0: the last one that has begun
unfoldable pub month_of : ℕ → ℕ → ℕ
month_of year place = last_below 12 (λ month. nat_le (days_before_month year month) place)

-- the fields of a day and a second of that day; 1 January of the year 1 is day 0, and was a Monday
abbrev pub fields_of : ℕ → ℕ → CivilFields
fields_of day second =
    let year = year_of day in
    let place = day - days_before_year year in
    let month = month_of year place in
    record {
      year = year;
      month = month;
      day = place - days_before_month year month + 1;
      hour = second / 3600;
      minute = second / 60 % 60;
      second = second % 60;
      weekday = (day + 1) % 7;
      year_day = place;
    }

-- a date of the years 1 to 9999; January is month 0
pub record IsDate (year month day : ℕ) : Type 0 where
  pub year_from : 1 ≤ year
  pub year_to : year < 10000
  pub month_to : month < 12
  pub day_from : 1 ≤ day
  pub day_to : day ≤ slice_index (month_lengths year) month

-- its day, counted from 1 January of the year 1
abbrev pub day_number : ℕ → ℕ → ℕ → ℕ
day_number year month day = days_before_year year + days_before_month year month + day - 1

-- the fields of a date and a second of its day
abbrev pub date_fields : ℕ → ℕ → ℕ → ℕ → CivilFields
date_fields year month day second = record {
  year = year;
  month = month;
  day = day;
  hour = second / 3600;
  minute = second / 60 % 60;
  second = second % 60;
  weekday = (day_number year month day + 1) % 7;
  year_day = days_before_month year month + day - 1;
}

-- how many seconds lie between the start of the year 1 and what a clock shows: seconds are counted from 1970, and the
-- clock is ahead by the offset's minutes
abbrev pub clock_seconds : ℤ → ℤ → ℕ
clock_seconds seconds offset = unsigned_abs (pos (days_before_year 1970 * 86400) +ℤ seconds +ℤ offset *ℤ pos 60)

-- what a clock shows at a moment
unfoldable pub civil_fields : ℤ → ℤ → CivilFields
civil_fields seconds offset = fields_of (clock_seconds seconds offset / 86400) (clock_seconds seconds offset % 86400)
