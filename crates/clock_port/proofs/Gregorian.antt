-- The calendar's closed forms: a day has one year, month and day of the month.
use Rattle.std.proofs.Common.{◌≡◌, ℕ, zero, suc, ◌+◌, ◌-◌, ◌<◌, ◌≤◌, Bool, true, false, cond, leb, inl, inr, List, take, get_or, sum, refl, sym, arith, rules, tests}
use Rattle.std.proofs.lemmas.Bool.{cases_eq}
use Rattle.std.proofs.lemmas.List.{take-take}
use Rattle.std.proofs.lemmas.List.Sums.{sum_by-take-le}
use Rattle.clock_port.specs.Calendar.{is_leap_year, days_before_year, days_before_month, month_lengths, last_below, year_of, month_of, fields_of, IsDate, day_number, date_fields}
use Rattle.std.proofs.lemmas.Grind.{common_steps}

-- a year has 365 days, and a leap year one more
pub next_year : (year : ℕ) → days_before_year (suc year + 1) ≡ days_before_year (suc year) + cond (is_leap_year (suc year)) 366 365
unfolding days_before_year
next_year year = grind arith

pub later_year : (year more : ℕ) → days_before_year (suc year) ≤ days_before_year (suc year + more)
later_year year zero = let same : suc year + 0 ≡ suc year = omega arith in rw same (omega arith)
later_year year (suc more) =
    let next : suc year + suc more ≡ suc (year + more) + 1 = omega arith in
    let before : suc year + more ≡ suc (year + more) = omega arith in
    rw next (omega (arith, rw before at (later_year year more), next_year (year + more)))

-- the last number that passes is the one after which none does
pub last_below-is : (n at : ℕ) (passes : ℕ → Bool) → at < n → passes at ≡ true → ((k : ℕ) → at < k → k < n → passes k ≡ false) → last_below n passes ≡ at
unfolding last_below
last_below-is zero at passes within holds later = absurd (omega arith)
last_below-is (suc n) at passes within holds later = elim (cases_eq at n) [
  | inl here ↦ let e : passes n ≡ true = rw (← here) holds in rw e (sym here)
  | inr apart ↦ rw (later n (omega arith) (omega arith)) (last_below-is n at passes (omega arith) holds (λ k after below. later k after (omega arith)))
]

-- the year that has begun by a day, where the next one has not
pub year_of-is : (year day : ℕ) → suc year < 10000 → days_before_year (suc year) ≤ day → day < days_before_year (suc year + 1) → year_of day ≡ suc year
unfolding year_of
year_of-is year day within begun before =
    last_below-is 10000 (suc year) (λ y. leb (days_before_year y) day) within (search (rules, tests)) (λ k after below.
    let same : suc (suc year) + (k - suc (suc year)) ≡ k = omega arith in
    let next : suc year + 1 ≡ suc (suc year) = omega arith in
    let far : day < days_before_year k = omega (arith, rw same at (later_year (suc year) (k - suc (suc year))), rw next at before) in
    search (rules, tests))

-- a later month begins no earlier
later_start : (lengths : List ℕ) (month more : ℕ) → sum (take month lengths) ≤ sum (take (month + more) lengths)
later_start lengths month more =
    rw (sym (take-take month (month + more) lengths (omega arith))) (sum_by-take-le (λ n. n) (take (month + more) lengths) month)

pub later_month : (year month more : ℕ) → days_before_month year month ≤ days_before_month year (month + more)
unfolding days_before_month
later_month year month more = later_start (month_lengths year) month more

pub month_of-is : (year month place : ℕ) → month < 12 → days_before_month year month ≤ place → (month + 1 < 12 → place < days_before_month year (month + 1)) → month_of year place ≡ month
unfolding month_of
month_of-is year month place within begun before =
    last_below-is 12 month (λ m. leb (days_before_month year m) place) within (search (rules, tests)) (λ k after below.
    let same : month + 1 + (k - (month + 1)) ≡ k = omega arith in
    let far : place < days_before_month year k = omega (arith, rw same at (later_month year (month + 1) (k - (month + 1))), before (omega arith)) in
    search (rules, tests))

-- the next month begins after the days of this one, and the year ends with its twelfth
pub next_month : (year month : ℕ) → month < 12 → days_before_month year (month + 1) ≡ days_before_month year month + get_or (month_lengths year) month 0
unfolding days_before_month
next_month year month within = grind (arith, common_steps)

whole_year : (year : ℕ) → days_before_month year 12 ≡ cond (is_leap_year year) 366 365
unfolding days_before_month
whole_year year = grind arith

-- a date is the one that its day has
pub date_found : (year month day second : ℕ) → IsDate year month day → fields_of (day_number year month day) second ≡ date_fields year month day second
date_found zero month day second date = absurd (omega (arith, date.year_from))
date_found (suc year) month day second date =
    let year_begun = days_before_year (suc year) in
    let month_begun = days_before_month (suc year) month in
    let place = month_begun + day - 1 in
    let next = next_month (suc year) month date.month_to in
    let last : 12 ≡ month + 1 + (11 - month) = omega (arith, date.month_to) in
    let in_year : days_before_month (suc year) (month + 1) ≤ cond (is_leap_year (suc year)) 366 365 =
    rw (sym (whole_year (suc year)), last) (later_month (suc year) (month + 1) (11 - month)) in
    let year_is = year_of-is year (day_number (suc year) month day) date.year_to (omega (arith, date.day_from)) (omega (arith, date.day_from, date.day_to, next, in_year, next_year year)) in
    let place_is : day_number (suc year) month day - year_begun ≡ place = omega (arith, date.day_from) in
    let month_is = month_of-is (suc year) month place date.month_to (omega (arith, date.day_from)) (λ _. omega (arith, date.day_from, date.day_to, next)) in
    let day_is : place - month_begun + 1 ≡ day = omega (arith, date.day_from) in
    rw (year_is, place_is, month_is, day_is) refl
