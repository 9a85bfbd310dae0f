-- The calendar day of a day number. Days are counted from 1970-01-01.
use Rattle.std.specs.Prelude.{ℕ, zero, suc, ◌+◌, ◌/◌, if◌then◌else◌, ℤ, pos, ◌+ℤ◌, ◌-ℤ◌, int_le, unsigned_abs}
use Rattle.jiff_core.specs.Calendar.{days_from_civil, days_in_month}

-- a day of the calendar
pub record Civil : Type 0 where
  pub year : ℤ
  pub month : ℕ
  pub day : ℕ

-- the first of the years from this one on that isn't over before the day, of so many and one more
unfoldable pub year_from : ℕ → ℤ → ℤ → ℤ
year_from zero day year = year
year_from (suc more) day year = if int_le day (days_from_civil year 12 31) then year else year_from more day (year +ℤ pos 1)

-- the first of the year's months from this one on that isn't over before the day
unfoldable pub month_from : ℕ → ℤ → ℤ → ℕ → ℕ
month_from zero day year month = month
month_from (suc more) day year month =
    if int_le day (days_from_civil year month (days_in_month year month)) then month else month_from more day year (month + 1)

-- a year that has begun by the day, and is at most 30 years before it: no year has more than 366 days, nor fewer than 365
abbrev pub early_year : ℤ → ℤ
early_year day = pos (unsigned_abs (day +ℤ pos 719_162) / 366 + 1)

-- the day's place in its month
abbrev pub in_month : ℤ → ℤ → ℕ → Civil
in_month day year month = record { year = year; month = month; day = unsigned_abs (day -ℤ days_from_civil year month 1) + 1 }

abbrev pub in_year : ℤ → ℤ → Civil
in_year day year = in_month day year (month_from 12 day year 1)

-- the day with this number, from 0001-01-01, which is day -719,162, to 9999-12-31
unfoldable pub civil_of_day : ℤ → Civil
civil_of_day day = in_year day (year_from 30 day (early_year day))
