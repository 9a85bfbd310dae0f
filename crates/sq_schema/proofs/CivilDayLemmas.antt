-- The calendar day of a day number is the one that has this number.
use Rattle.std.proofs.Common.{◌≡◌, ℕ, zero, suc, ◌+◌, ◌*◌, ◌/◌, ◌≤◌, Bool, true, false, cond, refl, sym, ◌∙◌, arith, lit≤, ℤ, pos, neg_ℤ, ◌+ℤ◌, ◌-ℤ◌, ◌≤ℤ◌, ◌<ℤ◌, unsigned_abs, inl, inr}
use Rattle.std.specs.Prelude.{int_le}
use Rattle.std.proofs.lemmas.Int.{ints, by_lt_z}
use Rattle.std.proofs.lemmas.Bool.{cases_lt}
use Rattle.jiff.specs.Types.{Date}
use Rattle.jiff.specs.Words.{IsBetween}
use Rattle.jiff_core.specs.Calendar.{days_from_civil, day_count, days_of_years, days_of_months, days_in_month, IsCivilDate}
use Rattle.jiff_core.specs.Date.{epoch_day}
use Rattle.jiff_core.proofs.CalendarLemmas.{days_in_month_bounds, days_in_year_bounds, day_count-next_year, day_count-last_of_year, days_from_civil-day_count}
use Rattle.jiff_core.proofs.DateLemmas.{days_from_civil-day, days_from_civil-next_month, days_from_civil-next_year, epoch_day_injective}
use Rattle.jiff_core.proofs.SignedLemmas.{signed_arith, one_part}
use Rattle.sq_schema.specs.Civil.{Civil, year_from, month_from, civil_of_day}
use Rattle.sq_schema.proofs.IntervalLemmas.{first_day}

-- ---- where the search begins

-- no year has fewer than 365 days, nor more than 366
year_starts : (n : ℕ) → IsBetween (pos (365 * n) -ℤ pos 719_162) (pos (366 * n) -ℤ pos 719_162) (days_from_civil (pos (n + 1)) 1 1)
year_starts zero = (omega (arith, ints, first_day), omega (arith, ints, first_day))
year_starts (suc n) =
    let starts = year_starts n in
    let next : pos (suc n + 1) ≡ pos (n + 1) +ℤ pos 1 = omega (arith, ints) in
    let more = day_count-next_year (pos (n + 1)) (pos (suc n + 1)) (omega (arith, ints)) next in
    let long = days_in_year_bounds (pos (n + 1)) in
    let here = days_from_civil-day_count (pos (n + 1)) 1 1 in
    let there = days_from_civil-day_count (pos (suc n + 1)) 1 1 in
    (omega (arith, signed_arith, starts, more, long, here, there), omega (arith, signed_arith, starts, more, long, here, there))

-- how many days lie between 0001-01-01 and the day
days_before : (day : ℤ) → neg_ℤ (pos 719_162) ≤ℤ day → pos (unsigned_abs (day +ℤ pos 719_162)) ≡ day +ℤ pos 719_162
days_before day h = omega (arith, signed_arith, one_part (day +ℤ pos 719_162))

early_begun : (day : ℤ) (n : ℕ) → pos n ≡ day +ℤ pos 719_162 → days_from_civil (pos (n / 366 + 1)) 1 1 ≤ℤ day
early_begun day n e = let starts = year_starts (n / 366) in omega (arith, signed_arith, starts, e)

early_enough : (day : ℤ) (n : ℕ) → pos n ≡ day +ℤ pos 719_162 → day ≤ℤ pos 2_932_896 → day ≤ℤ days_from_civil (pos (n / 366 + 1) +ℤ pos 30) 12 31
early_enough day n e within =
    let same : pos (n / 366 + 1) +ℤ pos 30 ≡ pos (n / 366 + 30 + 1) = omega (arith, ints) in
    let starts = year_starts (n / 366 + 30) in
    let y = pos (n / 366 + 30 + 1) in
    rw same (omega (arith, signed_arith, starts, e, day_count-last_of_year y, days_in_year_bounds y, days_from_civil-day_count y 1 1, days_from_civil-day_count y 12 31))

-- ---- what the search finds

int_le-order : (m n : ℤ) → int_le m n ≡ true → m ≤ℤ n
int_le-order m n h = grind (arith, ints)

int_le-over : (m n : ℤ) → int_le m n ≡ false → n <ℤ m
int_le-over m n h = grind (arith, ints)

last_day : days_from_civil (pos 9999) 12 31 ≡ pos 2_932_896
unfolding days_from_civil day_count days_of_years days_of_months
last_day = refl

-- a year from y to 9999 that isn't over before the day
record YearOf (day y year : ℤ) : Type 0 where
  first : y ≤ℤ year
  last : year ≤ℤ pos 9999
  over : day ≤ℤ days_from_civil year 12 31

year_by : (day y next : ℤ) (b : Bool) → int_le day (days_from_civil y 12 31) ≡ b → y ≤ℤ pos 9999 → (b ≡ false → YearOf day (y +ℤ pos 1) next) → YearOf day y (cond b y next)
year_by day y next true e h later = record { first = omega (arith, ints); last = h; over = int_le-order _ _ e }
year_by day y next false e h later =
    let found = later refl in
    record { first = omega (arith, ints, found.first); last = found.last; over = found.over }

before_last : (day y : ℤ) → y ≤ℤ pos 9999 → day ≤ℤ pos 2_932_896 → int_le day (days_from_civil y 12 31) ≡ false → y <ℤ pos 9999
before_last day y h within e = by_lt_z y (pos 9999) (λ less. less)
    (λ later.
    let same : y ≡ pos 9999 = omega (arith, ints) in
    let over : days_from_civil (pos 9999) 12 31 <ℤ day = int_le-over day (days_from_civil (pos 9999) 12 31) (rw same at e) in
    absurd (omega (arith, ints, over, last_day)))

year_is : (day : ℤ) (more : ℕ) (y : ℤ) → y ≤ℤ pos 9999 → day ≤ℤ days_from_civil (y +ℤ pos more) 12 31 → day ≤ℤ pos 2_932_896 → YearOf day y (year_from more day y)
unfolding year_from
year_is day zero y h enough within =
    let same : y +ℤ pos 0 ≡ y = omega (arith, ints) in
    record { first = omega (arith, ints); last = h; over = rw same at enough }
year_is day (suc more) y h enough within = year_by day y (year_from more day (y +ℤ pos 1)) (int_le day (days_from_civil y 12 31)) refl h
    (λ e.
    let less = before_last day y h within e in
    let same : y +ℤ pos (suc more) ≡ y +ℤ pos 1 +ℤ pos more = omega (arith, ints) in
    year_is day more (y +ℤ pos 1) (omega (arith, ints)) (rw same at enough) within)

-- a month from m to December that isn't over before the day
record MonthFrom (day year : ℤ) (m month : ℕ) : Type 0 where
  first : m ≤ month
  last : month ≤ 12
  over : day ≤ℤ days_from_civil year month (days_in_month year month)

month_by : (day year : ℤ) (m next : ℕ) (b : Bool) → int_le day (days_from_civil year m (days_in_month year m)) ≡ b → m ≤ 12 → (b ≡ false → MonthFrom day year (m + 1) next) → MonthFrom day year m (cond b m next)
month_by day year m next true e h later = record { first = omega arith; last = h; over = int_le-order _ _ e }
month_by day year m next false e h later =
    let found = later refl in
    record { first = omega (arith, found.first); last = found.last; over = found.over }

month_is : (day year : ℤ) (more m : ℕ) → m ≤ 12 → 12 ≤ m + more → day ≤ℤ days_from_civil year 12 31 → MonthFrom day year m (month_from more day year m)
unfolding month_from
month_is day year zero m h enough within =
    let same : m ≡ 12 = omega arith in
    record { first = omega arith; last = h; over = rw same within }
month_is day year (suc more) m h enough within =
    month_by day year m (month_from more day year (m + 1)) (int_le day (days_from_civil year m (days_in_month year m))) refl h (λ e. elim (cases_lt m 12) [
      | inl earlier ↦ month_is day year more (m + 1) (omega arith) (omega arith) within
      | inr later ↦
          let same : m ≡ 12 = omega arith in
          let over : days_from_civil year 12 31 <ℤ day = int_le-over day (days_from_civil year 12 31) (rw same at e) in
          absurd (omega (arith, ints, over, within))
    ])

-- the year that the search finds has begun by the day
year_begun-by : (day y next : ℤ) (b : Bool) → int_le day (days_from_civil y 12 31) ≡ b → pos 1 ≤ℤ y → days_from_civil y 1 1 ≤ℤ day
    → (days_from_civil (y +ℤ pos 1) 1 1 ≤ℤ day → days_from_civil next 1 1 ≤ℤ day) → days_from_civil (cond b y next) 1 1 ≤ℤ day
year_begun-by day y next true e first begun later = begun
year_begun-by day y next false e first begun later =
    let over = int_le-over day (days_from_civil y 12 31) e in
    later (omega (arith, signed_arith, days_from_civil-next_year y (y +ℤ pos 1) (omega (arith, signed_arith)) refl))

year_begun : (day : ℤ) (more : ℕ) (y : ℤ) → pos 1 ≤ℤ y → days_from_civil y 1 1 ≤ℤ day → days_from_civil (year_from more day y) 1 1 ≤ℤ day
unfolding year_from
year_begun day zero y first begun = begun
year_begun day (suc more) y first begun = year_begun-by day y _ (int_le day (days_from_civil y 12 31)) refl first begun
    (λ next. year_begun day more (y +ℤ pos 1) (omega (arith, ints)) next)

-- and so has the month
month_begun-by : (day year : ℤ) (m next : ℕ) (b : Bool) → int_le day (days_from_civil year m (days_in_month year m)) ≡ b → 1 ≤ m → days_from_civil year m 1 ≤ℤ day
    → (days_from_civil year (m + 1) 1 ≤ℤ day → days_from_civil year next 1 ≤ℤ day) → days_from_civil year (cond b m next) 1 ≤ℤ day
month_begun-by day year m next true e first begun later = begun
month_begun-by day year m next false e first begun later =
    let over = int_le-over day (days_from_civil year m (days_in_month year m)) e in
    later (omega (arith, signed_arith, days_from_civil-next_month year m (days_in_month year m) first refl))

month_begun : (day year : ℤ) (more m : ℕ) → 1 ≤ m → days_from_civil year m 1 ≤ℤ day → days_from_civil year (month_from more day year m) 1 ≤ℤ day
unfolding month_from
month_begun day year zero m first begun = begun
month_begun day year (suc more) m first begun = month_begun-by day year m _ (int_le day (days_from_civil year m (days_in_month year m))) refl first begun
    (λ next. month_begun day year more (m + 1) (omega arith) next)

-- the calendar has this date, and it is that of the day
pub record IsDateOn (y : ℤ) (m d : ℕ) (day : ℤ) : Type 0 where
  pub calendar : IsCivilDate y m d
  pub at : days_from_civil y m d ≡ day

-- a difference leads from the earlier number to the later one
ahead : (a b : ℤ) → a ≤ℤ b → a +ℤ pos (unsigned_abs (b -ℤ a)) ≡ b
ahead a b h = omega (arith, signed_arith, one_part (b -ℤ a))

date_in_month : (y : ℤ) (m d : ℕ) (day : ℤ) → IsBetween (pos 1) (pos 9999) y → 1 ≤ m → m ≤ 12 → days_from_civil y m 1 ≤ℤ day → day ≤ℤ days_from_civil y m (days_in_month y m)
    → d ≡ unsigned_abs (day -ℤ days_from_civil y m 1) + 1 → IsDateOn y m d day
date_in_month y m d day year first last begun over e =
    let bounds = days_in_month_bounds y m in
    let length = days_from_civil-day y m 1 (days_in_month y m) (lit≤ tt) (omega arith) in
    let here = days_from_civil-day y m 1 d (lit≤ tt) (omega arith) in
    let place = ahead (days_from_civil y m 1) day begun in
    record {
      calendar = ((omega (arith, ints), year.1), (first, last), (omega arith, omega (arith, signed_arith)));
      at = omega (arith, signed_arith);
    }

-- a day of the years 0001 to 9999 has the number of its calendar day
pub date_on : (day : ℤ) → IsBetween (neg_ℤ (pos 719_162)) (pos 2_932_896) day → IsDateOn (civil_of_day day).year (civil_of_day day).month (civil_of_day day).day day
unfolding civil_of_day
date_on day h =
    let n = unsigned_abs (day +ℤ pos 719_162) in
    let before = days_before day h.0 in
    let early : pos 1 ≤ℤ pos (n / 366 + 1) = omega (arith, ints) in
    let late : pos (n / 366 + 1) ≤ℤ pos 9999 = omega (arith, signed_arith, before) in
    let year = year_is day 30 (pos (n / 366 + 1)) late (early_enough day n before h.1) h.1 in
    let year_first = year_begun day 30 (pos (n / 366 + 1)) early (early_begun day n before) in
    let month = month_is day _ 12 1 (lit≤ tt) (lit≤ tt) year.over in
    let month_first = month_begun day _ 12 1 (lit≤ tt) year_first in
    date_in_month _ _ _ day (omega (arith, ints, year.first), year.last) month.first month.last month_first month.over refl

abbrev pub date_at : (y : ℤ) (m d : ℕ) → IsCivilDate y m d → Date
date_at y m d h = record { year = y; month = m; day = d; year_in = h.0; month_in = h.1; day_in = h.2 }

abbrev pub civil_of : Date → Civil
civil_of date = record { year = date.year; month = date.month; day = date.day }

-- so a date's calendar day is its own
pub civil_of_day-date : (date : Date) (day : ℤ) → IsBetween (neg_ℤ (pos 719_162)) (pos 2_932_896) day → epoch_day date ≡ day → civil_of_day day ≡ civil_of date
civil_of_day-date date day h e =
    let found = date_on day h in
    let same = epoch_day_injective date (date_at _ _ _ found.calendar) (e ∙ sym found.at) in
    rw (same.0, same.1, same.2) refl
