-- The interval of a name about a moment is that about its day, and lies in the years 0001 to 9999.
use Rattle.std.proofs.Common.{◌≡◌, ℕ, refl, arith, ℤ, pos, neg_ℤ, ◌≤ℤ◌, List}
use Rattle.std.specs.Prelude.{IfSome}
use Rattle.std.proofs.lemmas.Int.{ints, clamps}
use Rattle.jiff.specs.Types.{Date}
use Rattle.jiff.specs.Words.{IsBetween}
use Rattle.jiff_core.specs.Date.{epoch_day}
use Rattle.jiff_core.proofs.SignedLemmas.{signed_arith}
use Rattle.sq_schema.specs.Intervals.{clamped, day_of_moment, interval_named, moment_interval}
use Rattle.sq_schema.specs.Moments.{IsInYears}
use Rattle.sq_schema.proofs.CivilDayLemmas.{date_on, date_at, civil_of_day-date}
use Rattle.sq_schema.proofs.IntervalLemmas.{year_from, second_year}
use Rattle.sq_schema.proofs.YearLemmas.{interval_in-within}

-- the day of a moment that a service knows
pub known_day : (moment : ℤ) → moment ≡ clamped moment → IsBetween (pos 0) (pos 2_900_000) (day_of_moment moment)
known_day moment known =
    let now : IsBetween (pos 0) (pos 200_000_000_000) moment = (omega (arith, ints, clamps), omega (arith, ints, clamps)) in
    (omega (arith, ints, signed_arith), omega (arith, ints, signed_arith))

wide : (day : ℤ) → IsBetween (pos 0) (pos 2_900_000) day → IsBetween (neg_ℤ (pos 719_162)) (pos 2_932_896) day
wide day h = (omega (arith, ints), omega (arith, ints))

pub moment_interval_is : (name : List ℕ) (moment : ℤ) (date : Date) → moment ≡ clamped moment → epoch_day date ≡ day_of_moment moment → interval_named name date ≡ moment_interval name moment
unfolding moment_interval
moment_interval_is name moment date known day = rw (civil_of_day-date date (day_of_moment moment) (wide _ (known_day moment known)) day, day) refl

pub names_in_years : (name : List ℕ) (moment : ℤ) → moment ≡ clamped moment → IfSome (moment_interval name moment) IsInYears
unfolding moment_interval
names_in_years name moment known =
    let day = known_day moment known in
    let found = date_on (day_of_moment moment) (wide _ day) in
    let second : pos 2 ≤ℤ _ = year_from (date_at _ _ _ found.calendar) (pos 2) (omega (arith, signed_arith, second_year, found.at)) in
    interval_in-within name _ _ _ day (second, found.calendar.0.1) found.calendar.1
