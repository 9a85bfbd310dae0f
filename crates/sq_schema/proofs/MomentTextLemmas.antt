-- The text of a moment is that of its date and its time.
use Rattle.std.proofs.Common.{◌≡◌, ℕ, ◌+◌, ◌*◌, ◌/◌, ◌%◌, ◌<◌, refl, arith, lit≤, ℤ, pos, neg_ℤ, ◌+ℤ◌, ◌*ℤ◌, ◌≤ℤ◌, unsigned_abs, ◌++◌}
use Rattle.std.specs.Prelude.{codes}
use Rattle.std.specs.Int.{int_rem_euclid}
use Rattle.std.proofs.lemmas.Int.{ints}
use Rattle.jiff.specs.Types.{Date, Time}
use Rattle.jiff.specs.Words.{IsBetween}
use Rattle.jiff_core.specs.Calendar.{days_from_civil}
use Rattle.jiff_core.specs.Date.{epoch_day}
use Rattle.jiff_core.specs.Time.{time_seconds}
use Rattle.jiff_core.proofs.SignedLemmas.{signed_arith}
use Rattle.sq_schema.proofs.CivilDayLemmas.{IsDateOn, date_on, date_at, civil_of_day-date}
use Rattle.sq_schema.proofs.IntervalLemmas.{year_from as from_year, first_day}
use Rattle.sq_schema.specs.Intervals.{day_of_moment}
use Rattle.sq_schema.specs.Moments.{IsMoment, IsMomentText, civil_text, four_text, two_text, time_text, text_of_moment}

abbrev time_at : (h m s : ℕ) → h < 24 → m < 60 → s < 60 → Time
time_at h m s hour minute second = record {
  hour = h;
  minute = m;
  second = s;
  subsec_nanosecond = 0;
  hour_in = hour;
  minute_in = minute;
  second_in = second;
  subsec_in = lit≤ tt;
}

moment_at : (moment day : ℤ) (second : ℕ) → day ≡ day_of_moment moment → second ≡ unsigned_abs (int_rem_euclid moment (pos 86_400))
    → moment ≡ day *ℤ pos 86_400 +ℤ pos (second / 3600 * 3600 + second / 60 % 60 * 60 + second % 60)
moment_at moment day second p q =
    let whole : second / 3600 * 3600 + second / 60 % 60 * 60 + second % 60 ≡ second = omega arith in
    rw whole (omega (arith, signed_arith))

less_than_day : (moment : ℤ) → unsigned_abs (int_rem_euclid moment (pos 86_400)) < 86_400
less_than_day moment = omega (arith, signed_arith)

written_on : (moment : ℤ) (y : ℤ) (m d second : ℕ) → IsDateOn y m d (day_of_moment moment) → second ≡ unsigned_abs (int_rem_euclid moment (pos 86_400)) → second < 86_400
    → IsMomentText moment (four_text (unsigned_abs y) ++ codes "-" ++ two_text m ++ codes "-" ++ two_text d ++ codes "T" ++ time_text second ++ codes "Z")
unfolding civil_text four_text two_text
written_on moment y m d second found e less = record {
  date = date_at y m d found.calendar;
  time = time_at (second / 3600) (second / 60 % 60) (second % 60) (omega arith) (omega arith) (omega arith);
  at = moment_at moment (days_from_civil y m d) second found.at e;
  written = refl;
}

day_in_years : (moment : ℤ) → IsMoment moment → IsBetween (neg_ℤ (pos 719_162)) (pos 2_932_896) (day_of_moment moment)
day_in_years moment h = (omega (arith, ints, signed_arith), omega (arith, ints, signed_arith))

pub moments_are_written : (moment : ℤ) → IsMoment moment → IsMomentText moment (text_of_moment moment)
unfolding text_of_moment four_text two_text
moments_are_written moment h =
    let day = day_in_years moment h in
    written_on moment _ _ _ _ (date_on (day_of_moment moment) day) refl (less_than_day moment)

hour_is : (h m s second : ℕ) → m < 60 → s < 60 → second ≡ h * 3600 + m * 60 + s → second / 3600 ≡ h
hour_is h m s second minute less e = omega arith

minute_is : (h m s second : ℕ) → m < 60 → s < 60 → second ≡ h * 3600 + m * 60 + s → second / 60 % 60 ≡ m
minute_is h m s second minute less e = omega arith

second_is : (h m s second : ℕ) → m < 60 → s < 60 → second ≡ h * 3600 + m * 60 + s → second % 60 ≡ s
second_is h m s second minute less e = omega arith

pub year_of_moment : (moment : ℤ) (date : Date) → IsMoment moment → epoch_day date ≡ day_of_moment moment → pos 1 ≤ℤ date.year
year_of_moment moment date h e =
    let day : neg_ℤ (pos 719_162) ≤ℤ epoch_day date = omega (arith, ints, signed_arith) in
    from_year date (pos 1) (omega (arith, signed_arith, first_day))

pub text_of_moment-is : (moment : ℤ) (date : Date) (time : Time) → IsMoment moment → epoch_day date ≡ day_of_moment moment
    → pos (time_seconds time) ≡ int_rem_euclid moment (pos 86_400) → civil_text date time ≡ text_of_moment moment
unfolding text_of_moment civil_text four_text two_text
text_of_moment-is moment date time h day second =
    let civil = civil_of_day-date date (day_of_moment moment) (day_in_years moment h) day in
    let seconds : unsigned_abs (int_rem_euclid moment (pos 86_400)) ≡ time_seconds time = omega (arith, signed_arith) in
    let hour = hour_is time.hour time.minute time.second _ time.minute_in time.second_in seconds in
    let minute = minute_is time.hour time.minute time.second _ time.minute_in time.second_in seconds in
    let rest = second_is time.hour time.minute time.second _ time.minute_in time.second_in seconds in
    rw (civil, hour, minute, rest) refl
