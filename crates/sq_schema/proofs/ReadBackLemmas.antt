-- What `moment_text` writes, `day_interval` reads.
use Rattle.std.proofs.Common.{◌≡◌, ℕ, ◌+◌, ◌*◌, ◌/◌, ◌%◌, ◌<◌, List, ◌++◌, true, Some, arith, refl, sym, ◌∙◌, ℤ, pos, ◌+ℤ◌, ◌*ℤ◌, ◌≤ℤ◌, neg_ℤ, unsigned_abs}
use Rattle.std.proofs.lemmas.Bool.Decides.{nat_tests}
use Rattle.std.proofs.lemmas.Int.{ints}
use Rattle.std.specs.Char.{is_ascii_digit}
use Rattle.std.specs.Prelude.{codes}
use Rattle.jiff.specs.Types.{Date, Time}
use Rattle.jiff.specs.Words.{IsDate, epoch_day}
use Rattle.jiff_core.specs.Time.{time_seconds}
use Rattle.jiff_core.proofs.CalendarLemmas.{days_in_month_bounds}
use Rattle.jiff_core.proofs.SignedLemmas.{signed_arith}
use Rattle.sq_schema.proofs.DateLemmas.{day_number-date}
use Rattle.sq_schema.proofs.IntervalLemmas.{year_from, first_day}
use Rattle.sq_schema.specs.Dates.{day_number, second_number, day_of, second_of, is_fraction, without_zone, interval_of_day, interval_of}
use Rattle.sq_schema.specs.Intervals.{single}
use Rattle.sq_schema.specs.Moments.{IsMoment, IsMomentText, civil_text, four_text, two_text}
use Rattle.sq_schema.specs.Shapes.{begins_with, two_digits}

digit : (q : ℕ) → q < 10 → is_ascii_digit (48 + q) ≡ true
digit q h = grind (arith, nat_tests)

abbrev time_text : ℕ → ℕ → ℕ → List ℕ
time_text h mi s = codes "T" ++ two_text h ++ codes ":" ++ two_text mi ++ codes ":" ++ two_text s ++ codes "Z"

abbrev whole_text : ℕ → ℕ → ℕ → ℕ → ℕ → ℕ → List ℕ
whole_text y m d h mi s = four_text y ++ codes "-" ++ two_text m ++ codes "-" ++ two_text d ++ time_text h mi s

same_day : (y m d y' m' d' : ℕ) → y ≡ y' → m ≡ m' → d ≡ d' → day_number y m d ≡ day_number y' m' d'
same_day y m d y' m' d' p q r = rw (p, q, r) refl

same_second : (h m s h' m' s' : ℕ) → h ≡ h' → m ≡ m' → s ≡ s' → second_number h m s ≡ second_number h' m' s'
same_second h m s h' m' s' p q r = rw (p, q, r) refl

day_part : (y m d h mi s : ℕ) → y < 10_000 → m < 100 → d < 100 → day_of (whole_text y m d h mi s) ≡ day_number y m d
unfolding day_of begins_with two_digits four_text two_text
day_part y m d h mi s year month day =
    let y₁ = digit (y / 1000) (omega arith) in
    let y₂ = digit (y / 100 % 10) (omega arith) in
    let y₃ = digit (y / 10 % 10) (omega arith) in
    let y₄ = digit (y % 10) (omega arith) in
    let m₁ = digit (m / 10) (omega arith) in
    let m₂ = digit (m % 10) (omega arith) in
    let d₁ = digit (d / 10) (omega arith) in
    let d₂ = digit (d % 10) (omega arith) in
    rw (y₁, y₂, y₃, y₄, m₁, m₂, d₁, d₂) (same_day _ _ _ y m d (omega arith) (omega arith) (omega arith))

time_part : (h mi s : ℕ) → h < 100 → mi < 100 → s < 100 → second_of (time_text h mi s) ≡ second_number h mi s
unfolding second_of begins_with two_digits two_text is_fraction without_zone
time_part h mi s hour minute second =
    let h₁ = digit (h / 10) (omega arith) in
    let h₂ = digit (h % 10) (omega arith) in
    let mi₁ = digit (mi / 10) (omega arith) in
    let mi₂ = digit (mi % 10) (omega arith) in
    let s₁ = digit (s / 10) (omega arith) in
    let s₂ = digit (s % 10) (omega arith) in
    rw (h₁, h₂, mi₁, mi₂, s₁, s₂) (same_second _ _ _ h mi s (omega arith) (omega arith) (omega arith))

whole : (y m d h mi s : ℕ) (day : ℤ) (second : ℕ) → day_of (whole_text y m d h mi s) ≡ Some day → second_of (time_text h mi s) ≡ Some second
    → interval_of (whole_text y m d h mi s) ≡ Some (single (day *ℤ pos 86_400 +ℤ pos second))
unfolding interval_of interval_of_day four_text two_text
whole y m d h mi s day second p q = rw p (rw q refl)

second_number-some : (h m s : ℕ) → h < 24 → m < 60 → s < 60 → second_number h m s ≡ Some (h * 3600 + m * 60 + s)
unfolding second_number
second_number-some h m s hour minute second = grind (arith, nat_tests)

written_day : (date : Date) (h mi s : ℕ) → pos 1 ≤ℤ date.year → day_of (whole_text (unsigned_abs date.year) date.month date.day h mi s) ≡ Some (epoch_day date)
written_day date h mi s first =
    let y = unsigned_abs date.year in
    let m = date.month in
    let d = date.day in
    let year : pos y ≡ date.year = omega (arith, ints) in
    let bounds = days_in_month_bounds date.year m in
    let is_date : IsDate (pos y) (pos m) (pos d) = rw year ((omega (arith, ints, date.year_in), omega (arith, ints, date.year_in)), (omega (arith, ints, date.month_in), omega (arith, ints, date.month_in)), (omega (arith, ints, date.day_in), omega (arith, ints, date.day_in))) in
    day_part y m d h mi s (omega (arith, ints, date.year_in)) (omega (arith, date.month_in)) (omega (arith, date.day_in, bounds))
    ∙ day_number-date y m d (pos y) (pos m) (pos d) date refl refl refl (omega (arith, ints)) is_date (sym year, refl, refl)

written_time : (time : Time) → second_of (time_text time.hour time.minute time.second) ≡ Some (time_seconds time)
written_time time =
    time_part time.hour time.minute time.second (omega (arith, time.hour_in)) (omega (arith, time.minute_in)) (omega (arith, time.second_in))
    ∙ second_number-some time.hour time.minute time.second time.hour_in time.minute_in time.second_in

pub moments_read_back : (moment : ℤ) (text : List ℕ) → IsMoment moment → IsMomentText moment text → interval_of text ≡ Some (single moment)
unfolding civil_text four_text two_text
moments_read_back moment text good h =
    let low : neg_ℤ (pos 719_162) ≤ℤ epoch_day h.date = omega (arith, ints, h.at, good.0, h.time.hour_in, h.time.minute_in, h.time.second_in) in
    let first = year_from h.date (pos 1) (omega (arith, signed_arith, first_day)) in
    rw (h.written, h.at) (whole (unsigned_abs h.date.year) h.date.month h.date.day h.time.hour h.time.minute h.time.second _ _
    (written_day h.date h.time.hour h.time.minute h.time.second first) (written_time h.time))
