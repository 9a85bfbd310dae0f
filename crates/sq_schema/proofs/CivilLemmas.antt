-- Day numbers and moments, as `jiff` counts them.
use Rattle.std.proofs.Common.{◌≡◌, ℤ, pos, ◌-ℤ◌, ◌*ℤ◌, arith, refl, int_div}
use Rattle.std.specs.Int.{int_div_euclid, int_rem_euclid}
use Rattle.jiff.specs.Types.{Date, DateTime}
use Rattle.jiff.specs.Words.{IsHms, IsYmd, civil_nanos, epoch_day}
use Rattle.jiff_core.specs.Calendar.{days_from_civil, day_count, days_of_years, days_of_months}
use Rattle.jiff_core.specs.Time.{time_seconds}
use Rattle.jiff_core.proofs.SignedLemmas.{signed_arith}

pub first_day : days_from_civil (pos 1970) 1 1 ≡ pos 0
unfolding days_from_civil day_count days_of_years days_of_months
first_day = refl

pub day_zero : (d : Date) → IsYmd (pos 1970) (pos 1) (pos 1) d → epoch_day d ≡ pos 0
day_zero d h =
    let month : d.month ≡ 1 = omega (arith, signed_arith) in
    let day : d.day ≡ 1 = omega (arith, signed_arith) in
    rw (h.0, month, day) first_day

pub moment_zero : (dt : DateTime) → IsYmd (pos 1970) (pos 1) (pos 1) dt.date → IsHms (pos 0) (pos 0) (pos 0) (pos 0) dt.time → civil_nanos dt ≡ pos 0
unfolding civil_nanos
moment_zero dt date time =
    let day = day_zero dt.date date in
    omega (arith, signed_arith)

-- the seconds between midnights
pub seconds_between : (nanos first last : ℤ) → first ≡ pos 0 → nanos ≡ (last -ℤ first) *ℤ pos 86_400_000_000_000 → int_div nanos (pos 1_000_000_000) ≡ last *ℤ pos 86_400
seconds_between nanos first last zero h = omega (arith, signed_arith)

-- the day and the second of it
pub civil_parts : (dt : DateTime) (moment : ℤ) → civil_nanos dt ≡ moment *ℤ pos 1_000_000_000
    → (epoch_day dt.date ≡ int_div_euclid moment (pos 86_400)) × (pos (time_seconds dt.time) ≡ int_rem_euclid moment (pos 86_400))
unfolding civil_nanos
civil_parts dt moment h = (
  omega (arith, signed_arith, dt.time.hour_in, dt.time.minute_in, dt.time.second_in, dt.time.subsec_in),
  omega (arith, signed_arith, dt.time.hour_in, dt.time.minute_in, dt.time.second_in, dt.time.subsec_in),
)
