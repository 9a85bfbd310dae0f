-- The tests that restrictions are have values of their kinds.
use Rattle.std.proofs.Common.{◌≡◌, ℕ, ◌≤◌, ◌<◌, ◌≤ℤ◌, Bool, true, false, ◌&&◌, List, Option, Some, None, ℤ, pos, neg_ℤ, refl, arith}
use Rattle.std.specs.Prelude.{Result, Ok, Err, IfOk, IfSome, unsigned_abs, option_map, int_le, if◌then◌else◌}
use Rattle.std.specs.Option.{option_or}
use Rattle.std.proofs.lemmas.Int.{ints}
use Rattle.sq_schema.specs.declared.interval.Interval.{Interval}
use Rattle.sq_schema.specs.declared.values.NumberFault.{NumberFault}
use Rattle.sq_schema.specs.declared.values.NumberFault.TheVariants.{Shape, Range}
use Rattle.sq_schema.specs.Dates.{interval_of}
use Rattle.sq_schema.specs.Intervals.{moment_interval}
use Rattle.sq_schema.specs.Moments.{IsInYears}
use Rattle.sq_schema.specs.Values.{number_of, signed_64, is_numeral, behind_minus, yes_no_of}
use Rattle.std.specs.Str.Parse.{starts_with_minus, digits_value}
use Rattle.sq_model.specs.Kinds.{is_same, is_boost}
use Rattle.sq_schema.specs.Bounds.{is_from_to, is_integer_value, is_moment_value}
use Rattle.sq_base.specs.Outcome.{or_refused}
use Rattle.sq_kql.specs.declared.raw.Piece.{Piece}
use Rattle.sq_typing.specs.KqlValues.{number_value, moment_value, yes_no_value, range_of, bounds}
use Rattle.sq_typing.specs.Numbers.{number_at, yes_no_number}
use Rattle.sq_typing.proofs.TogetherLemmas.{if_together, if_weaker}

int_le-true : (m n : ℤ) → m ≤ℤ n → int_le m n ≡ true
int_le-true m n h = grind (arith, ints)

both : (a b : Bool) → a ≡ true → b ≡ true → (a && b) ≡ true
both a b h k = rw (h, k) refl

pub from_to_is : (first last n : ℤ) → first ≤ℤ n → n ≤ℤ last → is_from_to first last n ≡ true
from_to_is first last n h k = both _ _ (int_le-true first n h) (int_le-true n last k)

pub same_is : (n : ℤ) → is_same n n ≡ true
same_is n = both _ _ (int_le-true n n (omega (arith, ints))) (int_le-true n n (omega (arith, ints)))

pub boost_is : (cb : ℤ) → unsigned_abs cb ≤ 1_000_000 → is_boost cb ≡ true
boost_is cb h = from_to_is (neg_ℤ (pos 1_000_000)) (pos 1_000_000) cb (omega (arith, ints)) (omega (arith, ints))

-- ---- numbers

-- an interval of one value of an Integer
pub record IsNumber (i : Interval) : Type 0 where
  pub first : is_integer_value i.first ≡ true
  pub last : is_integer_value i.last ≡ true
  pub same : i.first ≡ i.last

pub record AreNumbers (i : Interval) : Type 0 where
  pub first : is_integer_value i.first ≡ true
  pub last : is_integer_value i.last ≡ true

abbrev FitsInteger : Result ℤ NumberFault → Type 0
FitsInteger r = IfOk r (λ n. is_integer_value n ≡ true)

fitting_fits : (b : Bool) (n : ℤ) → is_integer_value n ≡ b → FitsInteger (if b then Ok n else Err Range)
fitting_fits true n e = e
fitting_fits false n e = tt

signed_fits : (negative : Bool) (size : ℕ) → FitsInteger (signed_64 negative size)
signed_fits negative size =
    let n : ℤ = if negative then neg_ℤ (pos size) else pos size in
    fitting_fits (is_integer_value n) n refl

either_fits : (b : Bool) (x : Result ℤ NumberFault) → FitsInteger x → FitsInteger (if b then x else Err Shape)
either_fits true x h = h
either_fits false x h = tt

number_fits : (text : List ℕ) → FitsInteger (number_of text)
unfolding number_of
number_fits text = either_fits (is_numeral (behind_minus text)) _ (signed_fits (starts_with_minus text) (digits_value 10 (behind_minus text)))

number_at_is : (at : ℕ) (r : Result ℤ NumberFault) → FitsInteger r → IfOk (number_at at r) IsNumber
number_at_is at (Ok n) h = record { first = h; last = h; same = refl }
number_at_is at (Err Shape) h = tt
number_at_is at (Err Range) h = tt

pub number_is : (p : Piece) → IfOk (number_value p) IsNumber
unfolding number_value
number_is p = number_at_is p.at (number_of p.text) (number_fits p.text)

pub numbers_are : (value : Piece) (upper : Option Piece) → IfOk (bounds number_value value upper) AreNumbers
numbers_are value None = if_weaker (number_value value) IsNumber AreNumbers (number_is value) (λ i h. record { first = h.first; last = h.last })
numbers_are value (Some upper) =
    if_together range_of (number_value value) (number_value upper) IsNumber IsNumber AreNumbers (number_is value) (number_is upper)
    (λ i j h k. record { first = h.first; last = k.last })

-- ---- moments

pub record AreMoments (i : Interval) : Type 0 where
  pub first : is_moment_value i.first ≡ true
  pub last : is_moment_value i.last ≡ true

in_years : (i : Interval) → IsInYears i → AreMoments i
in_years i h = record { first = from_to_is _ _ i.first h.first.0 h.first.1; last = from_to_is _ _ i.last h.last.0 h.last.1 }

found_moments : (date name : Option Interval) (at : ℕ) → IfSome date IsInYears → IfSome name IsInYears → (code : ℕ) → IfOk (or_refused (option_or date name) code at) AreMoments
found_moments (Some i) name at h k code = in_years i h
found_moments None (Some i) at h k code = in_years i k
found_moments None None at h k code = tt

-- what a date and a name mean lies in the years that a moment has
pub record Calendar (now : ℤ) : Type 0 where
  pub dates : (text : List ℕ) → IfSome (interval_of text) IsInYears
  pub names : (text : List ℕ) → IfSome (moment_interval text now) IsInYears

module _ (now : ℤ) (calendar : Calendar now) where
  moment_is : (p : Piece) → IfOk (moment_value now p) AreMoments
  unfolding moment_value
  moment_is p = found_moments (interval_of p.text) (moment_interval p.text now) p.at (calendar.dates p.text) (calendar.names p.text) _

  pub moments_are : (value : Piece) (upper : Option Piece) → IfOk (bounds (moment_value now) value upper) AreMoments
  moments_are value None = moment_is value
  moments_are value (Some upper) =
      if_together range_of (moment_value now value) (moment_value now upper) AreMoments AreMoments AreMoments (moment_is value) (moment_is upper)
      (λ i j h k. record { first = h.first; last = k.last })

-- ---- yes or no

pub record IsYesNo (i : Interval) : Type 0 where
  pub within : is_from_to (pos 0) (pos 1) i.first ≡ true
  pub same : i.first ≡ i.last

found_answer : (answer : Option Bool) (code at : ℕ) → IfOk (or_refused (option_map yes_no_number answer) code at) IsYesNo
found_answer (Some true) code at = record { within = refl; same = refl }
found_answer (Some false) code at = record { within = refl; same = refl }
found_answer None code at = tt

pub yes_no_is : (p : Piece) → IfOk (yes_no_value p) IsYesNo
unfolding yes_no_value
yes_no_is p = found_answer (yes_no_of p.text) _ p.at
