-- A text as a number or an answer, in both languages: an interval of one number.
use Rattle.std.specs.Prelude.{ℕ, Bool, true, false, Result, Ok, Err, ℤ, pos}
use Rattle.sq_base.specs.Outcome.{Outcome, refused}
use Rattle.sq_schema.specs.declared.interval.Interval.{Interval}
use Rattle.sq_schema.specs.declared.values.NumberFault.{NumberFault}
use Rattle.sq_schema.specs.declared.values.NumberFault.TheVariants.{Shape, Range}
use Rattle.sq_schema.specs.Intervals.{single}
use Rattle.sq_typing.specs.declared.codes.TheConstants.{BAD_NUMBER, NUMBER_OUT_OF_RANGE}

-- the number of a text at a place, as it was read
abbrev pub number_at : ℕ → Result ℤ NumberFault → Outcome Interval
number_at at (Ok n) = Ok (single n)
number_at at (Err Shape) = refused BAD_NUMBER at
number_at at (Err Range) = refused NUMBER_OUT_OF_RANGE at

-- yes is 1, and no is 0
abbrev pub yes_no_number : Bool → Interval
yes_no_number true = single (pos 1)
yes_no_number false = single (pos 0)
