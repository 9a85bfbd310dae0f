-- Laws of the definitions, which callers may use.
use Rattle.std.specs.Prelude.{◌≡◌, ℕ, List, Some, Ok, slice_get, position, ℤ, FitsSigned, IfSome}
use Rattle.std.specs.Fmt.{signed_decimal}
use Rattle.std.specs.Int.{w64}
use Rattle.sq_schema.specs.declared.property.Property.{Property}
use Rattle.sq_schema.specs.Dates.{interval_of}
use Rattle.sq_schema.specs.Intervals.{single, clamped, moment_interval}
use Rattle.sq_schema.specs.Moments.{IsMoment, IsMomentText, IsInYears, text_of_moment}
use Rattle.sq_schema.specs.Properties.{IsSchema, has_name}
use Rattle.sq_schema.specs.Values.{number_of}

-- the name of a row finds that row
abbrev pub NamesFindRows : Type 0
NamesFindRows = (rows : List Property) (i : ℕ) (row : Property) → IsSchema rows → slice_get rows i ≡ Some row → position (has_name row.name) rows ≡ Some i

-- the text of a 64-bit number is read as that number
abbrev pub NumbersReadBack : Type 0
NumbersReadBack = (n : ℤ) → FitsSigned w64 n → number_of (signed_decimal n) ≡ Ok n

-- the text of a moment is a date with a time, and its interval is that moment alone
abbrev pub MomentsReadBack : Type 0
MomentsReadBack = (moment : ℤ) (text : List ℕ) → IsMoment moment → IsMomentText moment text → interval_of text ≡ Some (single moment)

-- the text of a moment is its date and its time
abbrev pub MomentsAreWritten : Type 0
MomentsAreWritten = (moment : ℤ) → IsMoment moment → IsMomentText moment (text_of_moment moment)

-- the interval of a date text lies in the years 0001 to 9999
abbrev pub DatesLieInYears : Type 0
DatesLieInYears = (text : List ℕ) → IfSome (interval_of text) IsInYears

-- so does that of a name about a moment that a service knows
abbrev pub NamesLieInYears : Type 0
NamesLieInYears = (name : List ℕ) (moment : ℤ) → moment ≡ clamped moment → IfSome (moment_interval name moment) IsInYears
