-- The numbers that a scope of another kind than Text asks for. [MS-FQL2]
use Rattle.std.specs.Prelude.{ℕ, List, [], ◌∷◌, Bool, true, false, if◌then◌else◌, codes, option_map, Ok, Err, ℤ, pos, ◌+ℤ◌, ◌-ℤ◌, int_le}
use Rattle.std.specs.Str.{bytes_eq}
use Rattle.sq_schema.specs.declared.property.Property.{Property}
use Rattle.sq_schema.specs.declared.interval.Interval.{Interval}
use Rattle.sq_schema.specs.Bounds.{least_number, greatest_number}
use Rattle.sq_schema.specs.Dates.{interval_of}
use Rattle.sq_schema.specs.Intervals.{single}
use Rattle.sq_schema.specs.Values.{number_of, yes_no_of}
use Rattle.sq_model.specs.declared.fql.FTree.{FTree}
use Rattle.sq_model.specs.declared.fql.FTree.TheVariants as tree
use Rattle.sq_base.specs.Outcome.{Outcome, refused, or_refused}
use Rattle.sq_fql.specs.declared.raw.FPiece.{FPiece}
use Rattle.sq_fql.specs.declared.raw.Op.{Op}
use Rattle.sq_fql.specs.declared.raw.Op.TheVariants as op
use Rattle.sq_fql.specs.declared.raw.FRaw.{FRaw, All, Literal, Scope', Apply'}
use Rattle.sq_typing.specs.declared.codes.TheConstants.{WRONG_OPERATOR, BAD_DATE, BAD_YES_NO}
use Rattle.sq_typing.specs.declared.fql_place.Measure.{Measure}
use Rattle.sq_typing.specs.declared.fql_place.Measure.TheVariants as measure
use Rattle.sq_typing.specs.FqlPlaces.{misplaced}
use Rattle.sq_typing.specs.FqlTexts.{unread, listed, only_literal, read_only}
use Rattle.sq_typing.specs.Numbers.{number_at, yes_no_number}
use Rattle.sq_typing.specs.Together.{together}

-- ---- literals

unfoldable pub number_in : FPiece → Outcome Interval
number_in p = number_at p.at (number_of p.text)

unfoldable pub date_in : FPiece → Outcome Interval
date_in p = or_refused (interval_of p.text) BAD_DATE p.at

abbrev pub value_in : Measure → FPiece → Outcome Interval
value_in measure.Integer p = number_in p
value_in measure.DateTime p = date_in p

unfoldable pub yes_no_in : FPiece → Outcome Interval
yes_no_in p = or_refused (option_map yes_no_number (yes_no_of p.text)) BAD_YES_NO p.at

abbrev pub within : ℕ → Interval → FTree
within row i = tree.Within row i.first i.last

-- ---- int and datetime

-- the operator that reads a literal as this measure does
abbrev pub reads : Measure → Op → Bool
reads measure.Integer op.Int = true
reads measure.DateTime op.DateTime = true
reads m _ = false

unfoldable pub literal_value : Measure → ℕ → Op → List FRaw → Outcome Interval
literal_value m at o operands = if reads m o then read_only (value_in m) (only_literal operands) else refused WRONG_OPERATOR at

-- ---- range

abbrev pub is_literal : List ℕ → FRaw → Bool
is_literal text (Literal p) = bytes_eq p.text text
is_literal text _ = false

-- a bound is a literal, or int or datetime by the measure
abbrev pub bound : List Property → Measure → FRaw → Outcome Interval
bound schema m (All at) = refused WRONG_OPERATOR at
bound schema m (Literal p) = value_in m p
bound schema m (Scope' at name s inner) = Err (misplaced schema WRONG_OPERATOR at name)
bound schema m (Apply' at o s operands) = literal_value m at o (listed operands)

unfoldable pub lower_bound : List Property → Measure → FRaw → Outcome Interval
lower_bound schema m operand = if is_literal (codes "min") operand then Ok (single least_number) else bound schema m operand

unfoldable pub upper_bound : List Property → Measure → FRaw → Outcome Interval
upper_bound schema m operand = if is_literal (codes "max") operand then Ok (single greatest_number) else bound schema m operand

-- the first number that isn't below a lower bound, or above it
abbrev pub first_from : Bool → Interval → ℤ
first_from above lower = if above then lower.last +ℤ pos 1 else lower.first

-- the last number that isn't above an upper bound, or below it
abbrev pub last_to : Bool → Interval → ℤ
last_to below upper = if below then upper.first -ℤ pos 1 else upper.last

-- an empty interval is written as from 1 to 0
abbrev pub interval_or_empty : ℤ → ℤ → Interval
interval_or_empty first last = if int_le first last then record { first = first; last = last } else record { first = pos 1; last = pos 0 }

unfoldable pub between : Bool → Bool → Interval → Interval → Interval
between above below lower upper = interval_or_empty (first_from above lower) (last_to below upper)

abbrev pub range : List Property → Measure → Bool → Bool → List FRaw → Outcome Interval
range schema m above below (lower ∷ (upper ∷ [])) = together (between above below) (lower_bound schema m lower) (upper_bound schema m upper)
range schema m above below _ = unread

-- ---- the scope of an Integer or DateTime property

abbrev pub numbers : List Property → Measure → ℕ → Op → List FRaw → Outcome Interval
numbers schema m at (op.Range above below) operands = range schema m above below operands
numbers schema m at o operands = literal_value m at o operands
