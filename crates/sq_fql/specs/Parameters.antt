-- Parameters: what their values set, and the operator that they make.
use Rattle.std.specs.Prelude.{ℕ, ℤ, Bool, true, false, List, [], ◌∷◌, Option, Some, None, Ok, codes}
use Rattle.std.specs.Option.{option_map}
use Rattle.sq_lex.specs.Bytes.{TextBytes}
use Rattle.sq_base.specs.Outcome.{Outcome, refused, or_refused}
use Rattle.sq_base.specs.Limits.{greatest_distance, greatest_boost}
use Rattle.sq_fql.specs.declared.codes.TheConstants.{BAD_PARAMETER, MISSING_ARGUMENT}
use Rattle.sq_fql.specs.declared.raw.Mode.{Mode}
use Rattle.sq_fql.specs.declared.raw.Mode.TheVariants as mode
use Rattle.sq_fql.specs.declared.raw.Op.{Op}
use Rattle.sq_fql.specs.declared.raw.Op.TheVariants as op
use Rattle.sq_fql.specs.declared.operator.Operator.{Operator}
use Rattle.sq_fql.specs.declared.operator.Operator.TheVariants as operator
use Rattle.sq_fql.specs.declared.parameter.Parameter.{Parameter}
use Rattle.sq_fql.specs.declared.parameter.Parameter.TheVariants as parameter
use Rattle.sq_fql.specs.declared.parameter.Setting.{Setting}
use Rattle.sq_fql.specs.declared.parameter.Setting.TheVariants as setting
use Rattle.sq_fql.specs.declared.parameter.Number.{Number}
use Rattle.sq_fql.specs.declared.parameter.Given.{Given}
use Rattle.sq_fql.specs.Number.{natural, whole}
use Rattle.sq_fql.specs.Operators.{named}
use Rattle.sq_fql.specs.Limits.{greatest_count, fql_distance}

-- ---- values

-- whether a range begins above its first bound
abbrev pub lower_bounds : List (TextBytes × Bool)
lower_bounds = (codes "gt", true) ∷ (codes "ge", false) ∷ []

-- whether a range ends below its second bound
abbrev pub upper_bounds : List (TextBytes × Bool)
upper_bounds = (codes "lt", true) ∷ (codes "le", false) ∷ []

abbrev pub modes : List (TextBytes × Mode)
modes =
    (codes "phrase", mode.Phrase) ∷ (codes "and", mode.And) ∷ (codes "or", mode.Or) ∷ (codes "any", mode.Any) ∷ (codes "near", mode.Near)
    ∷ (codes "onear", mode.Onear) ∷ []

-- what a value sets as a parameter
abbrev pub setting_of : Parameter → TextBytes → Option Setting
setting_of parameter.Distance v = option_map setting.N (natural v greatest_distance)
setting_of parameter.From v = option_map setting.From (natural v greatest_count)
setting_of parameter.To v = option_map setting.To (natural v greatest_count)
setting_of parameter.Lower v = option_map setting.Above (named v lower_bounds)
setting_of parameter.Upper v = option_map setting.Below (named v upper_bounds)
setting_of parameter.ModeName v = option_map setting.Mode (named v modes)
setting_of parameter.Cb v = option_map setting.Cb (whole v greatest_boost)
setting_of parameter.Sample v = option_map setting.N (natural v greatest_boost)
setting_of parameter.OtherBoost v = None

-- ---- what was given

abbrev pub nothing_given : Given
nothing_given = record { n = None; from = None; to = None; above = None; below = None; mode = None; cb = None }

-- a value where there was none
abbrev pub first : {X : Type 0} → Option X → X → Option X
first (Some y) x = None
first None x = Some x

-- one more, whose name stands at a place; None where it was given before
abbrev pub with_setting : Setting → ℕ → Given → Option Given
with_setting (setting.N v) at g = option_map (λ n. record g { n = Some n }) (first g.n (record { value = v; at = at }))
with_setting (setting.From v) at g = option_map (λ n. record g { from = Some n }) (first g.from v)
with_setting (setting.To v) at g = option_map (λ n. record g { to = Some n }) (first g.to v)
with_setting (setting.Above v) at g = option_map (λ b. record g { above = Some b }) (first g.above v)
with_setting (setting.Below v) at g = option_map (λ b. record g { below = Some b }) (first g.below v)
with_setting (setting.Mode v) at g = option_map (λ m. record g { mode = Some m }) (first g.mode v)
with_setting (setting.Cb v) at g = option_map (λ n. record g { cb = Some n }) (first g.cb v)

abbrev pub set : Option Setting → ℕ → Given → Outcome Given
set None at g = refused BAD_PARAMETER at
set (Some s) at g = or_refused (with_setting s at g) BAD_PARAMETER at

-- with the value of a parameter whose name stands at a place; a fault where there is no such parameter or value, or it was given before
abbrev pub with_value : Option Parameter → TextBytes → ℕ → Given → Outcome Given
with_value None v at g = refused BAD_PARAMETER at
with_value (Some p) v at g = set (setting_of p v) at g

-- ---- the operator that they make

abbrev pub or_default : {X : Type 0} → Option X → X → X
or_default (Some x) y = x
or_default None y = y

abbrev pub distance : Option Number → ℕ
distance (Some n) = n.value
distance None = fql_distance

-- a string has a distance only where its mode is near or onear
abbrev pub plain_string : Mode → Option Number → Outcome Op
plain_string m (Some n) = refused BAD_PARAMETER n.at
plain_string m None = Ok (op.Str m fql_distance)

abbrev pub string_operation : Mode → Option Number → Outcome Op
string_operation mode.Near n = Ok (op.Str mode.Near (distance n))
string_operation mode.Onear n = Ok (op.Str mode.Onear (distance n))
string_operation m n = plain_string m n

abbrev pub boosted : Option ℤ → ℕ → Outcome Op
boosted (Some cb) at = Ok (op.Xrank cb)
boosted None at = refused MISSING_ARGUMENT at

-- the operator with its parameters and their defaults, at the place where its list ends
abbrev pub operation : Operator → Given → ℕ → Outcome Op
operation operator.And g at = Ok op.And
operation operator.Or g at = Ok op.Or
operation operator.Any g at = Ok op.Any
operation operator.AndNot g at = Ok op.AndNot
operation operator.Not g at = Ok op.Not
operation operator.Filter g at = Ok op.Filter
operation operator.Count g at = Ok (op.Count (or_default g.from 1) g.to)
operation operator.Range g at = Ok (op.Range (or_default g.above false) (or_default g.below false))
operation operator.Xrank g at = boosted g.cb at
operation operator.Near g at = Ok (op.Near (distance g.n))
operation operator.Onear g at = Ok (op.Onear (distance g.n))
operation operator.Words g at = Ok op.Words
operation operator.Phrase g at = Ok op.Phrase
operation operator.StartsWith g at = Ok op.StartsWith
operation operator.EndsWith g at = Ok op.EndsWith
operation operator.Equals g at = Ok op.Equals
operation operator.Str g at = string_operation (or_default g.mode mode.Phrase) g.n
operation operator.Int g at = Ok op.Int
operation operator.DateTime g at = Ok op.DateTime
