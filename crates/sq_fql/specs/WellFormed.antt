-- Trees that reading may give.
use Rattle.std.specs.Prelude.{◌≡◌, ℕ, suc, ◌+◌, ◌≤◌, ◌<◌, Bool, true, false, length, slice_index, unsigned_abs, None, IfSome}
use Rattle.std.specs.Char.{is_ascii_alphabetic}
use Rattle.std.specs.List.{list_all}
use Rattle.sq_base.specs.Limits.{greatest_distance, greatest_boost, xrank_bound}
use Rattle.sq_tokens.specs.Pattern.{first_bad_star}
use Rattle.sq_lex.specs.declared.class.Class.TheVariants as class
use Rattle.sq_lex.specs.Bytes.{TextBytes, is_in}
use Rattle.sq_fql.specs.declared.raw.Mode.{Mode}
use Rattle.sq_fql.specs.declared.raw.Mode.TheVariants as mode
use Rattle.sq_fql.specs.declared.raw.Op.{Op}
use Rattle.sq_fql.specs.declared.raw.Op.TheVariants as op
use Rattle.sq_fql.specs.declared.raw.FRaw.{FRaw, All, Literal, Scope', Apply', Row_of-FRaw, end_of-FRaw, more_of-FRaw}
use Rattle.sq_fql.specs.declared.operator.Operator.{Operator}
use Rattle.sq_fql.specs.declared.operator.Operator.TheVariants as operator
use Rattle.sq_fql.specs.declared.operator.Arity.{Arity}
use Rattle.sq_fql.specs.Operators.{operands_of}
use Rattle.sq_fql.specs.Sums.{Counts, sum_over, sum_over_each}
use Rattle.sq_fql.specs.Limits.{fql_byte_bound, greatest_count, fql_distance}

-- the operator without its parameters
abbrev pub operator_in : Op → Operator
operator_in op.And = operator.And
operator_in op.Or = operator.Or
operator_in op.Any = operator.Any
operator_in op.AndNot = operator.AndNot
operator_in op.Not = operator.Not
operator_in (op.Near n) = operator.Near
operator_in (op.Onear n) = operator.Onear
operator_in op.Words = operator.Words
operator_in (op.Count from to) = operator.Count
operator_in (op.Range above below) = operator.Range
operator_in op.StartsWith = operator.StartsWith
operator_in op.EndsWith = operator.EndsWith
operator_in op.Equals = operator.Equals
operator_in op.Filter = operator.Filter
operator_in (op.Str m n) = operator.Str
operator_in op.Int = operator.Int
operator_in op.DateTime = operator.DateTime
operator_in op.Phrase = operator.Phrase
operator_in (op.Xrank cb) = operator.Xrank

-- the distance of a string, which is the default where its mode has none
abbrev pub IsDistance : Mode → ℕ → Type 0
IsDistance mode.Near n = n ≤ greatest_distance
IsDistance mode.Onear n = n ≤ greatest_distance
IsDistance _ n = n ≡ fql_distance

-- each parameter is within its limit
abbrev pub IsWithinLimits : Op → Type 0
IsWithinLimits (op.Near n) = n ≤ greatest_distance
IsWithinLimits (op.Onear n) = n ≤ greatest_distance
IsWithinLimits (op.Count from to) = (from ≤ greatest_count) × IfSome to (λ n. n ≤ greatest_count)
IsWithinLimits (op.Str m n) = IsDistance m n
IsWithinLimits (op.Xrank cb) = unsigned_abs cb ≤ greatest_boost
IsWithinLimits _ = Unit {0}

-- one word that begins with a letter
pub record IsName (name : TextBytes) : Type 0 where
  pub letter : is_ascii_alphabetic (slice_index name 0) ≡ true
  pub word : list_all (is_in class.Term) name ≡ true

abbrev pub count : {m : _} → Row_of-FRaw m → ℕ
count end_of-FRaw = 0
count (more_of-FRaw part rest) = suc (count rest)

abbrev pub is_literal : FRaw → Bool
is_literal (Literal p) = true
is_literal _ = false

abbrev pub AreLiterals : {m : _} → Row_of-FRaw m → Type 0
AreLiterals end_of-FRaw = Unit {0}
AreLiterals (more_of-FRaw part rest) = (is_literal part ≡ true) × AreLiterals rest

-- as many operands as the table says, and literals alone where it says so
pub record AreOperands {m : _} (arity : Arity) (row : Row_of-FRaw m) : Type 0 where
  pub least : arity.least ≤ count row
  pub most : IfSome arity.most (λ most. count row ≤ most)
  pub literals : arity.literals ≡ true → AreLiterals row

abbrev mutual
  -- no literal has a bad star, each scope has a name, and each operator meets the table
  pub HasForm : FRaw → Type 0
  HasForm (All at) = Unit {0}
  HasForm (Literal p) = first_bad_star p.text ≡ None
  HasForm (Scope' at name s inside) = IsName name × HaveForm inside
  HasForm (Apply' at op s operands) = AreOperands (operands_of (operator_in op)) operands × IsWithinLimits op × HaveForm operands

  pub HaveForm : {m : _} → Row_of-FRaw m → Type 0
  HaveForm end_of-FRaw = Unit {0}
  HaveForm (more_of-FRaw part rest) = HasForm part × HaveForm rest

-- the bytes of a tree's literals
abbrev pub byte_counts : Counts
byte_counts = record {
  literal = λ p. length p.text;
  operator = λ op n. n;
}

abbrev pub bytes : FRaw → ℕ
bytes tree = sum_over byte_counts tree

abbrev pub bytes_each : {m : _} → Row_of-FRaw m → ℕ
bytes_each parts = sum_over_each byte_counts parts

abbrev pub is_xrank : Op → ℕ
is_xrank (op.Xrank cb) = 1
is_xrank _ = 0

-- how many operators of a tree are xrank
abbrev pub xrank_counts : Counts
xrank_counts = record {
  literal = λ p. 0;
  operator = λ op n. is_xrank op + n;
}

abbrev pub xranks : FRaw → ℕ
xranks tree = sum_over xrank_counts tree

abbrev pub xranks_each : {m : _} → Row_of-FRaw m → ℕ
xranks_each parts = sum_over_each xrank_counts parts

pub record IsWellFormed (t : FRaw) : Type 0 where
  pub form : HasForm t
  pub few_bytes : bytes t < fql_byte_bound
  pub few_xranks : xranks t < xrank_bound
