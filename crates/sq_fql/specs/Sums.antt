-- Sums over the parts of trees.
use Rattle.std.specs.Prelude.{ℕ, ◌+◌}
use Rattle.sq_fql.specs.declared.raw.FPiece.{FPiece}
use Rattle.sq_fql.specs.declared.raw.Op.{Op}
use Rattle.sq_fql.specs.declared.raw.FRaw.{FRaw, All, Literal, Scope', Apply', Row_of-FRaw, end_of-FRaw, more_of-FRaw}

-- what a literal counts, and an operator by the sum over its operands
pub record Counts : Type 0 where
  pub literal : FPiece → ℕ
  pub operator : Op → ℕ → ℕ

abbrev mutual
  pub sum_over : Counts → FRaw → ℕ
  sum_over counts (All at) = 0
  sum_over counts (Literal p) = counts.literal p
  sum_over counts (Scope' at name s inside) = sum_over_each counts inside
  sum_over counts (Apply' at op s operands) = counts.operator op (sum_over_each counts operands)

  pub sum_over_each : {m : _} → Counts → Row_of-FRaw m → ℕ
  sum_over_each counts end_of-FRaw = 0
  sum_over_each counts (more_of-FRaw part rest) = sum_over counts part + sum_over_each counts rest
