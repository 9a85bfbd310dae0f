-- Sums over the parts of trees.
use Rattle.std.specs.Prelude.{ℕ, ◌+◌, List, Option}
use Rattle.sq_kql.specs.declared.raw.Piece.{Piece}
use Rattle.sq_kql.specs.declared.raw.KRaw.{KRaw, Free, All, Words, Group', Restrict, Near', Run', And', Or', Xrank', Row_of-KRaw, end_of-KRaw, more_of-KRaw, Row_of-KRawOperand, end_of-KRawOperand, more_of-KRawOperand}

-- what a piece counts, a list of WORDS, an upper value, and a tree by the sum over its parts
pub record Counts : Type 0 where
  pub piece : Piece → ℕ
  pub words : List Piece → ℕ
  pub upper : Option Piece → ℕ
  pub whole : ℕ → ℕ

abbrev mutual
  pub sum_over : Counts → KRaw → ℕ
  sum_over counts (Free p) = counts.whole (counts.piece p)
  sum_over counts (All at) = counts.whole 0
  sum_over counts (Words at ps) = counts.whole (counts.words ps)
  sum_over counts (Group' at s inside) = counts.whole (sum_over_each counts inside)
  sum_over counts (Restrict at name rel value upper) = counts.whole (counts.piece value + counts.upper upper)
  sum_over counts (Near' at s left t right n ordered) = counts.whole (sum_over_each counts left + sum_over_each counts right)
  sum_over counts (Run' at s operands) = counts.whole (sum_over_operands counts operands)
  sum_over counts (And' at s parts) = counts.whole (sum_over_each counts parts)
  sum_over counts (Or' at s parts) = counts.whole (sum_over_each counts parts)
  sum_over counts (Xrank' at s matched t ranked cb) = counts.whole (sum_over_each counts matched + sum_over_each counts ranked)

  pub sum_over_each : {m : _} → Counts → Row_of-KRaw m → ℕ
  sum_over_each counts end_of-KRaw = 0
  sum_over_each counts (more_of-KRaw part rest) = sum_over counts part + sum_over_each counts rest

  pub sum_over_operands : {m : _} → Counts → Row_of-KRawOperand m → ℕ
  sum_over_operands counts end_of-KRawOperand = 0
  sum_over_operands counts (more_of-KRawOperand sign at tree rest) = sum_over counts tree + sum_over_operands counts rest
