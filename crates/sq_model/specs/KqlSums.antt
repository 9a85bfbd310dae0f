-- Sums over the parts of KQL expressions.
use Rattle.std.specs.Prelude.{ℕ, ◌+◌, List, [], ◌∷◌, sum}
use Rattle.sq_model.specs.declared.leaf.Leaf.{Leaf}
use Rattle.sq_model.specs.declared.kql.KTree.{KTree, Free, All, Words, Group', TextTest, ValueTest, Near', Run', And', Or', Xrank', Row_of-KTree, end_of-KTree, more_of-KTree, Row_of-KOperand, end_of-KOperand, more_of-KOperand}

-- what a text counts, a list of WORDS, and an expression by the sum over its parts
pub record Counts : Type 0 where
  pub leaf : Leaf → ℕ
  pub words : List Leaf → ℕ
  pub whole : ℕ → ℕ

abbrev mutual
  pub sum_over : Counts → KTree → ℕ
  sum_over counts (Free leaf) = counts.whole (counts.leaf leaf)
  sum_over counts All = counts.whole 0
  sum_over counts (Words leaves) = counts.whole (counts.words leaves)
  sum_over counts (Group' s inside) = counts.whole (sum (sums_over counts inside))
  sum_over counts (TextTest property relation leaf) = counts.whole (counts.leaf leaf)
  sum_over counts (ValueTest property relation first last) = counts.whole 0
  sum_over counts (Near' s left t right n ordered) = counts.whole (sum (sums_over counts left) + sum (sums_over counts right))
  sum_over counts (Run' shape operands) = counts.whole (sum (operand_sums counts operands))
  sum_over counts (And' shape parts) = counts.whole (sum (sums_over counts parts))
  sum_over counts (Or' shape parts) = counts.whole (sum (sums_over counts parts))
  sum_over counts (Xrank' s matched t ranked cb) = counts.whole (sum (sums_over counts matched) + sum (sums_over counts ranked))

  pub sums_over : {m : _} → Counts → Row_of-KTree m → List ℕ
  sums_over counts end_of-KTree = []
  sums_over counts (more_of-KTree part rest) = sum_over counts part ∷ sums_over counts rest

  pub operand_sums : {m : _} → Counts → Row_of-KOperand m → List ℕ
  operand_sums counts end_of-KOperand = []
  operand_sums counts (more_of-KOperand sign tree rest) = sum_over counts tree ∷ operand_sums counts rest
