-- Sums over the parts of expressions.
use Rattle.std.specs.Prelude.{ℕ, ◌+◌, List, [], ◌∷◌, sum}
use Rattle.sq_model.specs.declared.leaf.Leaf.{Leaf as Literal}
use Rattle.sq_model.specs.declared.fql.Look.{Look}
use Rattle.sq_model.specs.declared.fql.SpanTree.{SpanTree, Leaf, Union', Near', Row_of-SpanTree, end_of-SpanTree, more_of-SpanTree}
use Rattle.sq_model.specs.declared.fql.FTree.{FTree, All, Spans, Count, Edge, Within, And', Or', AndNot', Not', Filter', Xrank', Row_of-FTree, end_of-FTree, more_of-FTree}

abbrev mutual
  -- the sum of what each leaf of a proximity expression counts
  pub sum_of_leaves : (Literal → ℕ) → SpanTree → ℕ
  sum_of_leaves counts (Leaf leaf) = counts leaf
  sum_of_leaves counts (Union' shape parts) = sum (sums_of_leaves counts parts)
  sum_of_leaves counts (Near' shape parts n ordered) = sum (sums_of_leaves counts parts)

  pub sums_of_leaves : {m : _} → (Literal → ℕ) → Row_of-SpanTree m → List ℕ
  sums_of_leaves counts end_of-SpanTree = []
  sums_of_leaves counts (more_of-SpanTree part rest) = sum_of_leaves counts part ∷ sums_of_leaves counts rest

-- what the parts of an FQL expression that have no parts of their own count, and an xrank by the sum over its parts
pub record Counts : Type 0 where
  pub spans : Look → SpanTree → ℕ
  pub leaf : Look → Literal → ℕ
  pub range : ℕ → ℕ
  pub xrank : ℕ → ℕ

abbrev mutual
  pub sum_over : Counts → FTree → ℕ
  sum_over counts All = 0
  sum_over counts (Spans look tree) = counts.spans look tree
  sum_over counts (Count look leaf from to) = counts.leaf look leaf
  sum_over counts (Edge look leaf starts ends) = counts.leaf look leaf
  sum_over counts (Within property first last) = counts.range property
  sum_over counts (And' shape parts) = sum (sums_over counts parts)
  sum_over counts (Or' shape parts) = sum (sums_over counts parts)
  sum_over counts (AndNot' s first t others) = sum (sums_over counts first) + sum (sums_over counts others)
  sum_over counts (Not' s inner) = sum (sums_over counts inner)
  sum_over counts (Filter' s inner) = sum (sums_over counts inner)
  sum_over counts (Xrank' s matched t ranks cb) = counts.xrank (sum (sums_over counts matched) + sum (sums_over counts ranks))

  pub sums_over : {m : _} → Counts → Row_of-FTree m → List ℕ
  sums_over counts end_of-FTree = []
  sums_over counts (more_of-FTree part rest) = sum_over counts part ∷ sums_over counts rest
