-- Of what is counted in a typed tree of FQL, as its xrank or its tokens, the operators that all kinds have give no more than their operands have together,
-- and what is their own.
use Rattle.std.proofs.Common.{ℕ, ◌+◌, ◌≤◌, List, [], ◌∷◌, Option, Some, None, arith}
use Rattle.std.specs.Prelude.{Ok, Err, IfOk, IfSome, ℤ}
use Rattle.sq_model.specs.declared.fql.FTree.{FTree}
use Rattle.sq_model.specs.declared.fql.FTree.TheVariants as tree
use Rattle.sq_base.specs.Outcome.{Outcome}
use Rattle.sq_fql.specs.declared.raw.Op.{Op}
use Rattle.sq_fql.specs.declared.raw.Op.TheVariants as op
use Rattle.sq_typing.specs.Fql.{made, some_trees, only_tree, first_and_others, combined, combined_all}

module _ (amount : FTree → ℕ) where
  abbrev pub amounts : List FTree → ℕ
  amounts [] = 0
  amounts (t ∷ ts) = amount t + amounts ts

  -- no more than so many
  abbrev pub AtMost : ℕ → FTree → Type 0
  AtMost n t = amount t ≤ n

  -- a node has no more than its parts, and what is the own of its operator
  pub record IsSummed (own : Op → ℕ) : Type 0 where
    pub of_and : (ts : List FTree) → amount (tree.And ts) ≤ amounts ts
    pub of_or : (ts : List FTree) → amount (tree.Or ts) ≤ amounts ts
    pub of_not : (t : FTree) → amount (tree.Not t) ≤ amount t
    pub of_filter : (t : FTree) → amount (tree.Filter t) ≤ amount t
    pub of_and_not : (t : FTree) (ts : List FTree) → amount (tree.AndNot t ts) ≤ amount t + amounts ts
    pub of_xrank : (t : FTree) (ts : List FTree) (cb : ℤ) → amount (tree.Xrank t ts cb) ≤ own (op.Xrank cb) + (amount t + amounts ts)

  if_made : {A : Type 0} (f : A → FTree) (x : Option A) (P : A → Type 0) (n : ℕ) → IfSome x P → ((a : A) → P a → AtMost n (f a)) → IfOk (made f x) (AtMost n)
  if_made f (Some a) P n h k = k a h
  if_made f None P n h k = tt

  some_few : (ts : List FTree) (n : ℕ) → amounts ts ≤ n → IfSome (some_trees ts) (λ us. amounts us ≤ n)
  some_few [] n h = tt
  some_few (t ∷ ts) n h = h

  only_few : (ts : List FTree) (n : ℕ) → amounts ts ≤ n → IfSome (only_tree ts) (AtMost n)
  only_few [] n h = tt
  only_few (t ∷ []) n h = omega (arith, h)
  only_few (t ∷ (u ∷ us)) n h = tt

  first_few : (ts : List FTree) (n : ℕ) → amounts ts ≤ n → IfSome (first_and_others ts) (λ p. amount p.0 + amounts p.1 ≤ n)
  first_few [] n h = tt
  first_few (t ∷ []) n h = tt
  first_few (t ∷ (u ∷ us)) n h = h

  pub combined_few : (own : Op → ℕ) → IsSummed own → (o : Op) (ts : List FTree) (n : ℕ) → amounts ts ≤ n → IfOk (combined o ts) (AtMost (own o + n))
  combined_few own sums op.And ts n h =
      if_made tree.And (some_trees ts) (λ us. amounts us ≤ n) (own op.And + n) (some_few ts n h) (λ us k. omega (arith, sums.of_and us, k))
  combined_few own sums op.Or ts n h =
      if_made tree.Or (some_trees ts) (λ us. amounts us ≤ n) (own op.Or + n) (some_few ts n h) (λ us k. omega (arith, sums.of_or us, k))
  combined_few own sums op.Any ts n h =
      if_made tree.Or (some_trees ts) (λ us. amounts us ≤ n) (own op.Any + n) (some_few ts n h) (λ us k. omega (arith, sums.of_or us, k))
  combined_few own sums op.AndNot ts n h =
      if_made (λ p. tree.AndNot p.0 p.1) (first_and_others ts) (λ p. amount p.0 + amounts p.1 ≤ n) (own op.AndNot + n) (first_few ts n h)
      (λ p k. omega (arith, sums.of_and_not p.0 p.1, k))
  combined_few own sums op.Not ts n h =
      if_made tree.Not (only_tree ts) (AtMost n) (own op.Not + n) (only_few ts n h) (λ t k. omega (arith, sums.of_not t, k))
  combined_few own sums op.Filter ts n h =
      if_made tree.Filter (only_tree ts) (AtMost n) (own op.Filter + n) (only_few ts n h) (λ t k. omega (arith, sums.of_filter t, k))
  combined_few own sums (op.Xrank cb) ts n h =
      if_made (λ p. tree.Xrank p.0 p.1 cb) (first_and_others ts) (λ p. amount p.0 + amounts p.1 ≤ n) (own (op.Xrank cb) + n) (first_few ts n h)
      (λ p k. omega (arith, sums.of_xrank p.0 p.1 cb, k))
  combined_few own sums _ ts n h = tt

  pub combined_all_few : (own : Op → ℕ) → IsSummed own → (o : Op) (trees : Outcome (List FTree)) (n : ℕ) → IfOk trees (λ ts. amounts ts ≤ n) →
      IfOk (combined_all o trees) (AtMost (own o + n))
  combined_all_few own sums o (Ok ts) n h = combined_few own sums o ts n h
  combined_all_few own sums o (Err e) n h = tt

  pub wider : (x : Outcome FTree) (m n : ℕ) → m ≤ n → IfOk x (AtMost m) → IfOk x (AtMost n)
  wider (Ok t) m n few h = omega (arith, few, h)
  wider (Err e) m n few h = tt
