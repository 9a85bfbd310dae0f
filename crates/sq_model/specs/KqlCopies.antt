-- Weights and copies of the proximity expressions of KQL, as those of FQL.
use Rattle.std.specs.Prelude.{ℕ, ◌*◌, List, [], ◌∷◌, ◌++◌, map, length, sum}
use Rattle.sq_model.specs.Lists.{joined}
use Rattle.sq_model.specs.Triples.{choices}
use Rattle.sq_model.specs.Copies.{distinct, greatest, product}
use Rattle.sq_model.specs.declared.kql.KTree.{KTree, Free, Words, Group', Near', Or', Row_of-KTree, end_of-KTree, more_of-KTree}

abbrev mutual
  pub weights : KTree → List ℕ
  weights (Free leaf) = length leaf.pattern.texts ∷ []
  weights (Words leaves) = distinct (map (λ leaf. length leaf.pattern.texts) leaves)
  weights (Group' s inside) = distinct (joined (weights_each inside))
  weights (Or' shape parts) = distinct (joined (weights_each parts))
  weights (Near' s left t right n ordered) = distinct (map sum (choices (weights_each left ++ weights_each right)))
  weights _ = []

  pub weights_each : {m : _} → Row_of-KTree m → List (List ℕ)
  weights_each end_of-KTree = []
  weights_each (more_of-KTree part rest) = weights part ∷ weights_each rest

abbrev mutual
  pub copies : KTree → ℕ
  copies (Free leaf) = 1
  copies (Words leaves) = 1
  copies (Group' s inside) = greatest (copies_each inside)
  copies (Or' shape parts) = greatest (copies_each parts)
  copies (Near' s left t right n ordered) =
      product (map length (weights_each left ++ weights_each right)) * greatest (copies_each left ++ copies_each right)
  copies _ = 0

  pub copies_each : {m : _} → Row_of-KTree m → List ℕ
  copies_each end_of-KTree = []
  copies_each (more_of-KTree part rest) = copies part ∷ copies_each rest
