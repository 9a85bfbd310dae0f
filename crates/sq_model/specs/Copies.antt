-- The weights that the matches of a proximity expression may have, and how many forms it takes by the weights of its parts.
use Rattle.std.specs.Prelude.{ℕ, ◌*◌, max, nat_eq, if◌then◌else◌, List, [], ◌∷◌, map, length, sum}
use Rattle.std.specs.List.{list_any}
use Rattle.sq_model.specs.Lists.{joined}
use Rattle.sq_model.specs.Triples.{choices}
use Rattle.sq_model.specs.declared.fql.SpanTree.{SpanTree, Leaf, Union', Near', Row_of-SpanTree, end_of-SpanTree, more_of-SpanTree}

-- the numbers, each once
abbrev pub distinct : List ℕ → List ℕ
distinct [] = []
distinct (n ∷ ns) = if list_any (nat_eq n) ns then distinct ns else n ∷ distinct ns

abbrev pub greatest : List ℕ → ℕ
greatest [] = 0
greatest (n ∷ ns) = max n (greatest ns)

abbrev pub product : List ℕ → ℕ
product [] = 1
product (n ∷ ns) = n * product ns

abbrev mutual
  -- a phrase has its length, a union the weights of its parts, a near each sum that takes one weight of each part
  pub weights : SpanTree → List ℕ
  weights (Leaf leaf) = length leaf.pattern.texts ∷ []
  weights (Union' shape parts) = distinct (joined (weights_each parts))
  weights (Near' shape parts n ordered) = distinct (map sum (choices (weights_each parts)))

  pub weights_each : {m : _} → Row_of-SpanTree m → List (List ℕ)
  weights_each end_of-SpanTree = []
  weights_each (more_of-SpanTree part rest) = weights part ∷ weights_each rest

abbrev mutual
  -- A union has the greatest copies of a part, a near these times the number of weights of each part.
  pub copies : SpanTree → ℕ
  copies (Leaf leaf) = 1
  copies (Union' shape parts) = greatest (copies_each parts)
  copies (Near' shape parts n ordered) = product (map length (weights_each parts)) * greatest (copies_each parts)

  pub copies_each : {m : _} → Row_of-SpanTree m → List ℕ
  copies_each end_of-SpanTree = []
  copies_each (more_of-SpanTree part rest) = copies part ∷ copies_each rest
