use Rattle.std.proofs.Common.{◌≡◌, drop}
use Rattle.sq_model.specs.Triples.{choices}
use Rattle.sq_streams.proofs.WeightLemmas.{continued}
use Rattle.sq_streams.proofs.weights.choices_of.Given as goal

abbrev pub invariant-loop-list : goal.invariant-loop-list
invariant-loop-list l = continued l.all (choices (drop l.list-index l.lists)) ≡ choices l.lists
