use Rattle.std.proofs.Common.{◌≡◌, drop, Some}
use Rattle.std.specs.List.{reduce, fold}
use Rattle.sq_model.specs.Triples.{join}
use Rattle.sq_slow.proofs.near.join_all.Given as goal

abbrev pub invariant-loop-t : goal.invariant-loop-t
invariant-loop-t l = Some (fold join l.whole (drop l.t-index l.rest)) ≡ reduce join l.chosen
