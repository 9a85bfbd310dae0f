use Rattle.std.proofs.Common.{◌≡◌, ◌++◌, map, drop}
use Rattle.sq_typing.specs.Fql.{typed_at}
use Rattle.sq_typing.specs.Together.{together, all_of}
use Rattle.sq_typing.proofs.fql.+fql.Given as goal

abbrev pub invariant-typed_each-loop-part : goal.invariant-typed_each-loop-part
invariant-typed_each-loop-part l =
    together (λ xs ys. xs ++ ys) l.trees (all_of (map (typed_at l.schema l.place) (drop l.part-index l.parts))) ≡ all_of (map (typed_at l.schema l.place) l.parts)
