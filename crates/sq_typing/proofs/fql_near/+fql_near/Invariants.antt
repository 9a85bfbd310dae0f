use Rattle.std.proofs.Common.{◌≡◌, ◌++◌, map, drop}
use Rattle.sq_typing.specs.Fql.{proximate}
use Rattle.sq_typing.specs.Together.{together, all_of}
use Rattle.sq_typing.proofs.fql_near.+fql_near.Given as goal

abbrev pub invariant-proximate_each-loop-part : goal.invariant-proximate_each-loop-part
invariant-proximate_each-loop-part l =
    together (λ xs ys. xs ++ ys) l.typed (all_of (map (proximate l.schema l.look) (drop l.part-index l.parts))) ≡ all_of (map (proximate l.schema l.look) l.parts)
