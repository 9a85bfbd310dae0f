use Rattle.std.proofs.Common.{◌≡◌, ◌+◌, ◌*◌, ◌++◌, map, drop}
use Rattle.sq_typing.specs.Together.{together, all_of}
use Rattle.sq_typing.specs.Kql.{proximate}
use Rattle.sq_kql.specs.WellFormed.{nodes}
use Rattle.sq_typing.proofs.NodeLemmas.{all_nodes}
use Rattle.sq_typing.proofs.kql_near.+kql_near.Given as goal

abbrev pub invariant-proximate_each-loop-part : goal.invariant-proximate_each-loop-part
invariant-proximate_each-loop-part l =
    together (λ xs ys. xs ++ ys) l.typed (all_of (map (proximate l.schema) (drop l.part-index l.parts))) ≡ all_of (map (proximate l.schema) l.parts)

abbrev pub decreases-proximate : goal.decreases-proximate
decreases-proximate l = 3 * nodes l.tree.now

abbrev pub decreases-group_in : goal.decreases-group_in
decreases-group_in l = 3 * nodes l.inside.now + 1

abbrev pub decreases-or_in : goal.decreases-or_in
decreases-or_in l = 3 * all_nodes l.parts.now + 2

abbrev pub decreases-near_right : goal.decreases-near_right
decreases-near_right l = 3 * (nodes l.left.now + nodes l.right.now) + 1

abbrev pub decreases-near_in : goal.decreases-near_in
decreases-near_in l = 3 * (nodes l.left.now + nodes l.right.now) + 2

abbrev pub decreases-proximate_each : goal.decreases-proximate_each
decreases-proximate_each l = 3 * all_nodes l.parts.now + 1
