use Rattle.std.proofs.Common.{◌≡◌, ◌+◌, ◌*◌, ◌++◌, map, drop}
use Rattle.sq_typing.specs.Together.{together, all_of}
use Rattle.sq_typing.specs.Kql.{typed, typed_operand}
use Rattle.sq_kql.specs.WellFormed.{nodes}
use Rattle.sq_typing.proofs.NodeLemmas.{all_nodes, all_operand_nodes}
use Rattle.sq_typing.proofs.kql.+kql.Given as goal

abbrev pub invariant-typed_each-loop-part : goal.invariant-typed_each-loop-part
invariant-typed_each-loop-part l =
    together (λ xs ys. xs ++ ys) l.trees (all_of (map (typed l.schema l.now) (drop l.part-index l.parts))) ≡ all_of (map (typed l.schema l.now) l.parts)

abbrev pub invariant-typed_operands-loop-part : goal.invariant-typed_operands-loop-part
invariant-typed_operands-loop-part l =
    together (λ xs ys. xs ++ ys) l.operands (all_of (map (typed_operand l.schema l.now) (drop l.part-index l.parts)))
    ≡ all_of (map (typed_operand l.schema l.now) l.parts)

abbrev pub decreases-typed : goal.decreases-typed
decreases-typed l = 2 * nodes l.tree.now

abbrev pub decreases-typed_each : goal.decreases-typed_each
decreases-typed_each l = 2 * all_nodes l.parts.now + 1

abbrev pub decreases-typed_operands : goal.decreases-typed_operands
decreases-typed_operands l = 2 * all_operand_nodes l.parts.now + 1
