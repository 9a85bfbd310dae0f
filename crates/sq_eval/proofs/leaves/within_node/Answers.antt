use Rattle.std.proofs.Common.{◌+◌, sym, subst, to_z, of_z, w64}
use Rattle.std.proofs.lemmas.Int.{to_z-of_z}
use Rattle.std.proofs.lemmas.Result.{err_from_is_err_and}
use Rattle.sq_model.specs.declared.fql.FTree.TheVariants.{Within}
use Rattle.sq_nodes.specs.Scores.{node_rest}
use Rattle.sq_nodes.specs.declared.node.Ranged.{Ranged}
use Rattle.sq_eval.specs.Nodes.{IsNodeOf, IsWithinTree}
use Rattle.sq_eval.proofs.LeafLemmas.{within_scored, within_cost, within_less}
use Rattle.sq_eval.proofs.leaves.within_node.Goals as goal

pub returns-in_err-node-clause-cost : goal.returns-in_err-node-clause-cost
returns-in_err-node-clause-cost g c =
    let refused = err_from_is_err_and c.from_residual.result c.from_residual.ensures.1 in
    rw refused.1 (within_less c.args.index.now c.args.property _ _ c.values-values.result c.values-values.ensures.left c.values-values.ensures.cost c.args.first c.args.last)

pub returns-clause-scores : goal.returns-clause-scores
returns-clause-scores g c =
    let ranged : Ranged = record { values = c.values-values.result; first = to_z w64 (of_z w64 c.args.first); last = to_z w64 (of_z w64 c.args.last) } in
    subst (IsNodeOf c.args.index.now (Within c.args.property c.args.first c.args.last)) (sym c.in_ok-node.ensures.ok)
    (within_scored c.args.index.now c.args.property c.args.first c.args.last ranged (to_z-of_z w64 c.args.first c.ranges.first) (to_z-of_z w64 c.args.last c.ranges.last) c.values-values.ensures.left)

pub returns-clause-cost : goal.returns-clause-cost
returns-clause-cost g c =
    let ranged : Ranged = record { values = c.values-values.result; first = to_z w64 (of_z w64 c.args.first); last = to_z w64 (of_z w64 c.args.last) } in
    subst (λ node. IsWithinTree c.args.index.now (Within c.args.property c.args.first c.args.last) c.args.steps.now (c.values-values.new.steps + node_rest node)) (sym c.in_ok-node.ensures.ok)
    (within_cost c.args.index.now c.args.property c.args.steps.now c.values-values.new.steps c.args.first c.args.last ranged c.values-values.ensures.left c.values-values.ensures.cost)
