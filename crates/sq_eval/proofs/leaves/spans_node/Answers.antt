use Rattle.std.proofs.lemmas.Result.{err_from_is_err_and}
use Rattle.sq_eval.proofs.LeafLemmas.{spans_less}
use Rattle.sq_eval.proofs.leaves.spans_node.Goals as goal

pub returns-in_err-node-clause-cost : goal.returns-in_err-node-clause-cost
returns-in_err-node-clause-cost g c =
    let refused = err_from_is_err_and c.from_residual-in_err-node.result c.from_residual-in_err-node.ensures.1 in
    rw refused.1 (spans_less c.args.index.now c.args.look c.args.tree.now c.in_ok-streams.streams _ _ c.in_ok-streams.ensures.cost)
