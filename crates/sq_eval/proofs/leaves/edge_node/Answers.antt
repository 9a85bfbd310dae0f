use Rattle.std.proofs.Common.{◌+◌, sym, subst, arith}
use Rattle.sq_nodes.specs.Scores.{node_rest}
use Rattle.sq_model.specs.declared.fql.FTree.TheVariants.{Edge}
use Rattle.sq_eval.specs.Nodes.{IsWithinTree}
use Rattle.sq_eval.proofs.LeafLemmas.{edge_cost}
use Rattle.sq_eval.proofs.leaves.edge_node.Goals as goal

pub returns-clause-cost : goal.returns-clause-cost
returns-clause-cost g c =
    let cost = edge_cost c.args.index.now c.args.look c.args.leaf.now (record { index = c.args.index; stream = c.in_ok-stream.stream; starts = c.args.starts; ends = c.args.ends }) c.args.steps.now c.pattern_stream.new.steps
    c.in_ok-stream.ensures.left (omega (arith, c.len-tokens.ensures.len, c.len-tokens.ensures.some)) c.in_ok-stream.ensures.cost in
    subst (λ node. IsWithinTree c.args.index.now (Edge c.args.look c.args.leaf.now c.args.starts c.args.ends) c.args.steps.now (c.pattern_stream.new.steps + node_rest node)) (sym c.in_ok-node.ensures.ok) cost
