use Rattle.std.proofs.Common.{◌+◌, refl, sym, ap, subst, ◌∙◌, map, sum, rules, SFits, w64}
use Rattle.std.proofs.lemmas.Int.{to_z-of_z}
use Rattle.std.proofs.lemmas.Result.{err_from_is_err_and}
use Rattle.sq_model.specs.declared.fql.FTree.TheVariants.{And, Or, Not, Filter}
use Rattle.sq_nodes.specs.Scores.{node_score, node_rest, with_boost}
use Rattle.sq_eval.specs.Nodes.{IsNodeOf, IsWithinTree, some_score}
use Rattle.sq_eval.proofs.BuildLemmas as lemma
use Rattle.sq_eval.proofs.build.+node_of.Goals as goal

pub and_node-returns-in_err-nodes-clause-cost : goal.and_node-returns-in_err-nodes-clause-cost
and_node-returns-in_err-nodes-clause-cost g t c =
    let refused = err_from_is_err_and c.from_residual.result c.from_residual.ensures.1 in
    rw refused.1 (lemma.and_refused c.args.index.now c.args.parts.now c.args.steps.now c.nodes_of.new.steps c.in_err-nodes.ensures.cost)

pub and_node-returns-in_err-node-clause-cost : goal.and_node-returns-in_err-node-clause-cost
and_node-returns-in_err-node-clause-cost g t c =
    let refused = err_from_is_err_and c.from_residual-in_err-node.result c.from_residual-in_err-node.ensures.1 in
    rw refused.1 (lemma.and_refused c.args.index.now c.args.parts.now c.args.steps.now c.nodes_of.new.steps (lemma.trees_less c.args.index.now c.args.parts.now c.args.steps.now c.nodes_of.new.steps (sum (map node_rest c.in_ok-nodes.nodes.items)) c.in_ok-nodes.ensures.cost))

pub and_node-returns-clause-scores : goal.and_node-returns-clause-scores
and_node-returns-clause-scores g t c =
    subst (IsNodeOf c.args.index.now (And c.args.parts.now)) (sym c.in_ok-node.ensures) (lemma.and_scored c.args.index.now c.args.parts.now c.in_ok-nodes.nodes c.in_ok-nodes.ensures.scores)

pub and_node-returns-clause-cost : goal.and_node-returns-clause-cost
and_node-returns-clause-cost g t c =
    subst (λ node. IsWithinTree c.args.index.now (And c.args.parts.now) c.args.steps.now (c.nodes_of.new.steps + node_rest node)) (sym c.in_ok-node.ensures)
    (lemma.and_cost c.args.index.now c.args.parts.now c.in_ok-nodes.nodes c.args.steps.now c.nodes_of.new.steps c.in_ok-nodes.ensures.cost)

pub or_node-returns-in_err-nodes-clause-cost : goal.or_node-returns-in_err-nodes-clause-cost
or_node-returns-in_err-nodes-clause-cost g t c =
    let refused = err_from_is_err_and c.from_residual.result c.from_residual.ensures.1 in
    rw refused.1 (lemma.or_refused c.args.index.now c.args.parts.now c.args.steps.now c.nodes_of.new.steps c.in_err-nodes.ensures.cost)

pub or_node-returns-in_err-node-clause-cost : goal.or_node-returns-in_err-node-clause-cost
or_node-returns-in_err-node-clause-cost g t c =
    let refused = err_from_is_err_and c.from_residual-in_err-node.result c.from_residual-in_err-node.ensures.1 in
    rw refused.1 (lemma.or_refused c.args.index.now c.args.parts.now c.args.steps.now c.nodes_of.new.steps (lemma.trees_less c.args.index.now c.args.parts.now c.args.steps.now c.nodes_of.new.steps (sum (map node_rest c.in_ok-nodes.nodes.items)) c.in_ok-nodes.ensures.cost))

pub or_node-returns-clause-scores : goal.or_node-returns-clause-scores
or_node-returns-clause-scores g t c =
    subst (IsNodeOf c.args.index.now (Or c.args.parts.now)) (sym c.in_ok-node.ensures) (lemma.or_scored c.args.index.now c.args.parts.now c.in_ok-nodes.nodes c.in_ok-nodes.ensures.scores)

pub or_node-returns-clause-cost : goal.or_node-returns-clause-cost
or_node-returns-clause-cost g t c =
    subst (λ node. IsWithinTree c.args.index.now (Or c.args.parts.now) c.args.steps.now (c.nodes_of.new.steps + node_rest node)) (sym c.in_ok-node.ensures)
    (lemma.or_cost c.args.index.now c.args.parts.now c.in_ok-nodes.nodes c.args.steps.now c.nodes_of.new.steps c.in_ok-nodes.ensures.cost)

pub not_node-returns-in_err-inner-clause-cost : goal.not_node-returns-in_err-inner-clause-cost
not_node-returns-in_err-inner-clause-cost g t c =
    let refused = err_from_is_err_and c.from_residual.result c.from_residual.ensures.1 in
    rw refused.1 (lemma.not_refused c.args.index.now c.args.inner.now c.args.steps.now c.node_of.new.steps c.in_err-inner.ensures.cost)

pub not_node-returns-in_err-node-clause-cost : goal.not_node-returns-in_err-node-clause-cost
not_node-returns-in_err-node-clause-cost g t c =
    let refused = err_from_is_err_and c.from_residual-in_err-node.result c.from_residual-in_err-node.ensures.1 in
    rw refused.1 (lemma.not_refused c.args.index.now c.args.inner.now c.args.steps.now c.node_of.new.steps (lemma.tree_less c.args.index.now c.args.inner.now c.args.steps.now c.node_of.new.steps (node_rest c.in_ok-inner.inner.value) c.in_ok-inner.ensures.cost))

pub not_node-returns-clause-scores : goal.not_node-returns-clause-scores
not_node-returns-clause-scores g t c =
    subst (IsNodeOf c.args.index.now (Not c.args.inner.now)) (sym c.in_ok-node.ensures) (lemma.not_scored c.args.index.now c.args.inner.now c.in_ok-inner.inner c.in_ok-inner.ensures.scores)

pub not_node-returns-clause-cost : goal.not_node-returns-clause-cost
not_node-returns-clause-cost g t c =
    subst (λ node. IsWithinTree c.args.index.now (Not c.args.inner.now) c.args.steps.now (c.node_of.new.steps + node_rest node)) (sym c.in_ok-node.ensures)
    (lemma.not_cost c.args.index.now c.args.inner.now c.in_ok-inner.inner c.args.steps.now c.node_of.new.steps c.in_ok-inner.ensures.cost)

pub filter_node-returns-in_err-inner-clause-cost : goal.filter_node-returns-in_err-inner-clause-cost
filter_node-returns-in_err-inner-clause-cost g t c =
    let refused = err_from_is_err_and c.from_residual.result c.from_residual.ensures.1 in
    rw refused.1 (lemma.filter_refused c.args.index.now c.args.inner.now c.args.steps.now c.node_of.new.steps c.in_err-inner.ensures.cost)

pub filter_node-returns-in_err-node-clause-cost : goal.filter_node-returns-in_err-node-clause-cost
filter_node-returns-in_err-node-clause-cost g t c =
    let refused = err_from_is_err_and c.from_residual-in_err-node.result c.from_residual-in_err-node.ensures.1 in
    rw refused.1 (lemma.filter_refused c.args.index.now c.args.inner.now c.args.steps.now c.node_of.new.steps (lemma.tree_less c.args.index.now c.args.inner.now c.args.steps.now c.node_of.new.steps (node_rest c.in_ok-inner.inner.value) c.in_ok-inner.ensures.cost))

pub filter_node-returns-clause-scores : goal.filter_node-returns-clause-scores
filter_node-returns-clause-scores g t c =
    subst (IsNodeOf c.args.index.now (Filter c.args.inner.now)) (sym c.in_ok-node.ensures) (lemma.filter_scored c.args.index.now c.args.inner.now c.in_ok-inner.inner c.in_ok-inner.ensures.scores)

pub filter_node-returns-clause-cost : goal.filter_node-returns-clause-cost
filter_node-returns-clause-cost g t c =
    subst (λ node. IsWithinTree c.args.index.now (Filter c.args.inner.now) c.args.steps.now (c.node_of.new.steps + node_rest node)) (sym c.in_ok-node.ensures)
    (lemma.filter_cost c.args.index.now c.args.inner.now c.in_ok-inner.inner c.args.steps.now c.node_of.new.steps c.in_ok-inner.ensures.cost)

pub nodes_of-returns-in_err-node-clause-cost : goal.nodes_of-returns-in_err-node-clause-cost
nodes_of-returns-in_err-node-clause-cost g t c =
    let refused = err_from_is_err_and c.from_residual.result c.from_residual.ensures.1 in
    rw refused.1 (lemma.part_refused c.args.index.now c.args.trees.now c.loop-tree.tree-index c.tree-item.result c.loop-tree.nodes.items c.args.steps.now c.loop-tree.steps c.node_of.new.steps
    c.loop-tree-test.true c.tree-item.is c.in_err-node.ensures.cost c.loop-tree.invariant.cost)

pub nodes_of-returns-in_err-push_node-clause-cost : goal.nodes_of-returns-in_err-push_node-clause-cost
nodes_of-returns-in_err-push_node-clause-cost g t c =
    let refused = err_from_is_err_and c.from_residual-in_err-push_node.result c.from_residual-in_err-push_node.ensures.1 in
    rw refused.1 (lemma.part_refused c.args.index.now c.args.trees.now c.loop-tree.tree-index c.tree-item.result c.loop-tree.nodes.items c.args.steps.now c.loop-tree.steps _
    c.loop-tree-test.true c.tree-item.is (lemma.tree_less c.args.index.now c.tree-item.result c.loop-tree.steps _ (node_rest c.in_ok-node.node.value) c.in_ok-node.ensures.cost) c.loop-tree.invariant.cost)

pub nodes_of-loop-tree-preserved : goal.nodes_of-loop-tree-preserved
nodes_of-loop-tree-preserved g t c =
    let items = c.loop-tree.nodes.items in
    let now = c.push_node.new.nodes.items in
    let node = c.in_ok-node.node.value in
    let tree = c.tree-item.result in
    record {
      scores = lemma.next_scored c.args.index.now c.args.trees.now c.loop-tree.tree-index tree items now node c.loop-tree-test.true c.tree-item.is c.in_ok-push_node.ensures c.in_ok-node.ensures.scores c.loop-tree.invariant.scores;
      cost = lemma.next_paid c.args.index.now c.args.trees.now c.loop-tree.tree-index tree items now node c.loop-tree-test.true c.tree-item.is c.in_ok-push_node.ensures c.args.steps.now c.loop-tree.steps c.node_of.new.steps c.in_ok-node.ensures.cost c.loop-tree.invariant.cost;
    }

pub node_of-returns-in_err-first_node-in-AndNot-clause-cost : goal.node_of-returns-in_err-first_node-in-AndNot-clause-cost
node_of-returns-in_err-first_node-in-AndNot-clause-cost g t c =
    let refused = err_from_is_err_and c.from_residual.result c.from_residual.ensures.1 in
    rw refused.1 (lemma.and_not_first_refused c.args.index.now c.args.tree.now c.in-AndNot.first c.get.result.now c.in-AndNot.others c.in-AndNot.others c.get.ensures refl c.in-AndNot.is c.args.steps.now _ c.in_err-first_node-in-AndNot.ensures.cost)

pub node_of-returns-in_err-other_nodes-in-AndNot-clause-cost : goal.node_of-returns-in_err-other_nodes-in-AndNot-clause-cost
node_of-returns-in_err-other_nodes-in-AndNot-clause-cost g t c =
    let refused = err_from_is_err_and c.from_residual-in_err-other_nodes-in-AndNot.result c.from_residual-in_err-other_nodes-in-AndNot.ensures.1 in
    rw refused.1 (lemma.and_not_others_refused c.args.index.now c.args.tree.now c.in-AndNot.first c.get.result.now c.in-AndNot.others c.as_slice-in-AndNot.result.now c.get.ensures c.as_slice-in-AndNot.ensures c.in-AndNot.is c.args.steps.now c.node_of.new.steps (node_rest c.in_ok-first_node-in-AndNot.first_node.value) _
    c.in_ok-first_node-in-AndNot.ensures.cost c.in_err-other_nodes-in-AndNot.ensures.cost)

pub node_of-returns-in_err-node-in-AndNot-clause-cost : goal.node_of-returns-in_err-node-in-AndNot-clause-cost
node_of-returns-in_err-node-in-AndNot-clause-cost g t c =
    let refused = err_from_is_err_and c.from_residual-in_err-node-in-AndNot.result c.from_residual-in_err-node-in-AndNot.ensures.1 in
    let rest = sum (map node_rest c.in_ok-other_nodes-in-AndNot.other_nodes.items) in
    rw refused.1 (lemma.and_not_others_refused c.args.index.now c.args.tree.now c.in-AndNot.first c.get.result.now c.in-AndNot.others c.as_slice-in-AndNot.result.now c.get.ensures c.as_slice-in-AndNot.ensures c.in-AndNot.is c.args.steps.now c.node_of.new.steps (node_rest c.in_ok-first_node-in-AndNot.first_node.value) _
    c.in_ok-first_node-in-AndNot.ensures.cost (lemma.trees_less c.args.index.now c.as_slice-in-AndNot.result.now c.node_of.new.steps _ rest c.in_ok-other_nodes-in-AndNot.ensures.cost))

pub node_of-returns-in_ok-node-in-AndNot-clause-scores : goal.node_of-returns-in_ok-node-in-AndNot-clause-scores
node_of-returns-in_ok-node-in-AndNot-clause-scores g t c =
    lemma.and_not_node_scored c.args.index.now c.args.tree.now c.in-AndNot.first c.get.result.now c.in-AndNot.others c.as_slice-in-AndNot.result.now c.get.ensures c.as_slice-in-AndNot.ensures c.in-AndNot.is c.in_ok-first_node-in-AndNot.first_node.value c.in_ok-other_nodes-in-AndNot.other_nodes.items c.in_ok-node-in-AndNot.node.value
    c.in_ok-first_node-in-AndNot.ensures.scores c.in_ok-other_nodes-in-AndNot.ensures.scores c.in_ok-node-in-AndNot.ensures.scores

pub node_of-returns-in_ok-node-in-AndNot-clause-cost : goal.node_of-returns-in_ok-node-in-AndNot-clause-cost
node_of-returns-in_ok-node-in-AndNot-clause-cost g t c =
    lemma.and_not_node_cost c.args.index.now c.args.tree.now c.in-AndNot.first c.get.result.now c.in-AndNot.others c.as_slice-in-AndNot.result.now c.get.ensures c.as_slice-in-AndNot.ensures c.in-AndNot.is c.in_ok-first_node-in-AndNot.first_node.value c.in_ok-other_nodes-in-AndNot.other_nodes.items c.in_ok-node-in-AndNot.node.value c.args.steps.now c.node_of.new.steps c.nodes_of.new.steps
    c.in_ok-first_node-in-AndNot.ensures.cost c.in_ok-other_nodes-in-AndNot.ensures.cost c.in_ok-node-in-AndNot.ensures.rest

pub node_of-returns-in_err-matched_node-in-Xrank-clause-cost : goal.node_of-returns-in_err-matched_node-in-Xrank-clause-cost
node_of-returns-in_err-matched_node-in-Xrank-clause-cost g t c =
    let refused = err_from_is_err_and c.from_residual-in_err-matched_node-in-Xrank.result c.from_residual-in_err-matched_node-in-Xrank.ensures.1 in
    rw refused.1 (lemma.xrank_first_refused c.args.index.now c.args.tree.now c.in-Xrank.matched c.get-in-Xrank.result.now c.in-Xrank.ranks c.in-Xrank.ranks c.get-in-Xrank.ensures refl c.in-Xrank.cb c.in-Xrank.is c.args.steps.now _ c.in_err-matched_node-in-Xrank.ensures.cost)

pub node_of-returns-in_err-rank_nodes-in-Xrank-clause-cost : goal.node_of-returns-in_err-rank_nodes-in-Xrank-clause-cost
node_of-returns-in_err-rank_nodes-in-Xrank-clause-cost g t c =
    let refused = err_from_is_err_and c.from_residual-in_err-rank_nodes-in-Xrank.result c.from_residual-in_err-rank_nodes-in-Xrank.ensures.1 in
    rw refused.1 (lemma.xrank_others_refused c.args.index.now c.args.tree.now c.in-Xrank.matched c.get-in-Xrank.result.now c.in-Xrank.ranks c.as_slice-in-Xrank.result.now c.get-in-Xrank.ensures c.as_slice-in-Xrank.ensures c.in-Xrank.cb c.in-Xrank.is c.args.steps.now c.node_of-in-Xrank.new.steps (node_rest c.in_ok-matched_node-in-Xrank.matched_node.value) _
    c.in_ok-matched_node-in-Xrank.ensures.cost c.in_err-rank_nodes-in-Xrank.ensures.cost)

pub node_of-returns-in_err-node-in-Xrank-clause-cost : goal.node_of-returns-in_err-node-in-Xrank-clause-cost
node_of-returns-in_err-node-in-Xrank-clause-cost g t c =
    let refused = err_from_is_err_and c.from_residual-in_err-node-in-Xrank.result c.from_residual-in_err-node-in-Xrank.ensures.1 in
    let rest = sum (map node_rest c.in_ok-rank_nodes-in-Xrank.rank_nodes.items) in
    rw refused.1 (lemma.xrank_others_refused c.args.index.now c.args.tree.now c.in-Xrank.matched c.get-in-Xrank.result.now c.in-Xrank.ranks c.as_slice-in-Xrank.result.now c.get-in-Xrank.ensures c.as_slice-in-Xrank.ensures c.in-Xrank.cb c.in-Xrank.is c.args.steps.now c.node_of-in-Xrank.new.steps (node_rest c.in_ok-matched_node-in-Xrank.matched_node.value) _
    c.in_ok-matched_node-in-Xrank.ensures.cost (lemma.trees_less c.args.index.now c.as_slice-in-Xrank.result.now c.node_of-in-Xrank.new.steps _ rest c.in_ok-rank_nodes-in-Xrank.ensures.cost))

pub node_of-returns-in_ok-node-in-Xrank-clause-scores : goal.node_of-returns-in_ok-node-in-Xrank-clause-scores
node_of-returns-in_ok-node-in-Xrank-clause-scores g t c =
    let one = c.in_ok-matched_node-in-Xrank.matched_node.value in
    let more = c.in_ok-rank_nodes-in-Xrank.rank_nodes.items in
    let fits : SFits w64 c.in-Xrank.cb = search rules in
    lemma.xrank_node_scored c.args.index.now c.args.tree.now c.in-Xrank.matched c.get-in-Xrank.result.now c.in-Xrank.ranks c.as_slice-in-Xrank.result.now c.get-in-Xrank.ensures c.as_slice-in-Xrank.ensures c.in-Xrank.cb c.in-Xrank.is
    one more c.in_ok-node-in-Xrank.node.value c.in_ok-matched_node-in-Xrank.ensures.scores c.in_ok-rank_nodes-in-Xrank.ensures.scores
    (λ row. c.in_ok-node-in-Xrank.ensures.scores row ∙ ap (λ boost. with_boost (some_score row more) boost (node_score one row)) (to_z-of_z w64 c.in-Xrank.cb fits))

pub node_of-returns-in_ok-node-in-Xrank-clause-cost : goal.node_of-returns-in_ok-node-in-Xrank-clause-cost
node_of-returns-in_ok-node-in-Xrank-clause-cost g t c =
    lemma.xrank_node_cost c.args.index.now c.args.tree.now c.in-Xrank.matched c.get-in-Xrank.result.now c.in-Xrank.ranks c.as_slice-in-Xrank.result.now c.get-in-Xrank.ensures c.as_slice-in-Xrank.ensures c.in-Xrank.cb c.in-Xrank.is c.in_ok-matched_node-in-Xrank.matched_node.value c.in_ok-rank_nodes-in-Xrank.rank_nodes.items c.in_ok-node-in-Xrank.node.value c.args.steps.now c.node_of-in-Xrank.new.steps c.nodes_of-in-Xrank.new.steps
    c.in_ok-matched_node-in-Xrank.ensures.cost c.in_ok-rank_nodes-in-Xrank.ensures.cost c.in_ok-node-in-Xrank.ensures.rest
