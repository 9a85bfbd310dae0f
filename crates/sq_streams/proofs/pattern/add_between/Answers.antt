use Rattle.std.proofs.Common.{◌+◌, ◌++◌, map, sum_by, arith}
use Rattle.std.proofs.lemmas.Result.{err_from_is_err_and}
use Rattle.sq_near.specs.Streams.{stream_left, stream_rest}
use Rattle.sq_postings.specs.Indexed.{spans_of_list}
use Rattle.sq_postings.specs.Laws.{lists_between, list_length}
use Rattle.sq_streams.proofs.StreamLemmas.{post_left, post_rest, leaves_turn, leaves_cost, leaves_refused, between_left}
use Rattle.sq_streams.proofs.pattern.add_between.Goals as goal

pub loop-list-preserved : goal.loop-list-preserved
loop-list-preserved g c = record {
  left = leaves_turn (stream_left post_left) c.args.index.now c.loop-list.list c.args.end c.loop-list.leaves.items c.push.new.self.items c.leaf-leaf.result
      (map (stream_left post_left) c.args.leaves.now.items ++ map spans_of_list (lists_between c.args.index.now c.args.start c.args.end)) c.loop-list-test.true c.requires
      c.in_ok-push.ensures.items c.leaf-leaf.ensures.left c.loop-list.invariant.left;
  cost = leaves_cost (stream_rest post_rest) c.args.index.now c.loop-list.list c.args.end c.loop-list.leaves.items c.push.new.self.items c.leaf-leaf.result c.loop-list.steps c.leaf-leaf.new.steps
      (c.args.steps.now + sum_by (stream_rest post_rest) c.args.leaves.now.items + sum_by list_length (lists_between c.args.index.now c.args.start c.args.end)) c.loop-list-test.true c.requires
      c.in_ok-push.ensures.items c.leaf-leaf.ensures.cost c.loop-list.invariant.cost;
}

pub returns-in_err-push-clause-cost : goal.returns-in_err-push-clause-cost
returns-in_err-push-clause-cost g c =
    let refused = err_from_is_err_and c.from_residual.result c.from_residual.ensures.1 in
    rw refused.1 (leaves_refused (stream_rest post_rest) c.args.index.now c.loop-list.list c.args.end c.loop-list.leaves.items c.leaf-leaf.result c.loop-list.steps c.leaf-leaf.new.steps
    (c.args.steps.now + sum_by (stream_rest post_rest) c.args.leaves.now.items + sum_by list_length (lists_between c.args.index.now c.args.start c.args.end)) c.loop-list-test.true c.requires
    c.leaf-leaf.ensures.cost c.loop-list.invariant.cost)

pub returns-clause-left : goal.returns-clause-left
returns-clause-left g c =
    between_left (stream_left post_left) c.args.index.now c.args.start c.args.end c.loop-list.list c.loop-list.leaves.items c.args.leaves.now.items c.loop-list-test.false c.loop-list.invariant.left

pub returns-clause-cost : goal.returns-clause-cost
returns-clause-cost g c = omega (arith, c.loop-list.invariant.cost)
