use Rattle.std.proofs.Common.{◌≡◌, ◌+◌, get_or, length, map, subst, ap, ◌∙◌, rules, arith}
use Rattle.std.proofs.lemmas.Result.{err_from_is_err_and}
use Rattle.std.specs.Prelude.{sum, sum_by}
use Rattle.sq_model.specs.declared.fql.SpanTree.TheFolds
use Rattle.sq_near.specs.Streams.{stream_left, stream_rest}
use Rattle.sq_streams.specs.TreePrices.{prices}
use Rattle.sq_streams.specs.TreeStreams.{IsJoinOf}
use Rattle.sq_streams.proofs.StreamLemmas.{post_left, post_rest}
use Rattle.sq_streams.proofs.TreeLoops.{parts_next, parts_err, parts_end, seen_next, seen_err, seen_end}
use Rattle.sq_streams.proofs.TreeSteps.{without, union_price, union_made, near_price, join_price, choice_at, join_made}
use Rattle.sq_streams.proofs.tree.+stream_of.Goals as goal

pub parts_at-returns-in_err-stream-clause-cost : goal.parts_at-returns-in_err-stream-clause-cost
parts_at-returns-in_err-stream-clause-cost g t c =
    let refused = err_from_is_err_and c.from_residual.result c.from_residual.ensures.1 in
    rw refused.1 (parts_err post_left post_rest c.args.index.now c.args.look c.loop-part.part-index c.args.parts.now c.args.weights.now c.loop-part.streams.items c.args.steps.now c.loop-part.steps
    c.part-item.result c.weight_at.result c.loop-part-test.true c.requires c.part-item.is (subst (λ k. c.weight_at.result ≡ get_or c.args.weights.now k c.weight_at.result) c.loop-part.invariant.at c.weight_at.ensures) c.loop-part.invariant.seen
    c.stream_of.new.steps c.in_err-stream.ensures.cost)

pub parts_at-returns-in_err-push_stream-clause-cost : goal.parts_at-returns-in_err-push_stream-clause-cost
parts_at-returns-in_err-push_stream-clause-cost g t c =
    let refused = err_from_is_err_and c.from_residual-in_err-push_stream.result c.from_residual-in_err-push_stream.ensures.1 in
    rw refused.1 (parts_err post_left post_rest c.args.index.now c.args.look c.loop-part.part-index c.args.parts.now c.args.weights.now c.loop-part.streams.items c.args.steps.now c.loop-part.steps
    c.part-item.result c.weight_at.result c.loop-part-test.true c.requires c.part-item.is (subst (λ k. c.weight_at.result ≡ get_or c.args.weights.now k c.weight_at.result) c.loop-part.invariant.at c.weight_at.ensures) c.loop-part.invariant.seen
    c.stream_of.new.steps (λ corpus valid stands. without _ _ _ (c.in_ok-stream.ensures.cost corpus valid stands)))

pub parts_at-loop-part-preserved : goal.parts_at-loop-part-preserved
parts_at-loop-part-preserved g t c = record {
  at = ap (λ n. n + 1) c.loop-part.invariant.at;
  seen = parts_next post_left post_rest c.args.index.now c.args.look c.loop-part.part-index c.args.parts.now c.args.weights.now c.loop-part.streams.items c.args.steps.now c.loop-part.steps
      c.part-item.result c.weight_at.result c.loop-part-test.true c.requires c.part-item.is (subst (λ k. c.weight_at.result ≡ get_or c.args.weights.now k c.weight_at.result) c.loop-part.invariant.at c.weight_at.ensures) c.loop-part.invariant.seen
      c.push_stream.new.streams.items c.stream_of.new.steps c.in_ok-stream.stream.value c.in_ok-stream.ensures.left c.in_ok-stream.ensures.cost c.in_ok-push_stream.ensures;
}

pub parts_at-returns-clause-left : goal.parts_at-returns-clause-left
parts_at-returns-clause-left g t c =
    (parts_end post_left post_rest c.args.index.now c.args.look c.loop-part.part-index c.args.parts.now c.args.weights.now c.loop-part.streams.items c.args.steps.now c.loop-part.steps c.loop-part-test.false c.requires c.loop-part.invariant.seen).0

pub joins_at-parts_at-requires : goal.joins_at-parts_at-requires
joins_at-parts_at-requires g t c κs within =
    let long : length c.as_slice.result.now ≡ length c.args.parts.now = (choice_at c.args.parts.now c.args.v c.args.choices.now c.loop-choice.choice-index c.choice-item.result c.as_slice.result.now c.requires c.loop-choice-test.true c.choice-item.is c.as_slice.ensures).0 in
    (search (rules, TheFolds.the_lemmas), (search rules, long))

pub joins_at-returns-in_err-streams-clause-cost : goal.joins_at-returns-in_err-streams-clause-cost
joins_at-returns-in_err-streams-clause-cost g t c =
    let refused = err_from_is_err_and c.from_residual.result c.from_residual.ensures.1 in
    rw refused.1 (seen_err post_left post_rest c.args.index.now (λ corpus. IsJoinOf corpus c.args.look c.args.parts.now c.args.n c.args.ordered) (λ corpus vs. sum (prices corpus c.args.look c.args.parts.now vs)) c.loop-choice.choice-index c.args.choices.now c.loop-choice.joins.items c.args.steps.now c.loop-choice.steps c.parts_at.new.steps
    c.choice-item.result c.loop-choice-test.true c.choice-item.is
    (join_price c.args.index.now c.args.look c.args.parts.now c.choice-item.result c.as_slice.result.now c.loop-choice.steps c.parts_at.new.steps c.parts_at.new.steps c.as_slice.ensures (omega arith) c.in_err-streams.ensures.cost)
    c.loop-choice.invariant)

pub joins_at-returns-in_err-join-clause-cost : goal.joins_at-returns-in_err-join-clause-cost
joins_at-returns-in_err-join-clause-cost g t c =
    let refused = err_from_is_err_and c.from_residual-in_err-join.result c.from_residual-in_err-join.ensures.1 in
    rw refused.1 (seen_err post_left post_rest c.args.index.now (λ corpus. IsJoinOf corpus c.args.look c.args.parts.now c.args.n c.args.ordered) (λ corpus vs. sum (prices corpus c.args.look c.args.parts.now vs)) c.loop-choice.choice-index c.args.choices.now c.loop-choice.joins.items c.args.steps.now c.loop-choice.steps c.boxed_join.new.steps
    c.choice-item.result c.loop-choice-test.true c.choice-item.is
    (join_price c.args.index.now c.args.look c.args.parts.now c.choice-item.result c.as_slice.result.now c.loop-choice.steps (c.parts_at.new.steps + sum_by (stream_rest post_rest) c.in_ok-streams.streams.items) c.boxed_join.new.steps c.as_slice.ensures c.in_err-join.ensures.cost c.in_ok-streams.ensures.cost)
    c.loop-choice.invariant)

pub joins_at-returns-in_err-push_stream-clause-cost : goal.joins_at-returns-in_err-push_stream-clause-cost
joins_at-returns-in_err-push_stream-clause-cost g t c =
    let refused = err_from_is_err_and c.from_residual-in_err-push_stream.result c.from_residual-in_err-push_stream.ensures.1 in
    rw refused.1 (seen_err post_left post_rest c.args.index.now (λ corpus. IsJoinOf corpus c.args.look c.args.parts.now c.args.n c.args.ordered) (λ corpus vs. sum (prices corpus c.args.look c.args.parts.now vs)) c.loop-choice.choice-index c.args.choices.now c.loop-choice.joins.items c.args.steps.now c.loop-choice.steps c.boxed_join.new.steps
    c.choice-item.result c.loop-choice-test.true c.choice-item.is
    (join_price c.args.index.now c.args.look c.args.parts.now c.choice-item.result c.as_slice.result.now c.loop-choice.steps (c.parts_at.new.steps + sum_by (stream_rest post_rest) c.in_ok-streams.streams.items) c.boxed_join.new.steps c.as_slice.ensures (without _ _ _ c.in_ok-join.ensures.cost) c.in_ok-streams.ensures.cost)
    c.loop-choice.invariant)

pub joins_at-loop-choice-preserved : goal.joins_at-loop-choice-preserved
joins_at-loop-choice-preserved g t c =
    let adds = (choice_at c.args.parts.now c.args.v c.args.choices.now c.loop-choice.choice-index c.choice-item.result c.as_slice.result.now c.requires c.loop-choice-test.true c.choice-item.is c.as_slice.ensures).1 in
    let lists = map (stream_left post_left) c.in_ok-streams.streams.items in
    seen_next post_left post_rest c.args.index.now (λ corpus. IsJoinOf corpus c.args.look c.args.parts.now c.args.n c.args.ordered) (λ corpus vs. sum (prices corpus c.args.look c.args.parts.now vs)) c.loop-choice.choice-index c.args.choices.now c.loop-choice.joins.items c.push_stream.new.streams.items c.args.steps.now c.loop-choice.steps c.boxed_join.new.steps
    c.choice-item.result c.in_ok-join.join.value c.loop-choice-test.true c.choice-item.is
    (λ corpus valid stands. join_made c.joins_are_streams.ensures corpus c.args.look c.args.parts.now c.args.n c.args.ordered c.args.v c.choice-item.result c.as_slice.result.now lists
    (stream_left post_left c.in_ok-join.join.value) c.as_slice.ensures adds (c.in_ok-streams.ensures.left corpus valid stands) c.tell_order.ensures c.in_ok-join.ensures.left)
    (join_price c.args.index.now c.args.look c.args.parts.now c.choice-item.result c.as_slice.result.now c.loop-choice.steps (c.parts_at.new.steps + sum_by (stream_rest post_rest) c.in_ok-streams.streams.items) (c.boxed_join.new.steps + stream_rest post_rest c.in_ok-join.join.value) c.as_slice.ensures c.in_ok-join.ensures.cost c.in_ok-streams.ensures.cost)
    c.in_ok-push_stream.ensures c.loop-choice.invariant

pub joins_at-returns-clause-left : goal.joins_at-returns-clause-left
joins_at-returns-clause-left g t c = λ corpus valid stands.
    (seen_end post_left post_rest c.args.index.now (λ corpus. IsJoinOf corpus c.args.look c.args.parts.now c.args.n c.args.ordered) (λ corpus vs. sum (prices corpus c.args.look c.args.parts.now vs)) c.loop-choice.choice-index c.args.choices.now c.loop-choice.joins.items c.args.steps.now c.loop-choice.steps c.loop-choice-test.false c.loop-choice.invariant corpus valid stands).0

pub near_at-returns-in_err-joins-clause-cost : goal.near_at-returns-in_err-joins-clause-cost
near_at-returns-in_err-joins-clause-cost g t c =
    let refused = err_from_is_err_and c.from_residual-in_err-joins.result c.from_residual-in_err-joins.ensures.1 in
    rw refused.1 (near_price c.args.index.now c.args.look c.args.parts.now c.as_slice-slice.result.now c.args.n c.args.ordered c.args.v c.as_slice-each.result.now c.args.steps.now
    c.joins_at.new.steps c.joins_at.new.steps c.as_slice-slice.ensures (c.as_slice-each.ensures ∙ c.in_ok-choices.ensures) (omega arith) c.in_err-joins.ensures.cost)

pub near_at-returns-in_err-stream-clause-cost : goal.near_at-returns-in_err-stream-clause-cost
near_at-returns-in_err-stream-clause-cost g t c =
    let refused = err_from_is_err_and c.from_residual-in_err-stream.result c.from_residual-in_err-stream.ensures.1 in
    rw refused.1 (near_price c.args.index.now c.args.look c.args.parts.now c.as_slice-slice.result.now c.args.n c.args.ordered c.args.v c.as_slice-each.result.now c.args.steps.now
    (c.joins_at.new.steps + sum_by (stream_rest post_rest) c.in_ok-joins.joins.items) c.boxed_merge.new.steps c.as_slice-slice.ensures (c.as_slice-each.ensures ∙ c.in_ok-choices.ensures)
    c.in_err-stream.ensures.cost c.in_ok-joins.ensures.cost)

pub near_at-returns-clause-cost : goal.near_at-returns-clause-cost
near_at-returns-clause-cost g t c =
    near_price c.args.index.now c.args.look c.args.parts.now c.as_slice-slice.result.now c.args.n c.args.ordered c.args.v c.as_slice-each.result.now c.args.steps.now
    (c.joins_at.new.steps + sum_by (stream_rest post_rest) c.in_ok-joins.joins.items) (c.boxed_merge.new.steps + stream_rest post_rest c.in_ok-stream.stream.value) c.as_slice-slice.ensures
    (c.as_slice-each.ensures ∙ c.in_ok-choices.ensures) c.in_ok-stream.ensures.cost c.in_ok-joins.ensures.cost

pub union_at-returns-in_err-streams-clause-cost : goal.union_at-returns-in_err-streams-clause-cost
union_at-returns-in_err-streams-clause-cost g t c =
    let refused = err_from_is_err_and c.from_residual-in_err-streams.result c.from_residual-in_err-streams.ensures.1 in
    rw refused.1 (union_price c.args.index.now c.args.look c.args.parts.now c.as_slice-slice.result.now c.as_slice-each.result.now c.args.v c.args.steps.now
    c.parts_at.new.steps c.parts_at.new.steps c.as_slice-slice.ensures (c.as_slice-each.ensures.value ∙ c.in_ok-weights.ensures) (omega arith) c.in_err-streams.ensures.cost)

pub union_at-returns-in_err-stream-clause-cost : goal.union_at-returns-in_err-stream-clause-cost
union_at-returns-in_err-stream-clause-cost g t c =
    let refused = err_from_is_err_and c.from_residual-in_err-stream.result c.from_residual-in_err-stream.ensures.1 in
    rw refused.1 (union_price c.args.index.now c.args.look c.args.parts.now c.as_slice-slice.result.now c.as_slice-each.result.now c.args.v c.args.steps.now
    (c.parts_at.new.steps + sum_by (stream_rest post_rest) c.in_ok-streams.streams.items) c.boxed_merge.new.steps c.as_slice-slice.ensures (c.as_slice-each.ensures.value ∙ c.in_ok-weights.ensures) c.in_err-stream.ensures.cost c.in_ok-streams.ensures.cost)

pub union_at-returns-clause-left : goal.union_at-returns-clause-left
union_at-returns-clause-left g t c =
    union_made c.args.index.now c.args.look c.unions_are_streams.ensures c.args.parts.now c.as_slice-slice.result.now c.as_slice-each.result.now c.args.v
    (map (stream_left post_left) c.in_ok-streams.streams.items) (stream_left post_left c.in_ok-stream.stream.value) c.as_slice-slice.ensures (c.as_slice-each.ensures.value ∙ c.in_ok-weights.ensures)
    c.in_ok-streams.ensures.left c.tell_order.ensures c.in_ok-stream.ensures.left

pub union_at-returns-clause-cost : goal.union_at-returns-clause-cost
union_at-returns-clause-cost g t c =
    union_price c.args.index.now c.args.look c.args.parts.now c.as_slice-slice.result.now c.as_slice-each.result.now c.args.v c.args.steps.now
    (c.parts_at.new.steps + sum_by (stream_rest post_rest) c.in_ok-streams.streams.items) (c.boxed_merge.new.steps + stream_rest post_rest c.in_ok-stream.stream.value) c.as_slice-slice.ensures (c.as_slice-each.ensures.value ∙ c.in_ok-weights.ensures)
    c.in_ok-stream.ensures.cost c.in_ok-streams.ensures.cost
