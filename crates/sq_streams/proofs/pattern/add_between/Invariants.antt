use Rattle.std.proofs.Common.{◌≡◌, ◌+◌, ◌≤◌, ◌++◌, map, sum_by}
use Rattle.sq_near.specs.Streams.{stream_left, stream_rest}
use Rattle.sq_postings.specs.Indexed.{spans_of_list}
use Rattle.sq_postings.specs.Laws.{lists_between, list_length}
use Rattle.sq_streams.proofs.StreamLemmas.{post_left, post_rest}
use Rattle.sq_streams.proofs.pattern.add_between.Given as goal

abbrev pub invariant-loop-list : goal.invariant-loop-list
invariant-loop-list g l = record {
  left : map (stream_left post_left) l.leaves.items ++ map spans_of_list (lists_between l.index l.list l.end) ≡ map (stream_left post_left) l.fn.leaves.items ++ map spans_of_list (lists_between l.index l.start l.end);
  cost : l.steps + sum_by (stream_rest post_rest) l.leaves.items + sum_by list_length (lists_between l.index l.list l.end) ≤ l.fn.steps + sum_by (stream_rest post_rest) l.fn.leaves.items + sum_by list_length (lists_between l.index l.start l.end);
}
