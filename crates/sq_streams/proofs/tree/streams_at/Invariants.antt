use Rattle.std.proofs.Common.{◌≡◌}
use Rattle.sq_streams.specs.TreePrices.{price}
use Rattle.sq_streams.specs.TreeStreams.{IsStreamOf}
use Rattle.sq_streams.proofs.StreamLemmas.{post_left, post_rest}
use Rattle.sq_streams.proofs.TreeLoops.{Seen}
use Rattle.sq_streams.proofs.tree.streams_at.Given as goal

abbrev pub invariant-loop-weight : goal.invariant-loop-weight
invariant-loop-weight g l = record {
  at : l.at ≡ l._weight-index;
  seen : Seen post_left post_rest l.index (λ corpus. IsStreamOf corpus l.look l.tree) (λ corpus. price corpus l.look l.tree) l._weight-index l.weights l.streams.items l.fn.steps l.steps;
}
