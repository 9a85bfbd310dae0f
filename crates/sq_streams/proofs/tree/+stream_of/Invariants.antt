use Rattle.std.proofs.Common.{◌≡◌}
use Rattle.std.specs.Prelude.{sum}
use Rattle.sq_streams.specs.TreePrices.{prices}
use Rattle.sq_streams.specs.TreeStreams.{IsJoinOf}
use Rattle.sq_streams.proofs.StreamLemmas.{post_left, post_rest}
use Rattle.sq_streams.proofs.TreeLoops.{PartsSeen, Seen}
use Rattle.sq_streams.proofs.tree.+stream_of.Given as goal

abbrev pub invariant-parts_at-loop-part : goal.invariant-parts_at-loop-part
invariant-parts_at-loop-part g l = record {
  at : l.at ≡ l.part-index;
  seen : PartsSeen post_left post_rest l.index l.look l.part-index l.parts l.weights l.streams.items l.fn.steps l.steps;
}

abbrev pub invariant-joins_at-loop-choice : goal.invariant-joins_at-loop-choice
invariant-joins_at-loop-choice g l =
    Seen post_left post_rest l.index (λ corpus. IsJoinOf corpus l.look l.parts l.n l.ordered) (λ corpus vs. sum (prices corpus l.look l.parts vs)) l.choice-index l.choices l.joins.items l.fn.steps l.steps
