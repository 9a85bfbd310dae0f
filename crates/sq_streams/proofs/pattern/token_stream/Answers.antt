use Rattle.std.proofs.Common.{arith, ap, ◌∙◌}
use Rattle.std.proofs.lemmas.Result.{IfOk-weaker, MatchResult-weaker}
use Rattle.sq_near.specs.Covers.{merged_spans}
use Rattle.sq_streams.proofs.pattern.token_stream.Goals as goal

pub returns-clause-left : goal.returns-clause-left
returns-clause-left g c = IfOk-weaker c.merge_of.result _ _ (λ stream e. e ∙ ap merged_spans c.in_ok-leaves.ensures.left) c.merge_of.ensures.left

pub returns-clause-cost : goal.returns-clause-cost
returns-clause-cost g c =
    MatchResult-weaker c.merge_of.result c.merge_of.ensures.cost (λ stream h. λ corpus stands. omega (arith, h, c.in_ok-leaves.ensures.cost corpus stands))
    (λ e h. λ corpus stands. omega (arith, h, c.in_ok-leaves.ensures.cost corpus stands))
