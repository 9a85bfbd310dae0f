use Rattle.std.proofs.Common.{arith, ap, ◌∙◌}
use Rattle.std.proofs.lemmas.Result.{IfOk-weaker, MatchResult-weaker}
use Rattle.sq_streams.specs.PatternSpans.{in_a_row}
use Rattle.sq_streams.proofs.pattern.phrase_stream.Goals as goal

pub returns-clause-left : goal.returns-clause-left
returns-clause-left g c = IfOk-weaker c.row_of.result _ _ (λ stream e. e ∙ ap in_a_row c.in_ok-parts.ensures.left) c.row_of.ensures.left

pub returns-clause-cost : goal.returns-clause-cost
returns-clause-cost g c =
    MatchResult-weaker c.row_of.result c.row_of.ensures.cost (λ stream h. λ corpus stands. omega (arith, h, c.in_ok-parts.ensures.cost corpus stands))
    (λ e h. λ corpus stands. omega (arith, h, c.in_ok-parts.ensures.cost corpus stands))
