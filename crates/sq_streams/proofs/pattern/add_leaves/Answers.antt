use Rattle.std.proofs.Common.{arith}
use Rattle.std.proofs.lemmas.Result.{MatchResult-weaker, on_ok_weaker}
use Rattle.sq_near.specs.Streams.{stream_left}
use Rattle.sq_streams.proofs.StreamLemmas.{post_left, leaves_found}
use Rattle.sq_streams.proofs.pattern.add_leaves.Goals as goal

pub returns-clause-left : goal.returns-clause-left
returns-clause-left g c =
    on_ok_weaker c.add_between.result
    (leaves_found (stream_left post_left) c.args.index.now c.args.property c.args.token.now c.args.prefixed c.rows-lists.result.start c.rows-lists.result.end c.add_between.new.leaves.items c.args.leaves.now.items c.rows-lists.ensures)
    c.add_between.ensures.left

pub returns-clause-cost : goal.returns-clause-cost
returns-clause-cost g c =
    MatchResult-weaker c.add_between.result c.add_between.ensures.cost
    (λ x h. λ corpus stands. omega (arith, h, c.tells.ensures.count corpus stands c.args.property c.args.token.now c.args.prefixed c.rows-lists.result.start c.rows-lists.result.end c.rows-lists.ensures))
    (λ e h. λ corpus stands. omega (arith, h, c.tells.ensures.count corpus stands c.args.property c.args.token.now c.args.prefixed c.rows-lists.result.start c.rows-lists.result.end c.rows-lists.ensures))
