use Rattle.std.proofs.Common.{rules}
use Rattle.std.proofs.lemmas.Fn.{always_returns_same}
use Rattle.sq_ranking.specs.Keys.{directions_of}
use Rattle.sq_ranking.proofs.OrderLemmas.{hit_before, hit_before-order}
use Rattle.sq_collect.proofs.kept.rank.Goals as goal

pub returns-clause-rises : goal.returns-clause-rises
returns-clause-rises c =
    let directions = directions_of c.args.order in
    c.sort_unstable_by.ensures.sorted (hit_before directions) (hit_before-order directions) (always_returns_same _ _ _ (λ a r g h. search rules))
