use Rattle.std.proofs.Common.{rules}
use Rattle.std.proofs.lemmas.Fn.{always_returns_same}
use Rattle.sq_ranking.specs.Keys.{directions_of, ranked_hit}
use Rattle.sq_ranking.proofs.MemberLemmas.{one_of_number}
use Rattle.sq_ranking.proofs.OrderLemmas.{hit_before, hit_before-order, one_number}
use Rattle.sq_ranking.proofs.SortedLemmas.{in_order-sorted_within}
use Rattle.sq_ranking.proofs.page.rank.Goals as goal

pub returns : goal.returns
returns c =
    let directions = directions_of c.args.order in
    in_order-sorted_within (hit_before directions) (hit_before-order directions) c.args.hits.now
    (λ x y here there left right. one_of_number (λ hit. hit.number) c.args.hits.now c.requires x y here there (one_number directions (ranked_hit x) (ranked_hit y) left right))
    _ c.sort_unstable_by.ensures.permutation
    (c.sort_unstable_by.ensures.sorted (hit_before directions) (hit_before-order directions) (always_returns_same _ _ _ (λ a r g h. search rules)))
