use Rattle.std.proofs.Common.{rules, ◌≡◌, ◌+◌, arith}
use Rattle.std.proofs.lemmas.Fn.{always_returns_same}
use Rattle.std.specs.List.{count_by}
use Rattle.std.specs.Ordering.{int_eq}
use Rattle.std.specs.Prelude.{int_lt, int_le}
use Rattle.sq_ranking.proofs.CountLemmas.{between, lower_is_parted, upper_is_parted}
use Rattle.sq_ranking.proofs.entries.count_of.Goals as goal

spans : (c : goal.After-partition_point-to) → c.partition_point-from.result + count_by (int_eq c.args.value) c.args.numbers.now ≡ c.partition_point-to.result
spans c =
    let value = c.args.value in
    let numbers = c.args.numbers.now in
    between value numbers c.partition_point-from.result c.partition_point-to.result c.partition_point-from.ensures.bound c.partition_point-to.ensures.bound
    (c.partition_point-from.ensures.partitioned (λ y. int_lt y value) (always_returns_same _ _ _ (λ a r g h. search rules)) (lower_is_parted value numbers c.requires))
    (c.partition_point-to.ensures.partitioned (λ y. int_le y value) (always_returns_same _ _ _ (λ a r g h. search rules)) (upper_is_parted value numbers c.requires))

pub overflow_sub-result : goal.overflow_sub-result
overflow_sub-result c = let whole = spans c in omega (arith, whole)

pub returns : goal.returns
returns c = let whole = spans c in omega (arith, whole)
