use Rattle.std.proofs.Common.{ℤ, List, ◌∙◌, subst}
use Rattle.std.proofs.lemmas.List.Filters.{dedup_is}
use Rattle.std.specs.List.Sorted.{IsPermutation}
use Rattle.std.specs.Ordering.{int_eq}
use Rattle.sq_ranking.proofs.ValuesLemmas.{sorted_once}
use Rattle.sq_ranking.proofs.entries.values_of.Goals as goal

pub returns : goal.returns
returns c =
    let sorted = c.sort_unstable.new.self.items in
    dedup_is int_eq sorted c.dedup.new.self.items c.dedup.ensures.filtered
    ∙ sorted_once c.args.numbers.now sorted (subst (λ (xs : List ℤ). IsPermutation xs sorted) c.in_ok-once.ensures.items c.sort_unstable.ensures.permutation) c.sort_unstable.ensures.sorted
