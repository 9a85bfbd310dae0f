use Rattle.std.proofs.Common.{rules, ◌≡◌, ℤ, List, length, map, ◌∙◌, subst}
use Rattle.std.proofs.lemmas.List.Filters.{dedup_is}
use Rattle.std.specs.List.Sorted.{IsPermutation}
use Rattle.std.specs.Ordering.{int_eq}
use Rattle.sq_postings.specs.Indexed.{values_in}
use Rattle.sq_ranking.proofs.ValuesLemmas.{sorted_once}
use Rattle.sq_collect.specs.Counted.{number_of}
use Rattle.sq_collect.proofs.RefinerLemmas.{marks_bare}
use Rattle.sq_collect.proofs.marks.marks_of.Goals as goal

pub returns-clause-marks : goal.returns-clause-marks
returns-clause-marks g c =
    let sorted = c.sort_unstable.new.self.items in
    let numbers = map number_of (values_in c.args.index.now c.args.property) in
    let none : length c.args.bounds.now ≡ 0 = search rules in
    dedup_is int_eq sorted c.dedup.new.self.items c.dedup.ensures.filtered
    ∙ sorted_once numbers sorted (subst (λ (xs : List ℤ). IsPermutation xs sorted) c.in_ok-numbers.ensures.numbers c.sort_unstable.ensures.permutation) c.sort_unstable.ensures.sorted
    ∙ marks_bare c.args.bounds.now numbers none
