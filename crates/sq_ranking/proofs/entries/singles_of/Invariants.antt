use Rattle.std.proofs.Common.{◌≡◌, map, take}
use Rattle.std.specs.List.{count_by}
use Rattle.std.specs.Ordering.{int_eq}
use Rattle.sq_response.specs.declared.response.Entry.TheVariants.{Single}
use Rattle.sq_ranking.proofs.entries.singles_of.Given as goal

abbrev pub invariant-loop-value : goal.invariant-loop-value
invariant-loop-value l = l.found ≡ map (λ value. Single value (count_by (int_eq value) l.numbers.items)) (take l.value-index l.value-items)
