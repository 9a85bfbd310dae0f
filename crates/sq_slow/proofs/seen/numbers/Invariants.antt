use Rattle.std.proofs.Common.{◌≡◌, ◌++◌, drop, map}
use Rattle.std.specs.Prelude.{◌==◌}
use Rattle.std.specs.List.{filter, filter_map}
use Rattle.sq_model.specs.Passages.{number_of, numbers}
use Rattle.sq_slow.proofs.seen.numbers.Given as goal

abbrev pub invariant-loop-value : goal.invariant-loop-value
invariant-loop-value l =
    l.all ++ filter_map number_of (map (λ v. v.content) (filter (λ v. v.property == l.property) (drop l.value-index l.value-items))) ≡ numbers l.item.values l.property
