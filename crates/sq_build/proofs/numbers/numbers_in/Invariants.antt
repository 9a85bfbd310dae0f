use Rattle.std.proofs.Common.{◌≡◌, ◌++◌, drop, map}
use Rattle.std.specs.Prelude.{◌==◌}
use Rattle.std.specs.List.{filter, filter_map}
use Rattle.sq_model.specs.Passages.{number_of, numbers}
use Rattle.sq_build.proofs.numbers.numbers_in.Given as goal

abbrev pub invariant-loop-value : goal.invariant-loop-value
invariant-loop-value l =
    l.all.items ++ filter_map number_of (map (λ v. v.content) (filter (λ v. v.property == l.property) (drop l.value-index l.values))) ≡ numbers l.values l.property
