use Rattle.std.proofs.Common.{◌≡◌, ◌++◌, ◌-◌, map}
use Rattle.std.specs.List.{range_with_len}
use Rattle.sq_build.specs.Numbers.{numbers_of_property, numbers_by_property}
use Rattle.sq_build.proofs.numbers.numbers_by_property.Given as goal

abbrev pub invariant-loop-property : goal.invariant-loop-property
invariant-loop-property l =
    l.all ++ map (numbers_of_property l.items) (range_with_len l.property (l.properties - l.property)) ≡ numbers_by_property l.properties l.items
