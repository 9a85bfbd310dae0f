use Rattle.std.proofs.Common.{◌≡◌, ◌≤◌, ◌++◌, ◌-◌, map}
use Rattle.std.specs.List.{range_with_len}
use Rattle.sq_build.specs.Dictionary.{AreTerms, lengths_of_property, lengths_by_property}
use Rattle.sq_build.proofs.dictionary.dictionary_of.Given as goal

abbrev pub invariant-loop-property : goal.invariant-loop-property
invariant-loop-property l =
    AreTerms l.items l.property l.terms.items l.lists
    × (l.lengths ++ map (lengths_of_property l.items) (range_with_len l.property (l.properties - l.property)) ≡ lengths_by_property l.properties l.items)
    × (l.property ≤ l.properties)
