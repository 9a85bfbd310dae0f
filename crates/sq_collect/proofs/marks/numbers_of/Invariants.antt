use Rattle.std.proofs.Common.{◌≡◌, ◌+◌, ◌≤◌, ◌++◌, map, length}
use Rattle.sq_cursor.specs.Entries.{entries_behind}
use Rattle.sq_postings.specs.Indexed.{values_in}
use Rattle.sq_collect.specs.Counted.{number_of}
use Rattle.sq_collect.proofs.marks.numbers_of.Given as goal

abbrev pub invariant-loop-here : goal.invariant-loop-here
invariant-loop-here g l =
    (l.numbers.items ++ map number_of l.cursor ≡ map number_of (values_in l.index l.property))
    × (l.steps + entries_behind l.cursor ≤ l.fn.steps + length (values_in l.index l.property))

abbrev pub decreases-loop-here : goal.decreases-loop-here
decreases-loop-here g l = length l.cursor
