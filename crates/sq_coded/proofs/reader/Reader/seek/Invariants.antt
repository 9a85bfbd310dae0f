use Rattle.std.proofs.Common.{◌≡◌, ◌+◌, ◌<◌, ◌≤◌, length}
use Rattle.sq_coded.specs.Reading.{entries_from, first_count, count_behind}
use Rattle.sq_coded.proofs.reader.Reader.seek.Given as goal

abbrev pub invariant-loop-here : goal.invariant-loop-here
invariant-loop-here g l =
    record {
      left : entries_from l.row l.ordinal l.self ≡ entries_from l.row l.ordinal l.fn.self;
      shorter : length l.self ≤ length l.fn.self;
      grown : l.fn.steps ≤ l.steps;
      counted : length l.self < length l.fn.self → l.fn.steps + first_count l.self ≤ l.steps;
      cost : l.steps + count_behind l.self ≤ l.fn.steps + count_behind l.fn.self;
    }

abbrev pub decreases-loop-here : goal.decreases-loop-here
decreases-loop-here g l = length l.self
