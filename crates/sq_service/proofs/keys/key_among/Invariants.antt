use Rattle.std.proofs.Common.{◌≡◌, ℕ, ◌+◌, ◌<◌, ◌≤◌, ◌++◌, length, option_to_list}
use Rattle.sq_cursor.specs.Entries.{entries_behind}
use Rattle.sq_collect.specs.Counted.{numbers_at}
use Rattle.sq_engine.specs.Answer.{key_among}
use Rattle.sq_service.specs.Keys.{AreFrom}
use Rattle.sq_service.proofs.keys.key_among.Given as goal

abbrev pub invariant-loop-at : goal.invariant-loop-at
invariant-loop-at g l = record {
  value : key_among l.direction (option_to_list l.best ++ numbers_at l.row l.values) ≡ key_among l.direction (numbers_at l.row l.fn.values);
  from : AreFrom l.row l.values;
  later : (r : ℕ) → l.row < r → numbers_at r l.values ≡ numbers_at r l.fn.values;
  cost : l.steps + entries_behind l.values ≤ l.fn.steps + entries_behind l.fn.values;
}

abbrev pub decreases-loop-at : goal.decreases-loop-at
decreases-loop-at g l = length l.values
