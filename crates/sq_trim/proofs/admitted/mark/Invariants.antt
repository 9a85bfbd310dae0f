use Rattle.std.proofs.Common.{◌≡◌, ◌+◌, ◌≤◌, length, drop}
use Rattle.sq_cursor.specs.Entries.{entries_behind}
use Rattle.sq_trim.specs.Flags.{marked}
use Rattle.sq_trim.proofs.admitted.mark.Given as goal

abbrev pub invariant-loop-row : goal.invariant-loop-row
invariant-loop-row g l = record {
  flags : marked l.is_admitted (drop l.rows.at l.rows.rows.now) l.flags ≡ marked l.is_admitted (drop l.fn.rows.at l.fn.rows.rows.now) l.fn.flags;
  cost : l.steps + entries_behind (drop l.rows.at l.rows.rows.now) ≤ l.fn.steps + entries_behind (drop l.fn.rows.at l.fn.rows.rows.now);
}

abbrev pub decreases-loop-row : goal.decreases-loop-row
decreases-loop-row g l = length (drop l.rows.at l.rows.rows.now)
