use Rattle.std.proofs.Common.{◌≡◌, ℕ, ◌+◌, ◌<◌, ◌≤◌, true, length}
use Rattle.std.specs.Prelude.{slice_get}
use Rattle.sq_cursor.specs.Entries.{entries_behind}
use Rattle.sq_postings.specs.Rising.{rises, pair_up_to}
use Rattle.sq_postings.specs.Left.{pairs_from}
use Rattle.sq_collect.specs.Counted.{are_from, numbers_at}
use Rattle.sq_collect.proofs.CountLemmas.{counted_from}
use Rattle.sq_collect.proofs.counts.count_row.Given as goal

abbrev pub invariant-loop-left : goal.invariant-loop-left
invariant-loop-left g l =
    (l.left ≡ slice_get l.cursor 0)
    × (rises pair_up_to l.cursor ≡ true)
    × (are_from l.row l.cursor ≡ true)
    × (counted_from l.marks (numbers_at l.row l.cursor) l.next l.counts ≡ counted_from l.marks (numbers_at l.row l.fn.cursor) 0 l.fn.counts)
    × ((later : ℕ) → l.row < later → pairs_from later l.cursor ≡ pairs_from later l.fn.cursor)
    × (l.steps + entries_behind l.cursor ≤ l.fn.steps + entries_behind l.fn.cursor)

abbrev pub decreases-loop-left : goal.decreases-loop-left
decreases-loop-left g l = length l.cursor
