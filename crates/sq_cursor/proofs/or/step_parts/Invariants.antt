use Rattle.std.proofs.Common.{◌≡◌, ◌+◌, ◌≤◌, map, sum_by, length}
use Rattle.sq_cursor.specs.Parts.{IsHeap}
use Rattle.sq_cursor.specs.Rows.{rows_from, union_of}
use Rattle.sq_cursor.proofs.or.step_parts.Given as goal

abbrev pub invariant-loop-here : goal.invariant-loop-here
invariant-loop-here g l =
    let c = g.C.ItemCursor in
    record {
      heap : IsHeap c.left l.parts.items;
      rows : rows_from (l.row + 1) (union_of (map c.left l.parts.items)) ≡ rows_from (l.row + 1) (union_of (map c.left l.fn.parts.items));
      cost : l.steps + sum_by c.rest l.parts.items ≤ l.fn.steps + sum_by c.rest l.fn.parts.items;
    }

abbrev pub decreases-loop-here : goal.decreases-loop-here
decreases-loop-here g l = sum_by (λ c. length (g.C.ItemCursor.left c)) l.parts.items
