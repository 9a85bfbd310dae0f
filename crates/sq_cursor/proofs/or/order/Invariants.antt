use Rattle.std.proofs.Common.{IsPermutation}
use Rattle.sq_cursor.specs.Parts.{IsHeapFrom}
use Rattle.sq_cursor.proofs.or.order.Given as goal

abbrev pub invariant-loop-root : goal.invariant-loop-root
invariant-loop-root g l = record {
  same : IsPermutation l.fn.parts.items l.parts.items;
  heap : IsHeapFrom g.C.ItemCursor.left l.root l.parts.items;
}

abbrev pub decreases-loop-root : goal.decreases-loop-root
decreases-loop-root g l = l.root
