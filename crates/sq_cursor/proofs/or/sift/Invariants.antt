use Rattle.std.proofs.Common.{◌+◌, ◌-◌, ◌≤◌, length, IsPermutation}
use Rattle.sq_cursor.specs.Parts.{IsHeapFrom}
use Rattle.sq_cursor.proofs.HeapLemmas.{Hole}
use Rattle.sq_cursor.proofs.or.sift.Given as goal

abbrev pub invariant-loop-at : goal.invariant-loop-at
invariant-loop-at g l =
    let left = g.C.ItemCursor.left in
    record {
      low : l.root ≤ l.at;
      same : IsPermutation l.fn.parts.items l.parts.items;
      hole : IsHeapFrom left (l.root + 1) l.fn.parts.items → Hole left l.parts.items l.root l.at;
    }

abbrev pub decreases-loop-at : goal.decreases-loop-at
decreases-loop-at g l = length l.parts.items - l.at
