use Rattle.std.proofs.Common.{◌≡◌, ◌+◌, ◌-◌, subst, arith}
use Rattle.std.proofs.lemmas.List.Sorted.{IsPermutation-trans}
use Rattle.sq_cursor.specs.Parts.{IsHeapFrom}
use Rattle.sq_cursor.proofs.or.order.Goals as goal

pub loop-root-preserved : goal.loop-root-preserved
loop-root-preserved g c =
    let root = c.loop-root.root in
    let above : root ≡ root - 1 + 1 = omega (arith, c.loop-root-test.true) in
    record {
      same = IsPermutation-trans _ _ _ c.loop-root.invariant.same c.sift.ensures.same;
      heap = c.sift.ensures.heap (subst (λ n. IsHeapFrom g.C.ItemCursor.left n c.loop-root.parts.items) above c.loop-root.invariant.heap);
    }
