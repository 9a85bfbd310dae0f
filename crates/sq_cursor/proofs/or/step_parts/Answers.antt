use Rattle.std.proofs.Common.{◌≡◌, ◌+◌, Some, map, length, sym, ap, ◌∙◌, arith}
use Rattle.sq_cursor.specs.Rows.{first_row, rows_from, union_of, IsRising-union_of}
use Rattle.sq_cursor.proofs.RowLemmas.{rows_from-here, rows_from-skip, has_row_from_first, length-without_first}
use Rattle.sq_cursor.proofs.UnionLemmas.{rows_kept, sum_moved}
use Rattle.sq_cursor.proofs.TopLemmas.{top_is_first, some_part, below_first}
use Rattle.sq_cursor.proofs.or.step_parts.Goals as goal

pub returns-then-row-here-clause-left : goal.returns-then-row-here-clause-left
returns-then-row-here-clause-left g c =
    let lists = map g.C.ItemCursor.left c.loop-here.parts.items in
    let first : first_row (union_of lists) ≡ Some c.in-Some.here = cc in
    sym (rows_from-here (c.args.row + 1) c.in-Some.here (union_of lists) first (omega (arith, c.if-row-here.true)) (IsRising-union_of lists)) ∙ c.loop-here.invariant.rows

pub step-requires : goal.step-requires
step-requires g c =
    let left = g.C.ItemCursor.left in
    let items = c.loop-here.parts.items in
    let part = c.index_mut.result.now in
    let first : first_row (union_of (map left items)) ≡ Some c.in-Some.here = cc in
    let some = some_part left items c.in-Some.here first in
    let top : first_row (left part) ≡ Some c.in-Some.here = sym (top_is_first left g.met.C.ItemCursor.rising items part some c.index_mut.ensures.value c.loop-here.invariant.heap) ∙ first in
    has_row_from_first (left part) c.in-Some.here top

pub loop-here-smaller : goal.loop-here-smaller
loop-here-smaller g c =
    let left = g.C.ItemCursor.left in
    let items = c.loop-here.parts.items in
    let part = c.index_mut.result.now in
    let first : first_row (union_of (map left items)) ≡ Some c.in-Some.here = cc in
    let some = some_part left items c.in-Some.here first in
    let top : first_row (left part) ≡ Some c.in-Some.here = sym (top_is_first left g.met.C.ItemCursor.rising items part some c.index_mut.ensures.value c.loop-here.invariant.heap) ∙ first in
    omega (arith, length-without_first (left part) c.in-Some.here top, ap length c.step.ensures.left, sum_moved items c.sift.new.parts.items part c.step.new.self some c.index_mut.ensures.value c.sift.ensures.same (λ x. length (left x)))

pub loop-here-preserved : goal.loop-here-preserved
loop-here-preserved g c =
    let left = g.C.ItemCursor.left in
    let rest = g.C.ItemCursor.rest in
    let low = c.args.row + 1 in
    let items = c.loop-here.parts.items in
    let part = c.index_mut.result.now in
    let first : first_row (union_of (map left items)) ≡ Some c.in-Some.here = cc in
    let some = some_part left items c.in-Some.here first in
    let top : first_row (left part) ≡ Some c.in-Some.here = sym (top_is_first left g.met.C.ItemCursor.rising items part some c.index_mut.ensures.value c.loop-here.invariant.heap) ∙ first in
    let kept : rows_from low (left c.step.new.self) ≡ rows_from low (left part) = ap (rows_from low) c.step.ensures.left ∙ rows_from-skip low c.in-Some.here (left part) top (omega (arith, c.if-row-here.false)) in
    record {
      heap = c.sift.ensures.heap (below_first left items c.step.new.self c.loop-here.invariant.heap);
      rows = rows_kept items c.sift.new.parts.items part c.step.new.self some c.index_mut.ensures.value c.sift.ensures.same left low kept ∙ c.loop-here.invariant.rows;
      cost = omega (arith, c.step.ensures.cost, c.loop-here.invariant.cost, sum_moved items c.sift.new.parts.items part c.step.new.self some c.index_mut.ensures.value c.sift.ensures.same rest);
    }
