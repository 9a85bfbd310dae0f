use Rattle.std.proofs.Common.{◌≡◌, ◌<◌, length, get_or, true, subst, ◌∙◌, arith}
use Rattle.std.proofs.lemmas.List.Sorted.{IsPermutation-trans, IsPermutation-swap}
use Rattle.sq_cursor.specs.Parts.{stands_after, IsBeforeChildren}
use Rattle.sq_cursor.proofs.HeapLemmas.{sinks}
use Rattle.sq_cursor.proofs.or.sift.Goals as goal

pub loop-at-preserved : goal.loop-at-preserved
loop-at-preserved g c =
    let left = g.C.ItemCursor.left in
    let xs = c.loop-at.parts.items in
    let ys = c.swap.new.self.items in
    let at = c.loop-at.at in
    let child = c.first_child-child.result in
    let bounds = c.first_child-child.ensures.bounds in
    let within : child < length xs = subst (λ l. child < length l) c.as_slice.ensures.value bounds.2 in
    let best : IsBeforeChildren left xs at child = subst (λ l. IsBeforeChildren left l at child) c.as_slice.ensures.value c.first_child-child.ensures.first in
    let tested : c.is_after_at.result ≡ true = grind arith in
    let after : (d : _) → stands_after left (get_or xs at d) (get_or xs child d) ≡ true =
    λ d. subst (λ l. stands_after left (get_or l at d) (get_or l child d) ≡ true) c.as_slice-in-loop-at.ensures.value (c.is_after_at.ensures d ∙ tested) in
    let long : length ys ≡ length xs = omega (arith, c.swap.ensures.len, c.loop-at.parts.ok.0, c.swap.new.self.ok.0) in
    record {
      low = omega (arith, c.loop-at.invariant.low, bounds.0);
      same = IsPermutation-trans _ _ _ c.loop-at.invariant.same (IsPermutation-swap xs ys at child (omega (arith, within, bounds.0)) within c.swap.ensures.items);
      hole = λ h. sinks left xs ys c.args.root at child c.loop-at.invariant.low bounds.0 bounds.1 within long c.swap.ensures.by_index after best (c.loop-at.invariant.hole h);
    }
