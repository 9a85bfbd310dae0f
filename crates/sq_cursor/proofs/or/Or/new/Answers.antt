use Rattle.std.proofs.Common.{sym, arith}
use Rattle.std.proofs.lemmas.List.Sorted.{sum_by-IsPermutation}
use Rattle.sq_cursor.proofs.UnionLemmas.{union_of-permutation}
use Rattle.sq_cursor.proofs.or.Or.new.Goals as goal

pub returns-clause-left : goal.returns-clause-left
returns-clause-left g c = sym (union_of-permutation g.C.ItemCursor.left c.args.parts.items c.order.new.parts.items c.order.ensures.same)

pub returns-clause-cost : goal.returns-clause-cost
returns-clause-cost g c =
    let rest = sum_by-IsPermutation g.C.ItemCursor.rest c.args.parts.items c.order.new.parts.items c.order.ensures.same in
    omega (arith, rest)
