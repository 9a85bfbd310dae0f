use Rattle.std.proofs.Common.{◌<◌, ◌≤◌, false, length, sym, subst, ◌∙◌, arith}
use Rattle.std.specs.Prelude.{IfSome}
use Rattle.sq_near.specs.Rows.{has_row}
use Rattle.sq_nodes.specs.Leaves.{IsBefore, spans_left, spans_rest}
use Rattle.sq_nodes.proofs.PartLemmas as parts
use Rattle.sq_nodes.proofs.StreamLemmas.{row_same, no_row, spans_some, spans_same}
use Rattle.sq_nodes.proofs.kinds.spans_skip.Goals as goal

pub loop-i-preserved : goal.loop-i-preserved
loop-i-preserved g c =
    let items = c.loop-i.streams.items in
    let firsts = c.args.streams.now.items in
    let part = c.index_mut.result.now in
    let next = c.seek_row.new.stream in
    let within : c.loop-i.i < length items = omega (arith, c.loop-i.invariant.same, c.len-i-end.ensures, c.loop-i-test.true) in
    record {
      same = parts.same_length items c.loop-i.i next (length firsts) c.loop-i.invariant.same;
      none = λ r l b.
          let both = subst (IsBefore r) c.earlier-next.ensures b in
          parts.none_more (λ stream. has_row r (spans_left stream)) items c.loop-i.i next within
          (row_same r (spans_left next) (spans_left part) (c.seek_row.ensures.later r l)
          ∙ no_row r (spans_left part) (c.seek_row.ensures.none r l (parts.before_second r c.loop-i.next c.seek_row.result both)))
          (c.loop-i.invariant.none r l (parts.before_first r c.loop-i.next c.seek_row.result both));
      forward = subst (λ at. IfSome at (λ to. c.args.row ≤ to)) (sym c.earlier-next.ensures)
          (parts.forward_both c.args.row c.loop-i.next c.seek_row.result c.loop-i.invariant.forward c.seek_row.ensures.forward);
      later = λ r l. parts.kept_part (λ stream. has_row r (spans_left stream)) items firsts c.loop-i.i part next c.index_mut.ensures.value
          (row_same r (spans_left next) (spans_left part) (c.seek_row.ensures.later r l)) (c.loop-i.invariant.later r l);
      cost = parts.cost_part spans_rest items c.loop-i.i part next c.loop-i.steps c.seek_row.new.steps _ within c.index_mut.ensures.value c.seek_row.ensures.cost c.loop-i.invariant.cost;
    }

pub returns-clause-none : goal.returns-clause-none
returns-clause-none g c = λ r l b.
    let items = c.loop-i.streams.items in
    let firsts = c.args.streams.now.items in
    let all : length items ≤ c.loop-i.i = omega (arith, c.loop-i.invariant.same, c.len-i-end.ensures, c.loop-i-test.false) in
    spans_some firsts r false
    (sym (parts.any_same (λ stream. has_row r (spans_left stream)) items firsts (c.loop-i.invariant.later r l))
    ∙ parts.none_all (λ stream. has_row r (spans_left stream)) items c.loop-i.i all (c.loop-i.invariant.none r l b))

pub returns-clause-later : goal.returns-clause-later
returns-clause-later g c = λ r l. spans_same c.loop-i.streams.items c.args.streams.now.items r (c.loop-i.invariant.later r l)
