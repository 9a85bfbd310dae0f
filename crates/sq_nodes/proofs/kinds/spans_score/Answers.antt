use Rattle.std.proofs.Common.{◌≡◌, ◌<◌, ◌≤◌, true, false, length, sym, ◌∙◌, arith}
use Rattle.sq_near.specs.Rows.{has_row}
use Rattle.sq_nodes.specs.Leaves.{spans_left, spans_rest}
use Rattle.sq_nodes.proofs.PartLemmas as parts
use Rattle.sq_nodes.proofs.StreamLemmas.{row_same, spans_some, spans_same}
use Rattle.std.proofs.Math.ListN.{set}
use Rattle.sq_nodes.proofs.kinds.spans_score.Goals as goal

pub returns-then-stands_in-clause-value : goal.returns-then-stands_in-clause-value
returns-then-stands_in-clause-value g c =
    let items = c.loop-i.streams.items in
    let firsts = c.args.streams.now.items in
    let part = c.index_mut.result.now in
    let within : c.loop-i.i < length items = omega (arith, c.loop-i.invariant.same, c.len-i-end.ensures, c.loop-i-test.true) in
    let has : has_row c.args.row (spans_left part) ≡ true = cc in
    sym (spans_some firsts c.args.row true
    (sym (parts.any_same (λ stream. has_row c.args.row (spans_left stream)) items firsts c.loop-i.invariant.now)
    ∙ parts.some_at (λ stream. has_row c.args.row (spans_left stream)) items c.loop-i.i part within c.index_mut.ensures.value has))

pub returns-then-stands_in-clause-later : goal.returns-then-stands_in-clause-later
returns-then-stands_in-clause-later g c = λ r l.
    let items = c.loop-i.streams.items in
    let firsts = c.args.streams.now.items in
    let part = c.index_mut.result.now in
    let next = c.stands_in.new.stream in
    spans_same (set items c.loop-i.i next) firsts r
    (parts.kept_part (λ stream. has_row r (spans_left stream)) items firsts c.loop-i.i part next c.index_mut.ensures.value
    (row_same r (spans_left next) (spans_left part) (c.stands_in.ensures.later r (omega arith))) (c.loop-i.invariant.later r l))

pub loop-i-preserved : goal.loop-i-preserved
loop-i-preserved g c =
    let items = c.loop-i.streams.items in
    let firsts = c.args.streams.now.items in
    let part = c.index_mut.result.now in
    let next = c.stands_in.new.stream in
    let within : c.loop-i.i < length items = omega (arith, c.loop-i.invariant.same, c.len-i-end.ensures, c.loop-i-test.true) in
    let here : has_row c.args.row (spans_left part) ≡ false = cc in
    let kept : has_row c.args.row (spans_left next) ≡ has_row c.args.row (spans_left part) =
    row_same c.args.row (spans_left next) (spans_left part) (c.stands_in.ensures.later c.args.row (omega arith)) in
    record {
      same = parts.same_length items c.loop-i.i next (length firsts) c.loop-i.invariant.same;
      none = parts.none_more (λ stream. has_row c.args.row (spans_left stream)) items c.loop-i.i next within (kept ∙ here) c.loop-i.invariant.none;
      now = parts.kept_part (λ stream. has_row c.args.row (spans_left stream)) items firsts c.loop-i.i part next c.index_mut.ensures.value kept c.loop-i.invariant.now;
      later = λ r l. parts.kept_part (λ stream. has_row r (spans_left stream)) items firsts c.loop-i.i part next c.index_mut.ensures.value
          (row_same r (spans_left next) (spans_left part) (c.stands_in.ensures.later r (omega arith))) (c.loop-i.invariant.later r l);
      cost = parts.cost_part spans_rest items c.loop-i.i part next c.loop-i.steps c.stands_in.new.steps _ within c.index_mut.ensures.value c.stands_in.ensures.cost c.loop-i.invariant.cost;
    }

pub returns-clause-value : goal.returns-clause-value
returns-clause-value g c =
    let items = c.loop-i.streams.items in
    let firsts = c.args.streams.now.items in
    let all : length items ≤ c.loop-i.i = omega (arith, c.loop-i.invariant.same, c.len-i-end.ensures, c.loop-i-test.false) in
    sym (spans_some firsts c.args.row false
    (sym (parts.any_same (λ stream. has_row c.args.row (spans_left stream)) items firsts c.loop-i.invariant.now)
    ∙ parts.none_all (λ stream. has_row c.args.row (spans_left stream)) items c.loop-i.i all c.loop-i.invariant.none))

pub returns-clause-later : goal.returns-clause-later
returns-clause-later g c = λ r l. spans_same c.loop-i.streams.items c.args.streams.now.items r (c.loop-i.invariant.later r l)
