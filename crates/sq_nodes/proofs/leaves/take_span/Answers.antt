use Rattle.std.proofs.Common.{◌+◌, ◌≤◌, length, sym, ap, ◌∙◌, subst, arith}
use Rattle.sq_near.specs.Rows.{spans_in}
use Rattle.sq_nodes.specs.Leaves.{spans_left, count_of}
use Rattle.sq_nodes.proofs.SpanLemmas as spans
use Rattle.sq_nodes.proofs.StreamLemmas.{ordered}
use Rattle.sq_nodes.proofs.leaves.take_span.Goals as goal

pub returns-in_err-span-clause-value : goal.returns-in_err-span-clause-value
returns-in_err-span-clause-value g c =
    let first = spans.first_is c.args.row (spans_left c.args.stream.now) (spans_left c.seek_passage.new.self) (ordered c.args.stream.now) c.seek_passage.ensures.left in
    c.from_residual.ensures ∙ c.in_err-span.ensures ∙ first

pub returns-in_err-span-clause-left : goal.returns-in_err-span-clause-left
returns-in_err-span-clause-left g c =
    spans.none_taken c.args.row (spans_left c.args.stream.now) (spans_left c.seek_passage.new.self) (ordered c.args.stream.now) c.seek_passage.ensures.left (sym c.in_err-span.ensures)

pub returns-in_err-span-clause-later : goal.returns-in_err-span-clause-later
returns-in_err-span-clause-later g c = λ r l.
    spans.spans_kept c.args.row (spans_left c.args.stream.now) (spans_left c.seek_passage.new.self) r c.seek_passage.ensures.left (omega arith)

pub returns-in_err-span-clause-fewer : goal.returns-in_err-span-clause-fewer
returns-in_err-span-clause-fewer g c =
    let fewer = spans.spans_fewer c.args.row (spans_left c.args.stream.now) (spans_left c.seek_passage.new.self) c.seek_passage.ensures.left in
    let none = ap count_of c.from_residual.ensures in
    omega (arith, fewer, none)

pub returns-clause-value : goal.returns-clause-value
returns-clause-value g c =
    c.in_ok-span.ensures
    ∙ spans.first_is c.args.row (spans_left c.args.stream.now) (spans_left c.seek_passage.new.self) (ordered c.args.stream.now) c.seek_passage.ensures.left

pub returns-clause-left : goal.returns-clause-left
returns-clause-left g c =
    ap (spans_in c.args.row) c.step_span.ensures.left
    ∙ spans.one_taken c.args.row (spans_left c.args.stream.now) (spans_left c.seek_passage.new.self) c.in_ok-span.span c.seek_passage.ensures.left (sym c.in_ok-span.ensures)

pub returns-clause-later : goal.returns-clause-later
returns-clause-later g c = λ r l.
    ap (spans_in r) c.step_span.ensures.left
    ∙ spans.others_left c.args.row (spans_left c.args.stream.now) (spans_left c.seek_passage.new.self) c.in_ok-span.span c.seek_passage.ensures.left (sym c.in_ok-span.ensures) r l

pub returns-clause-fewer : goal.returns-clause-fewer
returns-clause-fewer g c =
    subst (λ spans. length spans + 1 ≤ length (spans_left c.args.stream.now)) (sym c.step_span.ensures.left)
    (spans.one_fewer c.args.row (spans_left c.args.stream.now) (spans_left c.seek_passage.new.self) c.in_ok-span.span c.seek_passage.ensures.left (sym c.in_ok-span.ensures))
