use Rattle.std.proofs.Common.{sym}
use Rattle.sq_nodes.specs.Leaves.{spans_left}
use Rattle.sq_nodes.proofs.SpanLemmas as spans
use Rattle.sq_nodes.proofs.StreamLemmas.{ordered}
use Rattle.sq_nodes.proofs.leaves.seek_row.Goals as goal

pub returns-in_err-to-clause-none : goal.returns-in_err-to-clause-none
returns-in_err-to-clause-none g c = λ r l b.
    spans.none_left c.args.row (spans_left c.args.stream.now) (spans_left c.seek_passage.new.self) c.seek_passage.ensures.left (sym c.in_err-to.ensures) r l

pub returns-in_err-to-clause-later : goal.returns-in_err-to-clause-later
returns-in_err-to-clause-later g c = λ r l.
    spans.spans_kept c.args.row (spans_left c.args.stream.now) (spans_left c.seek_passage.new.self) r c.seek_passage.ensures.left l

pub returns-in_err-to-clause-fewer : goal.returns-in_err-to-clause-fewer
returns-in_err-to-clause-fewer g c =
    spans.spans_fewer c.args.row (spans_left c.args.stream.now) (spans_left c.seek_passage.new.self) c.seek_passage.ensures.left

pub returns-clause-none : goal.returns-clause-none
returns-clause-none g c = λ r l b.
    spans.none_before c.args.row (spans_left c.args.stream.now) (spans_left c.seek_passage.new.self) c.in_ok-to.to c.in_ok-to.field-0-1
    (ordered c.args.stream.now) c.seek_passage.ensures.left (sym c.in_ok-to.ensures) r l b

pub returns-clause-forward : goal.returns-clause-forward
returns-clause-forward g c =
    spans.forward c.args.row (spans_left c.args.stream.now) (spans_left c.seek_passage.new.self) c.in_ok-to.to c.in_ok-to.field-0-1
    (ordered c.args.stream.now) c.seek_passage.ensures.left (sym c.in_ok-to.ensures)

pub returns-clause-later : goal.returns-clause-later
returns-clause-later g c = λ r l.
    spans.spans_kept c.args.row (spans_left c.args.stream.now) (spans_left c.seek_passage.new.self) r c.seek_passage.ensures.left l

pub returns-clause-fewer : goal.returns-clause-fewer
returns-clause-fewer g c =
    spans.spans_fewer c.args.row (spans_left c.args.stream.now) (spans_left c.seek_passage.new.self) c.seek_passage.ensures.left
