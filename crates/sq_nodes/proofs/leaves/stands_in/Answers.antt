use Rattle.std.proofs.Common.{ap, ◌∙◌}
use Rattle.std.specs.Prelude.{is_some}
use Rattle.sq_nodes.specs.Leaves.{spans_left}
use Rattle.sq_nodes.proofs.SpanLemmas as spans
use Rattle.sq_nodes.proofs.StreamLemmas.{ordered}
use Rattle.sq_nodes.proofs.leaves.stands_in.Goals as goal

pub returns-clause-value : goal.returns-clause-value
returns-clause-value g c =
    let old = spans_left c.args.stream.now in
    let first = spans.first_is c.args.row old (spans_left c.seek_passage.new.self) (ordered c.args.stream.now) c.seek_passage.ensures.left in
    c.is_some.ensures ∙ ap is_some (c.first_in.ensures ∙ first) ∙ spans.has_first c.args.row old

pub returns-clause-later : goal.returns-clause-later
returns-clause-later g c = λ r l.
    spans.spans_kept c.args.row (spans_left c.args.stream.now) (spans_left c.seek_passage.new.self) r c.seek_passage.ensures.left l
