use Rattle.std.proofs.Common.{length, ap, ◌∙◌}
use Rattle.sq_model.specs.Fql.{is_counted}
use Rattle.sq_near.specs.Rows.{spans_in}
use Rattle.sq_nodes.specs.Leaves.{plain, spans_left}
use Rattle.sq_nodes.proofs.StreamLemmas.{counted_most}
use Rattle.sq_nodes.proofs.kinds.count_score.Goals as goal

pub returns-clause-value : goal.returns-clause-value
returns-clause-value g c =
    let counted = c.args.counted.now in
    c.plain.ensures
    ∙ ap plain (c.is_counted.ensures.value ∙ ap (is_counted counted.from counted.to) c.count_in-count.ensures.value
    ∙ counted_most counted.from counted.to (length (spans_in c.args.row (spans_left counted.stream))) 4294967295 c.is_counted.ensures.least c.is_counted.ensures.most)
