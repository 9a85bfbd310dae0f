use Rattle.std.proofs.Common.{ap, ◌∙◌}
use Rattle.sq_nodes.specs.Scores.{node_score}
use Rattle.sq_trim.specs.Flags.{left_rises}
use Rattle.sq_eval.specs.Meaning.{scored_rows}
use Rattle.sq_eval.specs.Plans.{admitted_left}
use Rattle.sq_eval.proofs.HitLemmas.{later_rows}
use Rattle.sq_eval.proofs.plan.Plan.take.Goals as goal

pub returns-clause-left : goal.returns-clause-left
returns-clause-left g c =
    let before = c.args.self.now in
    let rises = left_rises before.admitted.next before.admitted.flags.items in
    let old = node_score before.tree in
    let new = node_score c.score-score.new.self in
    ap (scored_rows new) c.step.ensures.left ∙ later_rows old new (admitted_left before.admitted) c.args.row rises c.requires c.score-score.ensures.later
