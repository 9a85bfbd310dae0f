use Rattle.std.proofs.Common.{◌+◌, drop, ap, ◌∙◌}
use Rattle.sq_postings.specs.Left.{without_first_pair}
use Rattle.sq_postings.proofs.ValueLemmas.{drop_next, step_cost}
use Rattle.sq_postings.proofs.values.ValueCursor.step.Goals as goal

pub returns-clause-left : goal.returns-clause-left
returns-clause-left g c = drop_next c.self.inside.at c.self.inside.pairs.now ∙ ap without_first_pair c.self.view_is

pub returns-clause-cost : goal.returns-clause-cost
returns-clause-cost g c =
    step_cost c.args.self.now (drop (c.self.inside.at + 1) c.self.inside.pairs.now) c.args.steps.now c.read.new.steps c.requires
    (drop_next c.self.inside.at c.self.inside.pairs.now ∙ ap without_first_pair c.self.view_is) c.read.ensures
