use Rattle.std.proofs.Common.{ap, ◌∙◌}
use Rattle.sq_streams.specs.TreeWeights.{with_all}
use Rattle.sq_streams.proofs.WeightLemmas.{distinct_of_all}
use Rattle.sq_streams.proofs.weights.each_once.Goals as goal

pub returns : goal.returns
returns c = c.in_ok-put_all.ensures ∙ (ap (λ seen. with_all seen c.args.numbers.now) c.new-found.ensures.items ∙ distinct_of_all c.args.numbers.now)
