use Rattle.std.proofs.Common.{ap, ◌∙◌}
use Rattle.sq_typing.specs.Forms.{with_all}
use Rattle.sq_typing.proofs.DistinctLemmas.{distinct_of_all}
use Rattle.sq_typing.proofs.forms.each_once.Goals as goal

pub returns : goal.returns
returns c = c.in_ok-put_all.ensures ∙ (ap (λ seen. with_all seen c.args.numbers.now) c.new-found.ensures.items ∙ distinct_of_all c.args.numbers.now)
