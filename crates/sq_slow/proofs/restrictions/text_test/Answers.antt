use Rattle.std.proofs.Common.{ap, ◌∙◌}
use Rattle.sq_slow.specs.TextValues.{passages_in}
use Rattle.sq_model.specs.Kql.{reads}
use Rattle.sq_slow.proofs.SeenLemmas.{passages_of_texts}
use Rattle.sq_slow.proofs.restrictions.text_test.Goals as goal

pub returns : goal.returns
returns c =
    c.in_ok-answer.ensures
    ∙ ap (reads c.args.relation c.args.pattern.now) (ap (λ texts. passages_in texts c.args.property) c.requires ∙ passages_of_texts c.args.item.now.values c.args.property)
