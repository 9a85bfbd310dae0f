use Rattle.std.proofs.Common.{◌∙◌}
use Rattle.sq_collect.proofs.PageLemmas.{finished}
use Rattle.sq_collect.proofs.page.Page.finish.Goals as goal

pub returns : goal.returns
returns c = λ order start count hits page up.
    c.from_vec.ensures ∙ c.cut_to_places.ensures ∙ finished order start count c.args.self hits c.rank.new.kept.items page up c.rank.ensures.moved c.rank.ensures.rises
