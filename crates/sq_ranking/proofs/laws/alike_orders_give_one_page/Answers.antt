use Rattle.sq_ranking.proofs.PageLemmas.{alike_orders}
use Rattle.sq_ranking.proofs.laws.alike_orders_give_one_page.Goals as goal

pub returns-clause-items : goal.returns-clause-items
returns-clause-items c = λ first second directions start count hits alike. alike_orders first second directions start count hits alike

pub returns-clause-rows : goal.returns-clause-rows
returns-clause-rows c = λ first second directions start count hits alike. alike_orders first second directions start count hits alike
