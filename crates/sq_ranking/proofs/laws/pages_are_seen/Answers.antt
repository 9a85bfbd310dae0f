use Rattle.sq_ranking.proofs.PageLemmas.{pages_seen}
use Rattle.sq_ranking.proofs.laws.pages_are_seen.Goals as goal

pub returns-clause-items_as_ranked : goal.returns-clause-items_as_ranked
returns-clause-items_as_ranked c = λ seen ranked directions start count hits. pages_seen seen ranked directions start count hits

pub returns-clause-items_as_rows : goal.returns-clause-items_as_rows
returns-clause-items_as_rows c = λ seen ranked directions start count hits. pages_seen seen ranked directions start count hits

pub returns-clause-rows_as_items : goal.returns-clause-rows_as_items
returns-clause-rows_as_items c = λ seen ranked directions start count hits. pages_seen seen ranked directions start count hits
