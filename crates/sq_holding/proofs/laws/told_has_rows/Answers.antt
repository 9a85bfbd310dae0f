use Rattle.sq_holding.proofs.AlikeLemmas.{told_has_rows}
use Rattle.sq_holding.proofs.laws.told_has_rows.Goals as goal

pub returns : goal.returns
returns c = told_has_rows
