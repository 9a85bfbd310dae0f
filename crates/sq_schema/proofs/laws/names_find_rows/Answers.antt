use Rattle.sq_schema.proofs.NameLemmas.{names_find_rows}
use Rattle.sq_schema.proofs.laws.names_find_rows.Goals as goal

pub returns : goal.returns
returns c = names_find_rows
