use Rattle.sq_streams.proofs.TreeRows.{rows_have_matches}
use Rattle.sq_streams.proofs.laws.rows_have_matches.Goals as goal

pub returns : goal.returns
returns c = rows_have_matches c.weights_of_matches.ensures
