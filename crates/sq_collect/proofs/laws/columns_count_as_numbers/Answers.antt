use Rattle.sq_postings.specs.Indexed.{values_in}
use Rattle.sq_collect.proofs.ColumnLemmas.{columns_alike}
use Rattle.sq_collect.proofs.laws.columns_count_as_numbers.Goals as goal

pub returns : goal.returns
returns c = λ index corpus property bounds rows stands within. columns_alike (values_in index property) property corpus.items bounds rows (stands.values property within)
