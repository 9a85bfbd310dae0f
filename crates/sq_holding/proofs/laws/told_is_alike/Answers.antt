use Rattle.sq_holding.proofs.AlikeLemmas.{is_alike}
use Rattle.sq_holding.proofs.laws.told_is_alike.Goals as goal

pub returns : goal.returns
returns c =
    is_alike c.numbers_read_back.ensures c.moments_read_back.ensures c.moments_are_written.ensures
    c.stored_values_stand.ensures c.stored_urls_stand.ensures
