use Rattle.sq_stored.proofs.LawLemmas.{urls_stand}
use Rattle.sq_stored.proofs.laws.stored_urls_stand.Goals as goal

pub returns : goal.returns
returns c = urls_stand
