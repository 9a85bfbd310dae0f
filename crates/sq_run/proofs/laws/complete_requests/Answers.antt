use Rattle.sq_run.proofs.CompleteLemmas.{requests_answered}
use Rattle.sq_run.proofs.laws.complete_requests.Goals as goal

pub returns : goal.returns
returns c = requests_answered
