use Rattle.sq_run.proofs.LeakLemmas.{no_reply_leaks}
use Rattle.sq_run.proofs.laws.no_leak.Goals as goal

pub returns : goal.returns
returns c = no_reply_leaks c.nothing_leaks.ensures
