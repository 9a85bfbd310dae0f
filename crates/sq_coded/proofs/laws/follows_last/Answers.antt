use Rattle.sq_coded.proofs.FollowLemmas.{follows_last}
use Rattle.sq_coded.proofs.laws.follows_last.Goals as goal

pub returns : goal.returns
returns c = follows_last
