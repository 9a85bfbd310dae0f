use Rattle.sq_pool.proofs.SeparateLemmas.{separate}
use Rattle.sq_pool.proofs.pool.Pool.keeps_apart.Goals as goal

pub returns : goal.returns
returns c = rw (← c.self.view_is) (separate _ _ c.self.invariant)
