use Rattle.std.proofs.Common.{◌≡◌, ◌++◌, map}
use Rattle.sq_build.specs.Claims.{claim_of}
use Rattle.sq_build.proofs.claims.claims_in.Given as goal

abbrev pub invariant-loop-claim : goal.invariant-loop-claim
invariant-loop-claim l = l.claims.items ++ map claim_of l.claim-iterator ≡ map claim_of l.fn.rows.entries
