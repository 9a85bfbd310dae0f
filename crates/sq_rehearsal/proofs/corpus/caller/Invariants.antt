use Rattle.std.proofs.Common.{◌≡◌, ◌++◌, map, drop}
use Rattle.sq_rehearsal.proofs.corpus.caller.Given as goal

abbrev pub invariant-loop-claim : goal.invariant-loop-claim
invariant-loop-claim l = l.held ++ map (λ claim. claim.now) (drop l.claim-index l.claims) ≡ map (λ claim. claim.now) l.claims
