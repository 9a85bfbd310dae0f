use Rattle.std.proofs.Common.{◌≡◌, ℕ, List, take}
use Rattle.std.specs.HashMap.{get_by_text}
use Rattle.sq_postings.specs.Occurrences.{rows_from}
use Rattle.sq_build.specs.Claims.{rows_under, has_claim}
use Rattle.sq_build.proofs.claims.rows_by_claim.Given as goal

abbrev pub invariant-loop-row : goal.invariant-loop-row
invariant-loop-row l = (t : List ℕ) → rows_under (get_by_text l.rows t) ≡ rows_from 0 (has_claim l.denied t) (take l.row l.items)
