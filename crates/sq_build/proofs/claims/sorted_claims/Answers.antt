use Rattle.sq_postings.specs.Occurrences.{rows_from}
use Rattle.sq_build.specs.Claims.{has_claim}
use Rattle.sq_build.proofs.ClaimLemmas.{sorted_kept, sorted_rows, rows_rise}
use Rattle.sq_build.proofs.claims.sorted_claims.Goals as goal

pub returns-clause-kept : goal.returns-clause-kept
returns-clause-kept c =
    sorted_kept c.in_ok-rows.rows (λ t. rows_from 0 (has_claim c.args.denied t) c.args.items.now) c.in_ok-claims.claims.items c.sort.new.claims.items c.claims_in.ensures.unique
    c.in_ok-claims.ensures.claims c.sort.ensures.permutation c.in_ok-rows.ensures c.sort.ensures.sorted (λ t. rows_rise 0 (has_claim c.args.denied t) c.args.items.now)

pub returns-clause-rows : goal.returns-clause-rows
returns-clause-rows c =
    sorted_rows c.in_ok-rows.rows (λ t. rows_from 0 (has_claim c.args.denied t) c.args.items.now) c.in_ok-claims.claims.items c.sort.new.claims.items c.claims_in.ensures.unique
    c.in_ok-claims.ensures.claims c.sort.ensures.permutation c.in_ok-rows.ensures
