use Rattle.std.proofs.Common.{sym}
use Rattle.std.specs.HashMap.{get_by_text}
use Rattle.std.proofs.lemmas.List.{append-nil}
use Rattle.sq_build.specs.Claims.{rows_under}
use Rattle.sq_build.proofs.ClaimLemmas.{claim_more, claims_end}
use Rattle.sq_build.proofs.claims.add_claims.Goals as goal

pub loop-claim-init : goal.loop-claim-init
loop-claim-init c = λ t. sym (append-nil (rows_under (get_by_text c.args.rows.now t)))

pub loop-claim-preserved : goal.loop-claim-preserved
loop-claim-preserved c = λ t.
    claim_more t c.as_str.result.now c.claim-item.result (rows_under (get_by_text c.args.rows.now t)) (rows_under (get_by_text c.loop-claim.rows t)) _ c.args.row c.args.claims.now
    c.loop-claim.claim-index c.loop-claim-test.true c.claim-item.is c.as_str.ensures (c.requires t) (c.loop-claim.invariant t) (c.in_ok-add_row.ensures t)

pub returns : goal.returns
returns c = λ t.
    claims_end t (rows_under (get_by_text c.args.rows.now t)) (rows_under (get_by_text c.loop-claim.rows t)) c.args.row c.args.claims.now c.loop-claim.claim-index
    c.loop-claim-test.false (c.loop-claim.invariant t)
