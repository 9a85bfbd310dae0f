use Rattle.std.proofs.Common.{◌≤◌, length, string_bytes, ap, ◌∙◌, arith}
use Rattle.std.specs.HashMap.{get_by_text}
use Rattle.std.specs.Map.{lookup}
use Rattle.std.specs.Str.{bytes_eq}
use Rattle.sq_build.specs.Claims.{ends_with, rows_under, has_claim}
use Rattle.sq_build.proofs.ClaimLemmas.{ends_before, item_more, items_end}
use Rattle.sq_build.proofs.claims.rows_by_claim.Goals as goal

pub loop-row-init : goal.loop-row-init
loop-row-init c = λ t. ap (λ entries. rows_under (lookup (λ k. bytes_eq t (string_bytes k)) entries)) c.new-rows.ensures.empty

pub add_claims-requires : goal.add_claims-requires
add_claims-requires c =
    let l : c.loop-row.row ≤ length c.args.items.now = omega (arith, c.loop-row-test.true) in
    λ t. ap (λ rows. ends_with rows c.loop-row.row) (c.loop-row.invariant t) ∙ ends_before (has_claim c.args.denied t) c.args.items.now c.loop-row.row l

pub loop-row-preserved : goal.loop-row-preserved
loop-row-preserved c = λ t.
    item_more c.args.denied t c.args.items.now c.loop-row.row c.index-items-row.result c.claims_of.result.now (rows_under (get_by_text c.loop-row.rows t)) _
    c.loop-row-test.true c.index-items-row.is c.claims_of.ensures (c.in_ok-add_claims.ensures t) (c.loop-row.invariant t)

pub returns : goal.returns
returns c = λ t.
    items_end c.args.denied t c.args.items.now c.loop-row.row (rows_under (get_by_text c.loop-row.rows t)) c.loop-row-test.false (c.loop-row.invariant t)
