use Rattle.std.proofs.Common.{◌≡◌, true, sym, ap, ◌∙◌, subst}
use Rattle.std.specs.List.{list_all}
use Rattle.std.specs.Str.{bytes_eq}
use Rattle.sq_cursor.specs.Rows.{IsRising}
use Rattle.sq_postings.specs.Kept.{has_rising_rows}
use Rattle.sq_postings.specs.Rising.{rises, claim_before}
use Rattle.sq_postings.proofs.OrderLemmas.{and_left}
use Rattle.sq_postings.proofs.FoundLemmas.{claim_found, claim_other, claim_past, claim_rises}
use Rattle.sq_postings.proofs.search.rows_of.Goals as goal
use Rattle.sq_postings.proofs.search.rows_of.Goals.{then-at-claims+else-eq, else-at-claims}

pub returns-then-eq-clause-value : goal.returns-then-eq-clause-value
returns-then-eq-clause-value c =
    let claims = c.args.claims.now in
    let same : bytes_eq c.as_str.result.now c.args.claim.now ≡ true = sym c.eq.ensures ∙ c.if-eq.true in
    c.as_slice.ensures ∙ claim_found claims c.args.claim.now c.claims_before-at.result (and_left (rises claim_before claims) (list_all has_rising_rows claims) c.requires) c.claims_before-at.ensures.point
    c.index-claims-at.result c.index-claims-at.is c.if-at-claims.true (ap (λ t. bytes_eq t c.args.claim.now) (sym c.as_str.ensures) ∙ same)

pub returns-then-eq-clause-rising : goal.returns-then-eq-clause-rising
returns-then-eq-clause-rising c =
    subst IsRising (sym c.as_slice.ensures) (claim_rises c.args.claims.now c.claims_before-at.result c.index-claims-at.result c.requires c.index-claims-at.is c.if-at-claims.true)

pub returns-clause-value : goal.returns-clause-value
returns-clause-value c =
    let claims = c.args.claims.now in
    let up = and_left (rises claim_before claims) (list_all has_rising_rows claims) c.requires in
    elim c.if-at-claims.branch [
      | then-at-claims+else-eq w ↦ claim_other claims c.args.claim.now c.claims_before-at.result up c.claims_before-at.ensures.point
          w.index-claims-at.result w.index-claims-at.is w.if-at-claims.true (ap (λ t. bytes_eq t c.args.claim.now) (sym w.as_str.ensures) ∙ (sym w.eq.ensures ∙ w.if-eq.false))
      | else-at-claims w ↦ claim_past claims c.args.claim.now c.claims_before-at.result up c.claims_before-at.ensures.point w.if-at-claims.false
    ]
