use Rattle.std.proofs.Common.{rules}
use Rattle.std.specs.List.{list_all}
use Rattle.std.proofs.lemmas.List.Sorted.{IsPartitionPoint-from_clause}
use Rattle.sq_postings.specs.Kept.{has_rising_rows}
use Rattle.sq_postings.specs.Rising.{rises, claim_before}
use Rattle.sq_postings.specs.Searched.{claim_comes_before}
use Rattle.sq_postings.proofs.OrderLemmas.{and_left, claim_chain, claim_down}
use Rattle.sq_postings.proofs.RisingLemmas.{parted}
use Rattle.sq_postings.proofs.search.claims_before.Goals as goal

pub returns-clause-point : goal.returns-clause-point
returns-clause-point c =
    let point = IsPartitionPoint-from_clause (claim_comes_before c.args.claim.now) _ _ c.partition_point.ensures.partitioned
    (parted claim_before claim_chain (claim_comes_before c.args.claim.now) (claim_down c.args.claim.now) c.args.claims.now (and_left (rises claim_before c.args.claims.now) (list_all has_rising_rows c.args.claims.now) c.requires)) (λ a r q k. search rules) in
    point
