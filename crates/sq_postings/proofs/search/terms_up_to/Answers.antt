use Rattle.std.proofs.Common.{rules}
use Rattle.std.proofs.lemmas.List.Sorted.{IsPartitionPoint-from_clause}
use Rattle.sq_postings.specs.Rising.{term_before}
use Rattle.sq_postings.specs.Searched.{comes_up_to}
use Rattle.sq_postings.proofs.OrderLemmas.{term_chain, up_to_down}
use Rattle.sq_postings.proofs.RisingLemmas.{parted}
use Rattle.sq_postings.proofs.search.terms_up_to.Goals as goal

pub returns-clause-point : goal.returns-clause-point
returns-clause-point c =
    let point = IsPartitionPoint-from_clause (comes_up_to c.args.property c.args.token.now c.args.prefixed) _ _ c.partition_point.ensures.partitioned
    (parted term_before term_chain (comes_up_to c.args.property c.args.token.now c.args.prefixed) (up_to_down c.args.property c.args.token.now c.args.prefixed) c.args.terms.now c.requires) (λ a r q k. search rules) in
    point
