use Rattle.std.proofs.Common.{rules}
use Rattle.std.proofs.lemmas.List.Sorted.{IsPartitionPoint-from_clause}
use Rattle.sq_postings.specs.Rising.{term_before}
use Rattle.sq_postings.specs.Searched.{comes_before}
use Rattle.sq_postings.proofs.OrderLemmas.{term_chain, before_down}
use Rattle.sq_postings.proofs.RisingLemmas.{parted}
use Rattle.sq_postings.proofs.search.terms_before.Goals as goal

pub returns-clause-point : goal.returns-clause-point
returns-clause-point c =
    let point = IsPartitionPoint-from_clause (comes_before c.args.property c.args.token.now) _ _ c.partition_point.ensures.partitioned
    (parted term_before term_chain (comes_before c.args.property c.args.token.now) (before_down c.args.property c.args.token.now) c.args.terms.now c.requires) (λ a r q k. search rules) in
    point
