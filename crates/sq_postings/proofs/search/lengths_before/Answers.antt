use Rattle.std.proofs.Common.{rules}
use Rattle.std.proofs.lemmas.List.Sorted.{IsPartitionPoint-from_clause}
use Rattle.sq_postings.specs.Rising.{length_before}
use Rattle.sq_postings.specs.Searched.{length_comes_before}
use Rattle.sq_postings.proofs.OrderLemmas.{length_chain, length_down}
use Rattle.sq_postings.proofs.RisingLemmas.{parted}
use Rattle.sq_postings.proofs.search.lengths_before.Goals as goal

pub returns-clause-point : goal.returns-clause-point
returns-clause-point c =
    let point = IsPartitionPoint-from_clause (length_comes_before c.args.row c.args.ordinal) _ _ c.partition_point.ensures.partitioned
    (parted length_before length_chain (length_comes_before c.args.row c.args.ordinal) (length_down c.args.row c.args.ordinal) c.args.lengths.now c.requires) (λ a r q k. search rules) in
    point
