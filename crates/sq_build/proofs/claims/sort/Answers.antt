use Rattle.std.proofs.Common.{rules}
use Rattle.std.proofs.lemmas.Cmp.{nat_list_cmp_total}
use Rattle.std.proofs.lemmas.List.MinMax.{ranks_by}
use Rattle.std.proofs.lemmas.List.Sorted.{answers_always}
use Rattle.sq_postings.specs.Rising.{claim_before}
use Rattle.sq_build.specs.Claims.{name_of}
use Rattle.sq_build.proofs.claims.sort.Goals as goal

pub returns-clause-sorted : goal.returns-clause-sorted
returns-clause-sorted c = c.sort_unstable_by.ensures.sorted claim_before (ranks_by nat_list_cmp_total name_of) (answers_always _ _ _ (λ f a r g h. search rules))
