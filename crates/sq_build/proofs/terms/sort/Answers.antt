use Rattle.std.proofs.Common.{rules}
use Rattle.std.proofs.lemmas.Cmp.{nat_list_cmp_total}
use Rattle.std.proofs.lemmas.List.MinMax.{ranks_by}
use Rattle.std.proofs.lemmas.List.Sorted.{answers_always}
use Rattle.sq_build.specs.Terms.{by_token, token_of}
use Rattle.sq_build.proofs.terms.sort.Goals as goal

pub returns-clause-sorted : goal.returns-clause-sorted
returns-clause-sorted c = c.sort_unstable_by.ensures.sorted by_token (ranks_by nat_list_cmp_total token_of) (answers_always _ _ _ (λ f a r g h. search rules))
