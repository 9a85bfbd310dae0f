use Rattle.std.proofs.Common.{sym, subst}
use Rattle.sq_postings.specs.Indexed.{indexed}
use Rattle.sq_postings.specs.Laws.{ListsAreWithinCount, ListsHavePostings, ListsHavePlaces}
use Rattle.sq_postings.specs.StandsFor.{StandsFor}
use Rattle.sq_postings.proofs.CountLemmas.{within_count, have_postings, lists_rise}
use Rattle.sq_postings.proofs.PlaceLemmas.{have_places}
use Rattle.sq_postings.proofs.index.Index.tells.Goals as goal

pub returns-clause-count : goal.returns-clause-count
returns-clause-count c = λ corpus stands.
    let parts = c.self.inside.parts in
    subst (λ index. ListsAreWithinCount index corpus) c.self.view_is
    (within_count (indexed parts) corpus (lists_rise parts.lists parts.terms c.self.invariant.terms_rise) (subst (λ index. StandsFor index corpus) (sym c.self.view_is) stands))

pub returns-clause-postings : goal.returns-clause-postings
returns-clause-postings c = λ corpus stands.
    let parts = c.self.inside.parts in
    subst (λ index. ListsHavePostings index corpus) c.self.view_is
    (have_postings (indexed parts) corpus (lists_rise parts.lists parts.terms c.self.invariant.terms_rise) (subst (λ index. StandsFor index corpus) (sym c.self.view_is) stands))

pub returns-clause-places : goal.returns-clause-places
returns-clause-places c = λ corpus stands.
    let parts = c.self.inside.parts in
    subst (λ index. ListsHavePlaces index corpus) c.self.view_is (have_places (indexed parts) corpus (subst (λ index. StandsFor index corpus) (sym c.self.view_is) stands))
