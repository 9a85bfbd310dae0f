use Rattle.sq_postings.proofs.FoundLemmas.{found}
use Rattle.sq_postings.proofs.search.terms_of.Goals as goal

pub returns : goal.returns
returns c =
    found c.args.terms.now c.args.property c.args.token.now c.args.prefixed c.terms_before-start.result c.terms_up_to-end.result
    c.terms_before-start.ensures.bound c.terms_up_to-end.ensures.bound c.terms_before-start.ensures.point c.terms_up_to-end.ensures.point
