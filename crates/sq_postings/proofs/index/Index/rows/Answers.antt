use Rattle.std.proofs.Common.{subst}
use Rattle.sq_postings.specs.Indexed.{AreListsOf}
use Rattle.sq_postings.specs.Searched.{AreFound}
use Rattle.sq_postings.proofs.IndexLemmas.{lists_found}
use Rattle.sq_postings.proofs.index.Index.rows.Goals as goal

pub returns : goal.returns
returns c =
    let start = c.terms_of-start.result.0 in
    let end = c.terms_of-start.result.1 in
    let found = subst (λ terms. AreFound terms c.args.property c.args.token.now c.args.prefixed start end) c.as_slice.ensures c.terms_of-start.ensures in
    subst (λ index. AreListsOf index c.args.property c.args.token.now c.args.prefixed start end) c.self.view_is
    (lists_found c.self.inside.parts c.args.property c.args.token.now c.args.prefixed start end found)
