use Rattle.std.proofs.Common.{◌≡◌, subst}
use Rattle.sq_lower.specs.Law.{IsSame}
use Rattle.sq_lower.proofs.Form.{form}
use Rattle.sq_lower.proofs.MeaningBoost.{form_is_same}
use Rattle.sq_lower.proofs.TypedLemmas.{lowered_typed}
use Rattle.sq_lower.proofs.laws.lowering_keeps_meaning.Goals as goal

pub returns : goal.returns
returns c = λ schema joiner k t values good sound typed valid.
    let given = lowered_typed c.names_find_rows.ensures c.numbers_read_back.ensures c.moments_read_back.ensures c.moments_are_written.ensures schema joiner k good sound.parts in
    let same : form schema joiner k ≡ t = cc in
    subst (λ tree. IsSame schema values joiner k tree) same (form_is_same schema joiner k values sound.parts valid)
