use Rattle.std.proofs.Common.{ap, Err, Ok}
use Rattle.std.specs.Prelude.{is_some}
use Rattle.sq_fql.proofs.EscapeLemmas.{no_star}
use Rattle.sq_fql.proofs.content.has_bad_star.Goals as goal

pub returns-in-Ok : goal.returns-in-Ok
returns-in-Ok c = ap Ok (no_star _ (λ at e. let h = (c.in-Ok.ensures.bad_star at).1 e in cc))

pub returns-in-Err-BadStar : goal.returns-in-Err-BadStar
returns-in-Err-BadStar c = ap (λ s. Ok (is_some s)) ((c.in-Err-BadStar.ensures.bad_star c.in-Err-BadStar.field-0-0).0 (ap Err c.in-Err-BadStar.field-0-is))
