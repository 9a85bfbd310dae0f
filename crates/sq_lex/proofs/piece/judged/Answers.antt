use Rattle.std.proofs.Common.{arith, ap, Err}
use Rattle.sq_lex.specs.Kql.{judged}
use Rattle.sq_lex.proofs.PieceLemmas.{bad_star_within, judged_ok, judged_star}
use Rattle.sq_lex.proofs.piece.judged.Goals as goal

pub overflow_add-cut : goal.overflow_add-cut
overflow_add-cut c =
    let star = (c.in-Err-BadStar.ensures.bad_star c.in-Err-BadStar.star).0 (ap Err c.in-Err-BadStar.field-0-is) in
    omega (arith, bad_star_within c.range.result.now c.in-Err-BadStar.star star, c.requires.piece.end.0)

pub returns-in-Ok : goal.returns-in-Ok
unfolding judged
returns-in-Ok c =
    rw (← c.range.ensures.value) (judged_ok _ _ _
    (λ at e. let h = (c.in-Ok.ensures.bad_star at).1 e in cc)
    (λ e. let h = c.in-Ok.ensures.no_token.1 e in cc))

pub returns-in-Err-BadStar : goal.returns-in-Err-BadStar
unfolding judged
returns-in-Err-BadStar c =
    rw (← c.range.ensures.value) (judged_star _ _ _ _ _ ((c.in-Err-BadStar.ensures.bad_star c.in-Err-BadStar.star).0 (ap Err c.in-Err-BadStar.field-0-is)) c.refused.ensures)
