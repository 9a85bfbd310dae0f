use Rattle.std.proofs.Common.{ap, ◌∙◌}
use Rattle.std.specs.Prelude.{Err}
use Rattle.sq_typing.proofs.FqlLemmas.{good_pattern, starred_pattern}
use Rattle.sq_typing.proofs.fql_texts.pattern_in.Goals as goal

pub returns-in-Ok : goal.returns-in-Ok
returns-in-Ok c =
    good_pattern c.args.piece.now c.as_str-text.result.now c.in-Ok.pattern c.as_str-text.ensures c.in-Ok.ensures.pattern
    (λ i star. let bad = (c.in-Ok.ensures.bad_star i).1 star in cc)
    (λ star none. let bad = c.in-Ok.ensures.no_token.1 (star, none) in cc)

pub returns-in-Err-BadStar : goal.returns-in-Err-BadStar
returns-in-Err-BadStar c =
    ap Err c.unread.ensures
    ∙ starred_pattern c.args.piece.now c.as_str-text.result.now c.in-Err-BadStar.field-0-0 c.as_str-text.ensures
    ((c.in-Err-BadStar.ensures.bad_star c.in-Err-BadStar.field-0-0).0 (ap Err c.in-Err-BadStar.field-0-is))
