use Rattle.std.proofs.Common.{ap, Err}
use Rattle.sq_typing.proofs.leaves.literal.Goals as goal

pub unreachable-requires : goal.unreachable-requires
unreachable-requires c =
    let star = (c.in-Err-BadStar.ensures.bad_star c.in-Err-BadStar.field-0-0).0 (ap Err c.in-Err-BadStar.field-0-is) in
    let none = c.requires.starless in
    cc
