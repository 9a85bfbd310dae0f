use Rattle.sq_typing.proofs.FqlLemmas.{parts_step}
use Rattle.sq_typing.proofs.fql_patterns.phrase_parts.Goals as goal

pub loop-left-preserved : goal.loop-left-preserved
loop-left-preserved c =
    parts_step c.loop-left.left.now c.first-item.result c.is_empty.result c.in_ok-part.part c.loop-left.parts c.in_ok-parts.parts _
    c.in-len1-up.len_at_least c.first-item.is c.is_empty.ensures c.in_ok-part.ensures c.in_ok-parts.ensures c.loop-left.invariant
