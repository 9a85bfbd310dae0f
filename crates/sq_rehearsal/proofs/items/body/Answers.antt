use Rattle.std.proofs.Common.{sym, ◌∙◌}
use Rattle.sq_rehearsal.proofs.OpeningLemmas.{opening_first, opening_more}
use Rattle.sq_rehearsal.proofs.items.body.Goals as goal

pub loop-before-init : goal.loop-before-init
loop-before-init c = c.in_ok-text.ensures.ok ∙ sym (opening_first c.args.item)

pub loop-before-preserved : goal.loop-before-preserved
loop-before-preserved c =
    rw (c.in_ok-push_str.ensures.bytes, c.as_str.ensures, c.in_ok-word.ensures, c.loop-before.invariant) (sym (opening_more c.args.item c.loop-before.before))
