use Rattle.std.proofs.Common.{◌≡◌}
use Rattle.sq_packet.specs.Texts.{text_until, text_to, onto_text}
use Rattle.sq_packet.proofs.texts.text_to.Given as goal

abbrev pub invariant-text : goal.invariant-text
invariant-text l = onto_text l.text.items (text_until l.turns l.end l.stop l.left) ≡ text_to l.end l.stop l.marks

abbrev pub decreases-text : goal.decreases-text
decreases-text l = l.turns
