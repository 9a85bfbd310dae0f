use Rattle.std.proofs.Common.{sym}
use Rattle.sq_packet.proofs.DigitLemmas.{xml_none}
use Rattle.sq_packet.proofs.texts.xml_char.Goals as goal

pub returns-in-None : goal.returns-in-None
returns-in-None c = sym (xml_none c.args.number c.in-None.ensures.cases)
