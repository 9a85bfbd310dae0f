use Rattle.sq_packet.proofs.DigitLemmas.{digits_of_run}
use Rattle.sq_packet.proofs.texts.numeric.Goals as goal

pub numeral-requires-clause-digits : goal.numeral-requires-clause-digits
numeral-requires-clause-digits c = rw (c.base_of.ensures.value, c.as_str.ensures) (digits_of_run c.args.of c.args.marks.now _ _ c.requires c.in_ok-digits.ensures)
