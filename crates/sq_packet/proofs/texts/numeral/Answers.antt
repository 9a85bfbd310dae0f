use Rattle.sq_packet.proofs.DigitLemmas.{numeral_failed}
use Rattle.sq_packet.proofs.texts.numeral.Goals as goal

pub returns-in-Err : goal.returns-in-Err
returns-in-Err c = numeral_failed c.args.base c.args.digits.now _ _ c.requires.base c.requires.digits c.from_str_radix.ensures.value c.in-Err.is
