use Rattle.std.proofs.Common.{◌≡◌, true}
use Rattle.std.specs.Char.{is_ascii_digit}
use Rattle.std.specs.List.{list_all}
use Rattle.sq_packet.proofs.DigitLemmas.{whole_failed}
use Rattle.sq_packet.proofs.words.whole.Goals as goal

pub returns-in-Err : goal.returns-in-Err
returns-in-Err c =
    let digits : list_all is_ascii_digit c.args.text.now ≡ true = cc in
    whole_failed c.args.text.now _ _ digits c.parse.ensures.value.0 c.in-Err.is
