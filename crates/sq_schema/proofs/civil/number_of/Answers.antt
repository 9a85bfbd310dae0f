use Rattle.std.proofs.Common.{◌≡◌, arith, pos, ◌*ℤ◌, ◌∙◌}
use Rattle.jiff.specs.Words.{epoch_day}
use Rattle.jiff_core.proofs.DateLemmas.{epoch_day_range}
use Rattle.jiff_core.proofs.SignedLemmas.{signed_arith}
use Rattle.sq_schema.proofs.CivilLemmas.{seconds_between}
use Rattle.sq_schema.proofs.civil.number_of.Goals as goal

pub overflow_cast-result : goal.overflow_cast-result
overflow_cast-result c =
    let range = epoch_day_range c.args.day in
    let seconds : c.as_secs.result ≡ epoch_day c.args.day *ℤ pos 86_400 = c.as_secs.ensures ∙ seconds_between _ _ _ c.day_zero.ensures c.duration_until.ensures in
    omega (arith, signed_arith, range)

pub returns-clause-value : goal.returns-clause-value
returns-clause-value c =
    let range = epoch_day_range c.args.day in
    let seconds : c.as_secs.result ≡ epoch_day c.args.day *ℤ pos 86_400 = c.as_secs.ensures ∙ seconds_between _ _ _ c.day_zero.ensures c.duration_until.ensures in
    omega (arith, signed_arith, range)

pub returns-clause-bound : goal.returns-clause-bound
returns-clause-bound c =
    let range = epoch_day_range c.args.day in
    let seconds : c.as_secs.result ≡ epoch_day c.args.day *ℤ pos 86_400 = c.as_secs.ensures ∙ seconds_between _ _ _ c.day_zero.ensures c.duration_until.ensures in
    (omega (arith, signed_arith, range), omega (arith, signed_arith, range))
