use Rattle.std.proofs.Common.{◌≡◌, arith, pos, ◌*ℤ◌}
use Rattle.jiff.specs.Words.{civil_nanos}
use Rattle.jiff_core.proofs.SignedLemmas.{signed_arith}
use Rattle.sq_schema.proofs.CivilLemmas.{civil_parts}
use Rattle.sq_schema.proofs.civil.civil_of.Goals as goal

pub returns-clause-date : goal.returns-clause-date
returns-clause-date c =
    let sum = rw c.unwrap.ensures at c.checked_add.ensures.value in
    let nanos : civil_nanos c.unwrap.result ≡ c.args.moment *ℤ pos 1_000_000_000 = omega (arith, signed_arith) in
    (civil_parts c.unwrap.result c.args.moment nanos).0

pub returns-clause-time : goal.returns-clause-time
returns-clause-time c =
    let sum = rw c.unwrap.ensures at c.checked_add.ensures.value in
    let nanos : civil_nanos c.unwrap.result ≡ c.args.moment *ℤ pos 1_000_000_000 = omega (arith, signed_arith) in
    (civil_parts c.unwrap.result c.args.moment nanos).1
