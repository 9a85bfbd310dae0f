use Rattle.std.proofs.Common.{arith, ap}
use Rattle.std.proofs.lemmas.Int.{ints, to_z-of_z}
use Rattle.sq_model.specs.Kql.{gain}
use Rattle.sq_model.proofs.KqlEquations.{kgain_xrank}
use Rattle.sq_slow.proofs.kql_boost.+kql_boost.Goals as goal

pub gain-returns-in_ok-sum-in-Xrank : goal.gain-returns-in_ok-sum-in-Xrank
gain-returns-in_ok-sum-in-Xrank t c =
    let e = kgain_xrank c.args.schema.now c.args.item.now.values c.args.joiner c.in-Xrank.matched c.in-Xrank.ranked c.in-Xrank.cb in
    let f = ap (gain c.args.schema.now c.args.item.now.values c.args.joiner) c.in-Xrank.is in
    grind (arith, ints, to_z-of_z, e, f, c.in_ok-sum-in-Xrank.ensures, c.in_ok-own-in-Xrank.ensures, c.in_ok-more-in-Xrank.ensures, c.get-in-Xrank.ensures, c.get-in-Xrank-2.ensures)
