use Rattle.std.proofs.Common.{arith, ap}
use Rattle.std.proofs.lemmas.Int.{ints, to_z-of_z}
use Rattle.sq_model.specs.Fql.{gain}
use Rattle.sq_model.proofs.FqlEquations.{gain_xrank, gain_and_not}
use Rattle.sq_slow.proofs.fql_boost.+fql_boost.Goals as goal

pub gain-returns-in_ok-sum-in-Xrank : goal.gain-returns-in_ok-sum-in-Xrank
gain-returns-in_ok-sum-in-Xrank t c =
    let e = gain_xrank c.args.schema.now c.args.item.now.values c.in-Xrank.matched c.in-Xrank.ranks c.in-Xrank.cb in
    let f = ap (gain c.args.schema.now c.args.item.now.values) c.in-Xrank.is in
    grind (arith, ints, to_z-of_z, e, f, c.in_ok-sum-in-Xrank.ensures, c.in_ok-own-in-Xrank.ensures, c.in_ok-more-in-Xrank.ensures, c.get-in-Xrank.ensures, c.as_slice-in-Xrank.ensures)

pub gain-returns-in_ok-sum-in-AndNot : goal.gain-returns-in_ok-sum-in-AndNot
gain-returns-in_ok-sum-in-AndNot t c =
    let e = gain_and_not c.args.schema.now c.args.item.now.values c.in-AndNot.first c.in-AndNot.others in
    let f = ap (gain c.args.schema.now c.args.item.now.values) c.in-AndNot.is in
    grind (arith, ints, to_z-of_z, e, f, c.in_ok-sum-in-AndNot.ensures, c.get.ensures)
