use Rattle.std.proofs.Common.{ap, sym, ◌∙◌}
use Rattle.sq_model.specs.Kql.{holds}
use Rattle.sq_model.proofs.KqlEquations.{kholds_xrank}
use Rattle.sq_slow.proofs.kql_holds.+kql_holds.Goals as goal

pub holds-returns-in_ok-matched_holds-in-Xrank : goal.holds-returns-in_ok-matched_holds-in-Xrank
holds-returns-in_ok-matched_holds-in-Xrank t c =
    let here = holds c.args.schema.now c.args.item.now.values c.args.joiner in
    c.in_ok-matched_holds-in-Xrank.ensures
    ∙ (ap here c.get-in-Xrank.ensures
    ∙ (sym (kholds_xrank c.args.schema.now c.args.item.now.values c.args.joiner c.in-Xrank.matched c.in-Xrank.ranked c.in-Xrank.cb) ∙ ap here (sym c.in-Xrank.is)))
