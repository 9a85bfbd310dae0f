use Rattle.std.proofs.Common.{not, ◌&&◌, ap, ap₂, sym, ◌∙◌}
use Rattle.std.specs.List.{list_any}
use Rattle.sq_model.specs.Fql.{holds}
use Rattle.sq_model.proofs.FqlEquations.{holds_and_not, holds_xrank}
use Rattle.sq_slow.proofs.fql_holds.+fql_holds.Goals as goal

pub holds-returns-in_ok-others_hold-in-AndNot : goal.holds-returns-in_ok-others_hold-in-AndNot
holds-returns-in_ok-others_hold-in-AndNot t c =
    let here = holds c.args.schema.now c.args.item.now.values in
    c.and_not.ensures
    ∙ (ap₂ (λ a b. a && not b) (c.in_ok-first_holds-in-AndNot.ensures ∙ ap here c.get.ensures)
    (c.in_ok-others_hold-in-AndNot.ensures ∙ ap (list_any here) c.as_slice-in-AndNot.ensures)
    ∙ (sym (holds_and_not c.args.schema.now c.args.item.now.values c.in-AndNot.first c.in-AndNot.others) ∙ ap here (sym c.in-AndNot.is)))

pub holds-returns-in_ok-matched_holds-in-Xrank : goal.holds-returns-in_ok-matched_holds-in-Xrank
holds-returns-in_ok-matched_holds-in-Xrank t c =
    let here = holds c.args.schema.now c.args.item.now.values in
    c.in_ok-matched_holds-in-Xrank.ensures
    ∙ (ap here c.get-in-Xrank.ensures
    ∙ (sym (holds_xrank c.args.schema.now c.args.item.now.values c.in-Xrank.matched c.in-Xrank.ranks c.in-Xrank.cb) ∙ ap here (sym c.in-Xrank.is)))
