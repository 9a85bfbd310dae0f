use Rattle.std.proofs.Common.{◌∷◌, [], ap, ap₂, sym, ◌∙◌}
use Rattle.sq_model.specs.Triples.{near}
use Rattle.sq_model.specs.Kql.{triples}
use Rattle.sq_model.proofs.KqlEquations.{ktriples_near}
use Rattle.sq_slow.proofs.kql_spans.+kspans.Goals as goal

pub triples-returns-in_ok-found-in-Near : goal.triples-returns-in_ok-found-in-Near
triples-returns-in_ok-found-in-Near t c =
    let here = triples c.args.passage.now in
    c.in_ok-found-in-Near.ensures
    ∙ (ap (near c.in-Near.n c.in-Near.ordered)
    (c.as_slice-in-Near.ensures ∙ (c.in_ok-both-in-Near.ensures
    ∙ ap₂ (λ a b. a ∷ b ∷ []) (c.in_ok-left_found-in-Near.ensures ∙ ap here c.get-in-Near.ensures) (c.in_ok-right_found-in-Near.ensures ∙ ap here c.get-in-Near-2.ensures)))
    ∙ (sym (ktriples_near c.args.passage.now c.in-Near.left c.in-Near.right c.in-Near.n c.in-Near.ordered) ∙ ap here (sym c.in-Near.is)))
