use Rattle.std.proofs.Common.{ℕ, [], List, ap₂, ◌∙◌, arith}
use Rattle.sq_schema.specs.declared.property.Property.{Property}
use Rattle.sq_engine.specs.Answer.{rows_of}
use Rattle.sq_service.proofs.CollectedLemmas.{found_is, page_cost_is}
use Rattle.sq_service.proofs.found.found_in.Goals as goal

pub returns-clause-found : goal.returns-clause-found
returns-clause-found g c = λ sorts hits taken rising.
    let asked = c.as_slice-3.ensures ∙ c.in_ok-rows.ensures ∙ ap₂ (λ (schema : List Property) (names : List (List ℕ)). rows_of schema names []) c.schema-schema.ensures c.as_slice.ensures in
    found_is c.args.held.now sorts c.args.request.now c.args.collected hits taken rising c.as_slice-4.result.now
    (λ order start count all is rise. c.as_slice-4.ensures ∙ c.finish-page.ensures order start count all is rise) c.as_slice-3.result.now asked
    c.total-total.result c.total-total.ensures c.schema-schema.result.now c.schema-schema.ensures c.in_ok-refiners.refiners
    (λ index specs all are rise. c.in_ok-refiners.ensures index specs all (rw c.as_slice-2.ensures.value are) rise) c.in_ok-hits.hits c.in_ok-hits.ensures.hits

pub returns-clause-cost : goal.returns-clause-cost
returns-clause-cost g c = λ sorts hits taken rising.
    let asked = c.as_slice-3.ensures ∙ c.in_ok-rows.ensures ∙ ap₂ (λ (schema : List Property) (names : List (List ℕ)). rows_of schema names []) c.schema-schema.ensures c.as_slice.ensures in
    let same = page_cost_is c.args.held.now sorts c.args.request.now c.args.collected hits taken rising c.as_slice-4.result.now
    (λ order start count all is rise. c.as_slice-4.ensures ∙ c.finish-page.ensures order start count all is rise) c.as_slice-3.result.now asked in
    omega (arith, same, c.listed_hits.ensures.cost)

pub returns-in_err-hits-clause-cost : goal.returns-in_err-hits-clause-cost
returns-in_err-hits-clause-cost g c = λ sorts hits taken rising.
    let asked = c.as_slice-3.ensures ∙ c.in_ok-rows.ensures ∙ ap₂ (λ (schema : List Property) (names : List (List ℕ)). rows_of schema names []) c.schema-schema.ensures c.as_slice.ensures in
    let same = page_cost_is c.args.held.now sorts c.args.request.now c.args.collected hits taken rising c.as_slice-4.result.now
    (λ order start count all is rise. c.as_slice-4.ensures ∙ c.finish-page.ensures order start count all is rise) c.as_slice-3.result.now asked in
    omega (arith, same, c.listed_hits.ensures.cost)
