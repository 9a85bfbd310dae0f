use Rattle.std.proofs.Common.{rules, ◌≡◌, ℤ, pos, map, to_z, of_z, w64, ◌∙◌, ap}
use Rattle.std.proofs.lemmas.Int.{to_z-of_z}
use Rattle.std.proofs.lemmas.List.{map_more}
use Rattle.std.specs.List.{count_by}
use Rattle.std.specs.Ordering.{int_eq}
use Rattle.std.specs.Prelude.{slice_index_or, FitsSigned}
use Rattle.sq_response.specs.declared.response.Entry.TheVariants.{Single}
use Rattle.sq_ranking.specs.Ranking.{values}
use Rattle.sq_ranking.proofs.CountLemmas.{gathered_singles, whole}
use Rattle.sq_ranking.proofs.entries.singles_of.Goals as goal

pub loop-value-preserved : goal.loop-value-preserved
loop-value-preserved c =
    let items = c.deref-value-items.result.now in
    let value : ℤ = slice_index_or items c.loop-value.value-index (pos 0) in
    let fits : FitsSigned w64 value = search rules in
    let same : to_z w64 (of_z w64 value) ≡ value = to_z-of_z w64 value fits in
    let more = map_more (λ (value : ℤ). Single value (count_by (int_eq value) c.in_ok-numbers.numbers.items)) items c.loop-value.value-index (pos 0) c.loop-value-test.true in
    let pushed = c.in_ok-push.ensures.ok in
    let counted = c.count_of-count.ensures in
    let number = c.deref-in-loop-value.ensures.value in
    let sofar = c.loop-value.invariant in
    cc (same, more, pushed, counted, number, sofar)

pub returns : goal.returns
returns c =
    let numbers = c.in_ok-numbers.numbers.items in
    c.loop-value.invariant
    ∙ ap (λ xs. map (λ (value : ℤ). Single value (count_by (int_eq value) numbers)) xs) (whole c.loop-value.value-index c.deref-value-items.result.now c.loop-value-test.false ∙ c.deref-value-items.ensures.value ∙ c.in_ok-once.ensures ∙ ap values c.deref.ensures.value)
    ∙ gathered_singles c.args.hits.now numbers c.in_ok-numbers.ensures
