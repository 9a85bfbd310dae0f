use Rattle.std.proofs.Common.{◌≡◌, ℕ, ◌*◌, ◌≤◌, Bool, List, map, rules, arith, ap, subst, sym, length, ◌∙◌}
use Rattle.std.specs.Prelude.{sum}
use Rattle.sq_model.specs.Triples.{choices}
use Rattle.sq_model.specs.Copies.{distinct, greatest, product, weights, copies}
use Rattle.sq_model.specs.declared.fql.SpanTree.{SpanTree, Near}
use Rattle.sq_typing.specs.declared.forms.Forms.{Forms}
use Rattle.sq_model.specs.declared.fql.SpanTree.TheFolds
use Rattle.sq_typing.specs.Forms.{sums_of, IsCount}
use Rattle.sq_typing.specs.SpanForms.{is_filled}
use Rattle.sq_typing.proofs.CopiesLemmas.{same_count}
use Rattle.sq_typing.proofs.CountLemmas.{counted_start, part_few}
use Rattle.sq_typing.proofs.SpanLemmas.{filled_union, filled_near, weights_near, copies_near, has_copy}
use Rattle.sq_typing.proofs.SummedLemmas.{summed_filled, summed_whole, summed_few, summed_many, summed_count}
use Rattle.sq_typing.proofs.span_copies.+span_forms.Goals as goal

near_count : (tree : SpanTree) (parts slice : List SpanTree) (n : ℕ) (ordered : Bool) → tree ≡ Near parts n ordered → slice ≡ parts → (forms : Forms) →
    IsCount (distinct (map sum (choices (map weights slice)))) (product (map length (map weights slice)) * greatest (map copies slice)) forms → IsCount (weights tree) (copies tree) forms
near_count tree parts slice n ordered is slice_is forms count = same_count _ _ _ _ forms
    (ap (λ trees. distinct (map sum (choices (map weights trees)))) slice_is ∙ (sym (weights_near parts n ordered) ∙ ap weights (sym is)))
    (ap (λ trees. product (map length (map weights trees)) * greatest (map copies trees)) slice_is ∙ (sym (copies_near parts n ordered) ∙ ap copies (sym is)))
    count

pub forms_of-forms_of_some-requires : goal.forms_of-forms_of_some-requires
forms_of-forms_of_some-requires t c =
    (search (rules, TheFolds.the_lemmas), rw c.as_slice.ensures (filled_union c.in-Union.parts (ap is_filled (sym c.in-Union.is) ∙ c.requires)))

pub forms_of-forms_of_all-requires : goal.forms_of-forms_of_all-requires
forms_of-forms_of_all-requires t c =
    (search (rules, TheFolds.the_lemmas), rw c.as_slice-in-Near.ensures (filled_near c.in-Near.parts c.in-Near.n c.in-Near.ordered (ap is_filled (sym c.in-Near.is) ∙ c.requires)))

pub forms_of-returns-in_ok-forms-in-Near : goal.forms_of-returns-in_ok-forms-in-Near
forms_of-returns-in_ok-forms-in-Near t c =
    near_count c.args.tree.now c.in-Near.parts c.as_slice-in-Near.result.now c.in-Near.n c.in-Near.ordered c.in-Near.is c.as_slice-in-Near.ensures c.in_ok-forms-in-Near.forms
    c.in_ok-forms-in-Near.ensures

pub forms_of_all-returns-in-Many : goal.forms_of_all-returns-in-Many
forms_of_all-returns-in-Many t c =
    let part = c.part-item.result in
    let many = subst (IsCount (weights part) (copies part)) c.in-Many.is c.in_ok-forms_of.ensures in
    let whole = summed_whole c.loop-part.sums.items c.loop-part.greatest c.loop-part.part-index part c.args.parts.now c.loop-part-test.true c.part-item.is c.loop-part.invariant in
    omega (arith, many, whole.0)

pub forms_of_all-few_of-requires : goal.forms_of_all-few_of-requires
forms_of_all-few_of-requires t c =
    let part = c.part-item.result in
    let count = subst (IsCount (weights part) (copies part)) c.in-Few.is c.in_ok-forms_of.ensures in
    let filled = summed_filled c.loop-part.sums.items c.loop-part.greatest c.loop-part.part-index part c.args.parts.now c.loop-part-test.true c.part-item.is c.loop-part.invariant in
    omega (arith, count.1, has_copy part filled, c.max-greatest.ensures)

pub forms_of_all-returns-in-None : goal.forms_of_all-returns-in-None
forms_of_all-returns-in-None t c =
    let part = c.part-item.result in
    let count = subst (IsCount (weights part) (copies part)) c.in-Few.is c.in_ok-forms_of.ensures in
    summed_many c.loop-part.sums.items c.loop-part.greatest c.loop-part.part-index part c.args.parts.now c.loop-part-test.true c.part-item.is c.loop-part.invariant
    (length c.as_slice-firsts.result.now) (length c.as_slice-seconds.result.now) c.in-Few.copies c.max-greatest.result
    (ap length c.as_slice-firsts.ensures.value) (ap length (c.as_slice-seconds.ensures.value ∙ count.0)) count.1 c.max-greatest.ensures c.in-None.ensures

pub forms_of_all-loop-part-preserved : goal.forms_of_all-loop-part-preserved
forms_of_all-loop-part-preserved t c =
    let part = c.part-item.result in
    let items = c.as_slice-seconds.result.now in
    let now = c.max-greatest.result in
    let firsts = c.as_slice-firsts.ensures.value in
    let count = subst (IsCount (weights part) (copies part)) c.in-Few.is c.in_ok-forms_of.ensures in
    let few : length c.as_slice-firsts.result.now * (length items * 1) * now ≤ 256 = omega (arith, c.in-Some.ensures) in
    summed_few c.loop-part.sums.items c.loop-part.greatest c.loop-part.part-index part c.args.parts.now c.loop-part-test.true c.part-item.is c.loop-part.invariant
    items c.in_ok-sums-in-Some.sums.items c.in-Few.copies now
    (c.as_slice-seconds.ensures.value ∙ count.0) count.1 c.max-greatest.ensures (c.in_ok-sums-in-Some.ensures ∙ ap (λ sums. sums_of sums items) firsts)
    (subst (λ sums. length sums * (length items * 1) * now ≤ 256) firsts few)

pub forms_of_all-returns : goal.forms_of_all-returns
forms_of_all-returns t c =
    summed_count c.loop-part.sums.items c.loop-part.greatest c.loop-part.part-index c.args.parts.now c.in_ok-forms.forms c.loop-part-test.false c.loop-part.invariant
    (subst (λ sums. IsCount (distinct sums) (length sums * c.loop-part.greatest) c.in_ok-forms.forms) c.as_slice.ensures.value c.in_ok-forms.ensures)

pub forms_of_some-loop-part-init : goal.forms_of_some-loop-part-init
forms_of_some-loop-part-init t c = counted_start weights copies is_filled c.new-weights.result.items c.args.parts.now c.new-weights.ensures.items c.requires

pub forms_of_some-loop-part-preserved : goal.forms_of_some-loop-part-preserved
forms_of_some-loop-part-preserved t c =
    let part = c.part-item.result in
    let count = subst (IsCount (weights part) (copies part)) c.in-Few.is c.in_ok-forms_of.ensures in
    part_few weights copies is_filled c.loop-part.weights.items c.loop-part.greatest c.loop-part.part-index part c.args.parts.now c.loop-part-test.true c.part-item.is c.loop-part.invariant
    c.as_slice.result.now c.put_all.new.weights.items c.in-Few.copies c.max-greatest.result
    (c.as_slice.ensures.value ∙ count.0) count.1 count.2 c.in_ok-put_all-in-Few.ensures c.max-greatest.ensures
