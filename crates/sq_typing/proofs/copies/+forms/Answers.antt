use Rattle.std.proofs.Common.{◌≡◌, ℕ, ◌*◌, Bool, true, [], ◌∷◌, map, length, rules, refl, ap, ap₂, subst, sym, ◌∙◌}
use Rattle.std.specs.Prelude.{sum}
use Rattle.sq_model.specs.Triples.{choices}
use Rattle.sq_model.specs.Copies.{distinct, greatest, product}
use Rattle.sq_model.specs.KqlCopies.{weights, copies}
use Rattle.sq_model.specs.declared.kql.KTree.{KTree, Near}
use Rattle.sq_model.specs.declared.kql.KTree.TheFolds
use Rattle.sq_typing.specs.declared.forms.Forms.{Forms}
use Rattle.sq_typing.specs.Forms.{is_filled, IsCount}
use Rattle.sq_typing.proofs.CopiesLemmas.{filled_inside, filled_parts, filled_left, filled_right, has_forms, same_count, weights_near, copies_near}
use Rattle.sq_typing.proofs.CountLemmas.{counted_start, part_few}
use Rattle.sq_typing.proofs.copies.+forms.Goals as goal

pub forms_of-forms_of-requires : goal.forms_of-forms_of-requires
forms_of-forms_of-requires t c =
    (search (rules, TheFolds.the_lemmas), ap is_filled c.get.ensures ∙ filled_inside c.in-Group.inside (ap is_filled (sym c.in-Group.is) ∙ c.requires))

pub forms_of-forms_of_some-requires : goal.forms_of-forms_of_some-requires
forms_of-forms_of_some-requires t c =
    (search (rules, TheFolds.the_lemmas), rw c.as_slice-in-Or.ensures (filled_parts c.in-Or.parts (ap is_filled (sym c.in-Or.is) ∙ c.requires)))

module _ (tree left right a b : KTree) (n : ℕ) (ordered : Bool) (is : tree ≡ Near left right n ordered) (a_is : a ≡ left) (b_is : b ≡ right) where
  first_filled : is_filled tree ≡ true → is_filled a ≡ true
  first_filled filled = ap is_filled a_is ∙ filled_left left right n ordered (ap is_filled (sym is) ∙ filled)

  second_filled : is_filled tree ≡ true → is_filled b ≡ true
  second_filled filled = ap is_filled b_is ∙ filled_right left right n ordered (ap is_filled (sym is) ∙ filled)

  near_count : (forms : Forms) → IsCount (distinct (map sum (choices (weights a ∷ weights b ∷ [])))) (product (map length (weights a ∷ weights b ∷ [])) * greatest (copies a ∷ copies b ∷ [])) forms →
      IsCount (weights tree) (copies tree) forms
  near_count forms count = same_count _ _ _ _ forms
      (ap₂ (λ x y. distinct (map sum (choices (weights x ∷ weights y ∷ [])))) a_is b_is ∙ (sym (weights_near left right n ordered) ∙ ap weights (sym is)))
      (ap₂ (λ x y. product (map length (weights x ∷ weights y ∷ [])) * greatest (copies x ∷ copies y ∷ [])) a_is b_is ∙ (sym (copies_near left right n ordered) ∙ ap copies (sym is)))
      count

pub forms_of-forms_of-requires-in-Near : goal.forms_of-forms_of-requires-in-Near
forms_of-forms_of-requires-in-Near t c =
    (search (rules, TheFolds.the_lemmas), first_filled _ _ _ _ _ _ _ c.in-Near.is c.get-in-Near.ensures refl c.requires)

pub forms_of-forms_of-requires-in-Near-2 : goal.forms_of-forms_of-requires-in-Near-2
forms_of-forms_of-requires-in-Near-2 t c =
    (search (rules, TheFolds.the_lemmas), second_filled _ _ _ _ _ _ _ c.in-Near.is refl c.get-in-Near-2.ensures c.requires)

pub forms_of-forms_of_two-requires-clause-left : goal.forms_of-forms_of_two-requires-clause-left
forms_of-forms_of_two-requires-clause-left t c =
    has_forms c.get-in-Near.result.now _ (first_filled _ _ _ _ _ _ _ c.in-Near.is c.get-in-Near.ensures c.get-in-Near-2.ensures c.requires) c.in_ok-left_forms-in-Near.ensures

pub forms_of-forms_of_two-requires-clause-right : goal.forms_of-forms_of_two-requires-clause-right
forms_of-forms_of_two-requires-clause-right t c =
    has_forms c.get-in-Near-2.result.now _ (second_filled _ _ _ _ _ _ _ c.in-Near.is c.get-in-Near.ensures c.get-in-Near-2.ensures c.requires) c.in_ok-right_forms-in-Near.ensures

pub forms_of-returns-in_ok-forms-in-Near : goal.forms_of-returns-in_ok-forms-in-Near
forms_of-returns-in_ok-forms-in-Near t c =
    let left = c.get-in-Near.result.now in
    let right = c.get-in-Near-2.result.now in
    near_count _ _ _ left right _ _ c.in-Near.is c.get-in-Near.ensures c.get-in-Near-2.ensures c.in_ok-forms-in-Near.forms
    (c.in_ok-forms-in-Near.ensures left right
    (first_filled _ _ _ left right _ _ c.in-Near.is c.get-in-Near.ensures c.get-in-Near-2.ensures c.requires)
    (second_filled _ _ _ left right _ _ c.in-Near.is c.get-in-Near.ensures c.get-in-Near-2.ensures c.requires)
    c.in_ok-left_forms-in-Near.ensures c.in_ok-right_forms-in-Near.ensures)

pub forms_of_some-loop-part-init : goal.forms_of_some-loop-part-init
forms_of_some-loop-part-init t c = counted_start weights copies is_filled c.new-weights.result.items c.args.parts.now c.new-weights.ensures.items c.requires

pub forms_of_some-loop-part-preserved : goal.forms_of_some-loop-part-preserved
forms_of_some-loop-part-preserved t c =
    let part = c.part-item.result in
    let count = subst (IsCount (weights part) (copies part)) c.in-Few.is c.in_ok-forms_of.ensures in
    part_few weights copies is_filled c.loop-part.weights.items c.loop-part.greatest c.loop-part.part-index part c.args.parts.now c.loop-part-test.true c.part-item.is c.loop-part.invariant
    c.as_slice.result.now c.put_all.new.weights.items c.in-Few.copies c.max-greatest.result
    (c.as_slice.ensures.value ∙ count.0) count.1 count.2 c.in_ok-put_all-in-Few.ensures c.max-greatest.ensures
