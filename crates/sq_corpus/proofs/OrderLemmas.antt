-- Values by the rows of their properties: each property keeps the list of its values.
use Rattle.std.proofs.Common.{◌≡◌, ◌⊎◌, inl, inr, ℕ, suc, ◌+◌, ◌<◌, ◌≤◌, Bool, true, false, cond, ◌==◌, List, [], ◌∷◌, ◌++◌, append-nil, filter, length, refl, ap, sym, subst, ◌∙◌, arith, slice_get, Option, None}
use Rattle.std.proofs.lemmas.Bool.{cases_lt}
use Rattle.std.specs.List.{list_all}
use Rattle.std.proofs.lemmas.Bool.Decides.{nat_tests}
use Rattle.std.proofs.lemmas.List.Elements.{filter-append}
use Rattle.std.proofs.lemmas.Option.{slice_get_past}
use Rattle.sq_schema.specs.declared.property.Property.{Property}
use Rattle.sq_model.specs.declared.corpus.Value.{Value}
use Rattle.sq_model.specs.Valid.{is_value, is_content_of}
use Rattle.sq_corpus.specs.Laws.{ValuesAreKept}
use Rattle.sq_corpus.specs.Written.{is_at, values_from}
use Rattle.sq_corpus.proofs.CleanLemmas.{left_true, right_true}
use Rattle.sq_corpus.proofs.ItemLemmas.{none_of_other}
use Rattle.sq_corpus.proofs.ValidLemmas.{parts}
use Rattle.sq_corpus.proofs.SpelledLemmas.{never}

again_at : (t : Bool) (p : ℕ) (value : Value) (others : List Value) → (value.property == p) ≡ t → filter (is_at p) others ≡ others
    → filter (is_at p) (cond t (value ∷ others) others) ≡ cond t (value ∷ others) others
again_at true p value others is same =
    ap (λ t. cond t (value ∷ filter (is_at p) others) (filter (is_at p) others)) is ∙ ap (λ vs. value ∷ vs) same
again_at false p value others is same = same

again : (values : List Value) (p : ℕ) → filter (is_at p) (filter (is_at p) values) ≡ filter (is_at p) values
again [] p = refl
again (value ∷ values) p = again_at (is_at p value) p value (filter (is_at p) values) refl (again values p)

split : (values : List Value) (p at : ℕ) (rows : List Property)
    → filter (is_at p) (filter (is_at at) values ++ values_from values (at + 1) rows)
    ≡ filter (is_at p) (filter (is_at at) values) ++ filter (is_at p) (values_from values (at + 1) rows)
split values p at rows = filter-append (is_at p) (filter (is_at at) values) (values_from values (at + 1) rows)

-- the rows stand behind the property, or in front of it
none_outside : (values : List Value) (p at : ℕ) (rows : List Property) → (p < at) ⊎ (at + length rows ≤ p) → filter (is_at p) (values_from values at rows) ≡ []
none_outside values p at [] outside = refl
none_outside values p at (row ∷ rows) outside =
    let other : at ≡ p → ⊥ = apart at p (length rows) outside in
    split values p at rows
    ∙ ap (λ front. front ++ filter (is_at p) (values_from values (at + 1) rows)) (none_of_other values at p other)
    ∙ none_outside values p (at + 1) rows (farther at p (length rows) outside)
  where
    apart : (at p n : ℕ) → (p < at) ⊎ (at + suc n ≤ p) → at ≡ p → ⊥
    apart at p n (inl h) is = omega (arith, h, is)
    apart at p n (inr h) is = omega (arith, h, is)

    farther : (at p n : ℕ) → (p < at) ⊎ (at + suc n ≤ p) → (p < at + 1) ⊎ ((at + 1) + n ≤ p)
    farther at p n (inl h) = inl (omega (arith, h))
    farther at p n (inr h) = inr (omega (arith, h))

-- the property is that of one of the rows
kept_inside : (values : List Value) (p at : ℕ) (rows : List Property) → at ≤ p → p < at + length rows
    → filter (is_at p) (values_from values at rows) ≡ filter (is_at p) values
kept_inside values p at [] low high = absurd (omega (arith, low, high))
kept_inside values p at (row ∷ rows) low high =
    inside (at == p) refl (λ other. kept_inside values p (at + 1) rows (grind (arith, low, other)) (omega (arith, high)))
  where
    inside : (t : Bool) → (at == p) ≡ t → ((at ≡ p → ⊥) → filter (is_at p) (values_from values (at + 1) rows) ≡ filter (is_at p) values)
        → filter (is_at p) (filter (is_at at) values ++ values_from values (at + 1) rows) ≡ filter (is_at p) values
    inside true e behind =
        let is : at ≡ p = grind (arith, nat_tests, e) in
        split values p at rows
        ∙ ap (λ behind. filter (is_at p) (filter (is_at at) values) ++ behind) (none_outside values p (at + 1) rows (inl (omega (arith, is))))
        ∙ append-nil (filter (is_at p) (filter (is_at at) values))
        ∙ ap (λ k. filter (is_at p) (filter (is_at k) values)) is
        ∙ again values p
    inside false e behind =
        let other : at ≡ p → ⊥ = λ is. absurd (grind (arith, nat_tests, e, is)) in
        split values p at rows
        ∙ ap (λ front. front ++ filter (is_at p) (values_from values (at + 1) rows)) (none_of_other values at p other)
        ∙ behind other

-- no value is of a property past the rows
bad_at : (o : Option Property) (value : Value) → o ≡ None → is_content_of o value.content ≡ true → ⊥
bad_at o value none good = let P : Option Property → Type 0 = λ o. is_content_of o value.content ≡ true in never (subst P none good)

none_past : (rows : List Property) (values : List Value) (p : ℕ) → length rows ≤ p → list_all (is_value rows) values ≡ true → filter (is_at p) values ≡ []
none_past rows [] p past good = refl
none_past rows (value ∷ values) p past good =
    past_at (value.property == p) refl (none_past rows values p past (right_true (is_value rows value) (list_all (is_value rows) values) good))
  where
    past_at : (t : Bool) → (value.property == p) ≡ t → filter (is_at p) values ≡ [] → cond t (value ∷ filter (is_at p) values) (filter (is_at p) values) ≡ []
    past_at true e none =
        let is : value.property ≡ p = grind (arith, nat_tests, e) in
        absurd (bad_at (slice_get rows value.property) value (slice_get_past rows value.property (omega (arith, past, is)))
        (left_true (is_value rows value) (list_all (is_value rows) values) good))
    past_at false e none = none

pub values_kept : ValuesAreKept
values_kept rows item property good = elim (cases_lt property (length rows)) [
  | inl within ↦ kept_inside item.values property 0 rows (omega arith) (omega (arith, within))
  | inr past ↦ none_outside item.values property 0 rows (inr (omega (arith, past))) ∙ sym (none_past rows item.values property past (parts rows item good).values)
]
