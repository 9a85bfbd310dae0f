-- The contents of values are read back from their texts.
use Rattle.std.proofs.Common.{◌≡◌, ℕ, ◌+◌, ◌<◌, ◌≤◌, ◌==◌, Bool, true, false, ◌&&◌, cond, List, [], ◌∷◌, ◌++◌, map, filter, length, refl, ap, ap₂, subst, ◌∙◌, arith, ◌⊎◌, inl, inr, Option, Some, None, zero, suc, slice_get, ℤ, int_le, w64, FitsSigned}
use Rattle.std.specs.List.{list_all, flat_map, range_with_len}
use Rattle.std.proofs.lemmas.Bool.{cases_lt}
use Rattle.std.proofs.lemmas.Bool.Decides.{nat_tests}
use Rattle.std.proofs.lemmas.Int.{ints}
use Rattle.std.proofs.lemmas.List.{append-nil, map-append}
use Rattle.std.proofs.lemmas.List.Elements.{filter-append}
use Rattle.std.proofs.lemmas.Option.{slice_get_past}
use Rattle.sq_schema.specs.declared.property.Kind.{Kind}
use Rattle.sq_schema.specs.declared.property.Kind.TheVariants.{Text, Integer, DateTime, YesNo}
use Rattle.sq_schema.specs.declared.property.Property.{Property}
use Rattle.sq_schema.specs.Bounds.{least_number, greatest_number, is_integer_value, least_moment, greatest_moment, is_moment_value}
use Rattle.sq_schema.specs.Laws.{NumbersReadBack, MomentsReadBack, MomentsAreWritten}
use Rattle.sq_schema.specs.Moments.{IsMoment, text_of_moment}
use Rattle.sq_model.specs.declared.corpus.Content.{Content}
use Rattle.sq_model.specs.declared.corpus.Content.TheVariants.{Words, Number, Moment, Flag}
use Rattle.sq_model.specs.declared.corpus.Value.{Value}
use Rattle.sq_model.specs.Passages.{contents}
use Rattle.sq_model.specs.Shown.{shown_text}
use Rattle.sq_model.specs.Valid.{has_kind, is_content_of, is_value}
use Rattle.sq_holding.specs.Told.{number_read, moment_read, content_of_kind, content_under, value_told}

pub left_true : (a b : Bool) → (a && b) ≡ true → a ≡ true
left_true true b h = refl
left_true false b h = h

pub right_true : (a b : Bool) → (a && b) ≡ true → b ≡ true
right_true true b h = h
right_true false b h = absurd (grind arith)

-- ---- one content

integer_fits : (n : ℤ) → is_integer_value n ≡ true → FitsSigned w64 n
integer_fits n h =
    let above : int_le least_number n ≡ true = left_true (int_le least_number n) (int_le n greatest_number) h in
    let below : int_le n greatest_number ≡ true = right_true (int_le least_number n) (int_le n greatest_number) h in
    grind (arith, ints, above, below)

moment_lies : (n : ℤ) → is_moment_value n ≡ true → IsMoment n
moment_lies n h =
    let above : int_le least_moment n ≡ true = left_true (int_le least_moment n) (int_le n greatest_moment) h in
    let below : int_le n greatest_moment ≡ true = right_true (int_le least_moment n) (int_le n greatest_moment) h in
    (grind (arith, ints, above), grind (arith, ints, below))

module _ (numbers : NumbersReadBack) (moments : MomentsReadBack) (written : MomentsAreWritten) where
  of_kind : (kind : Kind) (content : Content) → has_kind kind content ≡ true → content_of_kind kind (shown_text content) ≡ content
  of_kind Text (Words text) h = refl
  of_kind Integer (Number n) h = ap (λ r. Number (number_read r)) (numbers n (integer_fits n h))
  of_kind DateTime (Moment n) h = ap (λ o. Moment (moment_read o)) (moments n (text_of_moment n) (moment_lies n h) (written n (moment_lies n h)))
  of_kind YesNo (Flag true) h = refl
  of_kind YesNo (Flag false) h = refl
  of_kind Text (Number n) h = absurd (grind arith)
  of_kind Text (Moment n) h = absurd (grind arith)
  of_kind Text (Flag b) h = absurd (grind arith)
  of_kind Integer (Words text) h = absurd (grind arith)
  of_kind Integer (Moment n) h = absurd (grind arith)
  of_kind Integer (Flag b) h = absurd (grind arith)
  of_kind DateTime (Words text) h = absurd (grind arith)
  of_kind DateTime (Number n) h = absurd (grind arith)
  of_kind DateTime (Flag b) h = absurd (grind arith)
  of_kind YesNo (Words text) h = absurd (grind arith)
  of_kind YesNo (Number n) h = absurd (grind arith)
  of_kind YesNo (Moment n) h = absurd (grind arith)

  of_row : (row : Option Property) (content : Content) → is_content_of row content ≡ true → content_under row (shown_text content) ≡ content
  of_row None content h = absurd (grind arith)
  of_row (Some row) content h = of_kind row.kind content h

  -- ---- the contents of a property

  module _ (schema : List Property) (property : ℕ) where
    pub contents_back : (values : List Value) → list_all (is_value schema) values ≡ true
        → map (content_under (slice_get schema property)) (map shown_text (contents values property)) ≡ contents values property
    contents_back [] h = refl
    contents_back (value ∷ values) h =
        at (value.property == property) here (contents_back values (right_true (is_value schema value) (list_all (is_value schema) values) h))
      where
        here : (value.property == property) ≡ true → content_under (slice_get schema property) (shown_text value.content) ≡ value.content
        here e =
            let same : value.property ≡ property = grind (arith, nat_tests, e) in
            of_row (slice_get schema property) value.content
            (subst (λ p. is_content_of (slice_get schema p) value.content ≡ true) same (left_true (is_value schema value) (list_all (is_value schema) values) h))

        at : (b : Bool) → (b ≡ true → content_under (slice_get schema property) (shown_text value.content) ≡ value.content)
            → map (content_under (slice_get schema property)) (map shown_text (contents values property)) ≡ contents values property
            → map (content_under (slice_get schema property)) (map shown_text (map (λ v. v.content) (cond b (value ∷ filter (λ v. v.property == property) values) (filter (λ v. v.property == property) values))))
            ≡ map (λ v. v.content) (cond b (value ∷ filter (λ v. v.property == property) values) (filter (λ v. v.property == property) values))
        at true first more = ap₂ (λ c cs. c ∷ cs) (first refl) more
        at false first more = more

-- there are none of a property that isn't of the schema
pub none_past : (schema : List Property) (property : ℕ) (values : List Value) → length schema ≤ property → list_all (is_value schema) values ≡ true
    → contents values property ≡ []
none_past schema property [] l h = refl
none_past schema property (value ∷ values) l h =
    at (value.property == property) other (none_past schema property values l (right_true (is_value schema value) (list_all (is_value schema) values) h))
  where
    other : (value.property == property) ≡ true → ⊥
    other e =
        let same : value.property ≡ property = grind (arith, nat_tests, e) in
        let none : slice_get schema value.property ≡ None = slice_get_past schema value.property (omega (arith, same, l)) in
        let is : is_content_of (slice_get schema value.property) value.content ≡ true = left_true (is_value schema value) (list_all (is_value schema) values) h in
        let wrong : is_content_of None value.content ≡ true = subst (λ row. is_content_of row value.content ≡ true) none is in
        grind arith

    at : (b : Bool) → (b ≡ true → ⊥) → contents values property ≡ []
        → map (λ v. v.content) (cond b (value ∷ filter (λ v. v.property == property) values) (filter (λ v. v.property == property) values)) ≡ []
    at true never more = absurd (never refl)
    at false never more = more

-- ---- the contents of values property by property

contents-append : (xs ys : List Value) (property : ℕ) → contents (xs ++ ys) property ≡ contents xs property ++ contents ys property
contents-append xs ys property =
    ap (map (λ value. value.content)) (filter-append (λ value. value.property == property) xs ys)
    ∙ map-append (λ value. value.content) (filter (λ value. value.property == property) xs) (filter (λ value. value.property == property) ys)

same_test : (a : ℕ) → (a == a) ≡ true
same_test a = grind (arith, nat_tests)

lower_test : (a b : ℕ) → a < b → (a == b) ≡ false
lower_test a b l = grind (arith, nat_tests)

higher_test : (a b : ℕ) → b < a → (a == b) ≡ false
higher_test a b l = grind (arith, nat_tests)

module _ (schema : List Property) where
  own : (property : ℕ) (texts : List (List ℕ)) → contents (map (value_told schema property) texts) property ≡ map (content_under (slice_get schema property)) texts
  own property [] = refl
  own property (text ∷ texts) = rw (same_test property) (ap (λ cs. content_under (slice_get schema property) text ∷ cs) (own property texts))

  another : (property other : ℕ) (texts : List (List ℕ)) → (other == property) ≡ false → contents (map (value_told schema other) texts) property ≡ []
  another property other [] apart = refl
  another property other (text ∷ texts) apart = rw apart (another property other texts apart)

  module _ (texts : ℕ → List (List ℕ)) where
    abbrev told_of : ℕ → List Value
    told_of property = map (value_told schema property) (texts property)

    none_above : (property a n : ℕ) → property < a → contents (flat_map told_of (range_with_len a n)) property ≡ []
    none_above property a zero l = refl
    none_above property a (suc n) l =
        contents-append (told_of a) (flat_map told_of (range_with_len (a + 1) n)) property
        ∙ ap₂ (λ xs ys. xs ++ ys) (another property a (texts a) (higher_test a property l)) (none_above property (a + 1) n (omega (arith, l)))

    pub none_below : (property a n : ℕ) → a + n ≤ property → contents (flat_map told_of (range_with_len a n)) property ≡ []
    none_below property a zero l = refl
    none_below property a (suc n) l =
        contents-append (told_of a) (flat_map told_of (range_with_len (a + 1) n)) property
        ∙ ap₂ (λ xs ys. xs ++ ys) (another property a (texts a) (lower_test a property (omega (arith, l)))) (none_below property (a + 1) n (omega (arith, l)))

    pub contents_told : (property a n : ℕ) → a ≤ property → property < a + n
        → contents (flat_map told_of (range_with_len a n)) property ≡ map (content_under (slice_get schema property)) (texts property)
    contents_told property a zero low high = absurd (omega (arith, low, high))
    contents_told property a (suc n) low high =
        contents-append (told_of a) (flat_map told_of (range_with_len (a + 1) n)) property
        ∙ at (λ behind. contents_told property (a + 1) n (omega (arith, behind)) (omega (arith, high))) (cases_lt a property)
      where
        at : (a < property → contents (flat_map told_of (range_with_len (a + 1) n)) property ≡ map (content_under (slice_get schema property)) (texts property))
            → (a < property) ⊎ (property ≤ a)
            → contents (told_of a) property ++ contents (flat_map told_of (range_with_len (a + 1) n)) property ≡ map (content_under (slice_get schema property)) (texts property)
        at more (inl behind) = ap₂ (λ xs ys. xs ++ ys) (another property a (texts a) (lower_test a property behind)) (more behind)
        at more (inr before) =
            let same : a ≡ property = omega (arith, low, before) in
            ap (λ p. contents (told_of p) property ++ contents (flat_map told_of (range_with_len (a + 1) n)) property) same
            ∙ ap₂ (λ xs ys. xs ++ ys) (own property (texts property)) (none_above property (a + 1) n (omega (arith, same)))
            ∙ append-nil (map (content_under (slice_get schema property)) (texts property))
