-- The index of the parts of a valid corpus stands for the corpus.
use Rattle.std.proofs.Common.{◌≡◌, inl, inr, ℕ, zero, suc, ◌+◌, ◌/◌, ◌%◌, ◌<◌, ◌≤◌, ◌==◌, true, false, cond, true≢false, List, [], ◌∷◌, ◌++◌, length, map, filter, filter_map, get_or, refl, sym, ap, ap₂, subst, ◌∙◌, arith, slice_get, Option, Some, None}
use Rattle.std.specs.List.{AllPass, list_all, range_with_len}
use Rattle.std.proofs.lemmas.Bool.{cases_lt}
use Rattle.std.proofs.lemmas.Bool.Decides.{nat_tests}
use Rattle.std.proofs.lemmas.List.{get_or-map, get_or_past, length-map}
use Rattle.std.proofs.lemmas.List.FromFn.{get_or-map-range_with_len, length-map-range_with_len}
use Rattle.std.proofs.lemmas.List.Sums.{list_all-from_AllPass}
use Rattle.std.proofs.lemmas.Option.{slice_get_within}
use Rattle.sq_schema.specs.declared.property.Property.{Property}
use Rattle.sq_model.specs.declared.corpus.Value.{Value}
use Rattle.sq_model.specs.declared.corpus.Item.{Item}
use Rattle.sq_model.specs.declared.corpus.Corpus.{Corpus}
use Rattle.sq_model.specs.Passages.{passage_of, passages}
use Rattle.sq_model.specs.Valid.{IsValid, is_content_of, is_value, is_item}
use Rattle.sq_postings.specs.declared.parts.Parts.{Parts}
use Rattle.sq_postings.specs.declared.parts.Term.{Term}
use Rattle.sq_postings.specs.Indexed.{TermList, list_of, indexed, list_at, values_in, length_in}
use Rattle.sq_postings.specs.Kept.{is_term, IsKept}
use Rattle.sq_postings.specs.Occurrences.{passage_postings, postings_from, postings_of, numbers_from, values_at}
use Rattle.sq_postings.specs.Rising.{rises, length_before, pair_up_to}
use Rattle.sq_postings.specs.StandsFor.{shape_of, row_of, StandsFor}
use Rattle.sq_build.specs.AreParts.{AreParts}
use Rattle.sq_build.specs.Dictionary.{HasTerm, lengths_of_property, lengths_by_property}
use Rattle.sq_build.specs.Numbers.{numbers_of_property}
use Rattle.sq_build.proofs.LengthLemmas.{table_tells, lengths_rise}
use Rattle.sq_build.proofs.NumberLemmas.{by_property_rise}
use Rattle.sq_build.proofs.TestLemmas.{both_true, first_true, second_true}

-- ---- beyond the schema there is nothing

property_within : (schema : List Property) (value : Value) → is_value schema value ≡ true → value.property < length schema
property_within schema value p = at (slice_get schema value.property) refl p
  where
    at : (o : Option Property) → slice_get schema value.property ≡ o → is_content_of o value.content ≡ true → value.property < length schema
    at None e q = absurd (true≢false (sym q))
    at (Some row) e q = slice_get_within schema value.property row e

differ : (a b : ℕ) → a < b → (a == b) ≡ false
differ a b l = grind (arith, nat_tests)

values_of_item : (schema : List Property) (item : Item) → is_item schema item ≡ true → list_all (is_value schema) item.values ≡ true
values_of_item schema item h = first_of (search h, grind (arith, h))

module _ (schema : List Property) (property : ℕ) (past : length schema ≤ property) where
  no_passages : (values : List Value) → list_all (is_value schema) values ≡ true → passages values property ≡ []
  no_passages [] all = refl
  no_passages (value ∷ values) all =
      let within = property_within schema value (first_true (is_value schema value) (list_all (is_value schema) values) all) in
      ap (λ b. filter_map passage_of (map (λ v. v.content) (cond b (value ∷ filter (λ v. v.property == property) values) (filter (λ v. v.property == property) values))))
      (differ value.property property (omega (arith, within, past)))
      ∙ no_passages values (second_true (is_value schema value) (list_all (is_value schema) values) all)

  no_postings : (t : List ℕ) (row : ℕ) (items : List Item) → list_all (is_item schema) items ≡ true → postings_from row property t items ≡ []
  no_postings t row [] all = refl
  no_postings t row (item ∷ items) all =
      ap₂ (λ ps l. passage_postings row 0 t ps ++ l)
      (no_passages item.values (values_of_item schema item (first_true (is_item schema item) (list_all (is_item schema) items) all)))
      (no_postings t (row + 1) items (second_true (is_item schema item) (list_all (is_item schema) items) all))

  none_at : (items : List Item) (row : ℕ) → list_all (is_item schema) items ≡ true → passages (values_at items row) property ≡ []
  none_at [] row all = refl
  none_at (item ∷ items) zero all = no_passages item.values (values_of_item schema item (first_true (is_item schema item) (list_all (is_item schema) items) all))
  none_at (item ∷ items) (suc row) all = none_at items row (second_true (is_item schema item) (list_all (is_item schema) items) all)

-- ---- the tables of lengths rise

tables_rise : (items : List Item) (a n : ℕ) → list_all (rises length_before) (map (lengths_of_property items) (range_with_len a n)) ≡ true
tables_rise items a zero = refl
tables_rise items a (suc n) = both_true (rises length_before (lengths_of_property items a)) _ (lengths_rise 0 a items) (tables_rise items (a + 1) n)

-- ---- the index

abbrev no_term : Term
no_term = record { property = 0; token = []; list = 0 }

abbrev no_list : TermList
no_list = record { property = 0; token = []; postings = [] }

module _ (corpus : Corpus) (parts : Parts) (valid : IsValid corpus) (are : AreParts parts corpus) where
  many_shapes : length parts.shapes ≡ length corpus.schema
  many_shapes = ap length are.shapes ∙ length-map corpus.schema shape_of

  many_rows : length parts.rows ≡ length corpus.items
  many_rows = ap length are.rows ∙ length-map corpus.items row_of

  pub kept : IsKept parts
  kept = record {
    few_shapes = omega (arith, many_shapes, valid.schema.few);
    few_rows = omega (arith, many_rows, valid.few_items);
    few_terms = are.few;
    terms_rise = are.terms.rise;
    terms_stand =
        list_all-from_AllPass (is_term (length parts.shapes) (length parts.lists)) parts.terms
        (subst (λ n. AllPass (is_term n (length parts.lists)) parts.terms) (sym many_shapes) are.terms.stand);
    values_rise = ap (list_all (rises pair_up_to)) are.values ∙ by_property_rise (length corpus.schema) corpus.items;
    lengths_rise = ap (list_all (rises length_before)) are.lengths ∙ tables_rise corpus.items 0 (length corpus.schema);
    allow_rise = are.allow_kept;
    deny_rise = are.deny_kept;
  }

  many_lists : length (indexed parts).lists ≡ length parts.terms
  many_lists = length-map parts.terms (list_of parts.lists)

  there : (i : ℕ) → i < length parts.terms → list_at (indexed parts) i ≡ list_of parts.lists (get_or parts.terms i no_term)
  there i l = get_or-map (list_of parts.lists) parts.terms i no_term no_list l

  lists : (i : ℕ) → i < length (indexed parts).lists
      → (list_at (indexed parts) i).postings ≡ postings_of corpus.items (list_at (indexed parts) i).property (list_at (indexed parts) i).token
  lists i l =
      let m : i < length parts.terms = omega (arith, l, many_lists) in
      subst (λ (x : TermList). x.postings ≡ postings_of corpus.items x.property x.token) (sym (there i m)) (are.terms.postings i no_term m)

  in_list : (property : ℕ) (token : List ℕ) → HasTerm parts.terms property token
      → (i : ℕ) × (i < length (indexed parts).lists) × ((list_at (indexed parts) i).property ≡ property) × ((list_at (indexed parts) i).token ≡ token)
  in_list property token h = (
    h.0,
    omega (arith, h.1, many_lists),
    ap (λ (x : TermList). x.property) (there h.0 h.1) ∙ h.2 no_term,
    ap (λ (x : TermList). x.token) (there h.0 h.1) ∙ h.3 no_term,
  )

  values : (property : ℕ) → property < length corpus.schema → values_in (indexed parts) property ≡ numbers_from 0 property corpus.items
  values property l =
      let e : 0 + property ≡ property = omega arith in
      ap (λ v. get_or v property []) are.values ∙ get_or-map-range_with_len (numbers_of_property corpus.items) 0 (length corpus.schema) property property [] l e

  table : (row property ordinal : ℕ) → length_in (get_or parts.lengths property []) row ordinal ≡ length (get_or (passages (values_at corpus.items row) property) ordinal [])
  table row property ordinal =
      ap (λ tables. length_in (get_or tables property []) row ordinal) are.lengths
      ∙ elim (cases_lt property (length corpus.schema)) [
        | inl less ↦ (let e : 0 + property ≡ property = omega arith in
            ap (λ entries. length_in entries row ordinal)
            (get_or-map-range_with_len (lengths_of_property corpus.items) 0 (length corpus.schema) property property [] less e)
            ∙ table_tells property row ordinal corpus.items)
        | inr past ↦ (let l : length (lengths_by_property (length corpus.schema) corpus.items) ≤ property =
            omega (arith, past, length-map-range_with_len (lengths_of_property corpus.items) 0 (length corpus.schema)) in
            ap (λ entries. length_in entries row ordinal) (get_or_past (lengths_by_property (length corpus.schema) corpus.items) property [] l)
            ∙ sym (ap (λ ps. length (get_or ps ordinal [])) (none_at corpus.schema property past corpus.items row valid.items)))
      ]

  pub stands : StandsFor (indexed parts) corpus
  stands = record {
    shapes = are.shapes;
    rows = are.rows;
    lists = lists;
    whole = λ property token some. elim (cases_lt property (length corpus.schema)) [
      | inl less ↦ in_list property token (are.terms.whole property token less some)
      | inr past ↦ absurd (some (no_postings corpus.schema property past token 0 corpus.items valid.items))
    ];
    values = values;
    allow = are.allow;
    deny = are.deny;
    lengths = λ row part. table row (part / 1_000) (part % 1_000);
  }
