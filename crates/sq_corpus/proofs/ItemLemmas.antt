-- Where the lines of the items lead.
use Rattle.std.proofs.Common.{◌≡◌, ◌⊎◌, inl, inr, ℕ, suc, ◌+◌, ◌<◌, ◌≤◌, nat_le, nat_lt, Bool, true, false, cond, not, ◌&&◌, ◌||◌, ◌==◌, List, [], ◌∷◌, ◌++◌, append_assoc, append-nil, map, filter, length, length-append, refl, ap, sym, subst, ◌∙◌, arith, position, slice_get, Option, Some, None, option_map, option_to_list, Result, Ok, Err, ℤ, pos, neg_ℤ, int_le, unsigned_abs}
use Rattle.std.specs.Prelude.{codes}
use Rattle.std.specs.Fmt.{signed_decimal}
use Rattle.std.specs.List.{list_all, flat_map}
use Rattle.std.proofs.lemmas.Bool.Decides.{nat_tests}
use Rattle.std.proofs.lemmas.Int.{ints}
use Rattle.std.proofs.lemmas.List.Concat.{flat_map-cons}
use Rattle.std.proofs.lemmas.List.Elements.{filter-append}
use Rattle.sq_schema.specs.declared.property.Property.{Property}
use Rattle.sq_schema.specs.Laws.{NamesFindRows, NumbersReadBack, MomentsAreWritten, MomentsReadBack}
use Rattle.sq_schema.specs.Properties.{IsSchema, is_sound, has_name}
use Rattle.sq_model.specs.declared.corpus.Caller.{Caller}
use Rattle.sq_model.specs.declared.corpus.Content.{Content}
use Rattle.sq_model.specs.declared.corpus.Item.{Item}
use Rattle.sq_model.specs.declared.corpus.Value.{Value}
use Rattle.sq_model.specs.Shown.{shown_text}
use Rattle.sq_model.specs.Valid.{is_name, is_claim_list, is_from_to, is_value, is_content_of, has_kind, count_of, has_few, is_item, are_rising}
use Rattle.sq_corpus.specs.declared.before.Before.{Before}
use Rattle.sq_corpus.specs.declared.before.Stage.{Stage}
use Rattle.sq_corpus.specs.declared.before.Stage.TheVariants.{BeforeAllow, BeforeDeny, InValues}
use Rattle.sq_corpus.specs.declared.words.LineKind.TheVariants.{ItemHead}
use Rattle.sq_corpus.specs.CorpusText.{may_end}
use Rattle.sq_corpus.specs.Escapes.{text_of}
use Rattle.sq_corpus.specs.Lines.{may_stand, number_from_to, item_number, rank_of, is_above, item_of, with_url, with_item, list_fault, allowing, denying, if_faultless, with_allow, with_deny, content_of, value_of, holding, with_content, with_value_of, with_value, with_known, with_fields}
use Rattle.sq_corpus.specs.Laws.{in_rows}
use Rattle.sq_corpus.specs.Words.{line_kind}
use Rattle.sq_corpus.specs.Written.{line, is_at, values_from, spelled, value_line, row_lines, item_line, item_text}
use Rattle.sq_corpus.proofs.CleanLemmas.{both_true, left_true, right_true}
use Rattle.sq_corpus.proofs.SoundLemmas.{by_le, count_more, number_of_item}
use Rattle.sq_corpus.proofs.ValidLemmas.{Parts, parts}
use Rattle.sq_corpus.proofs.SpelledLemmas.{row_name_plain, bare_plain, spelled_plain, spelled_back}
use Rattle.sq_corpus.proofs.BackLemmas.{Back, content_back, number_back}
use Rattle.sq_corpus.proofs.LeadLemmas.{Leads, leads_nil, leads_then, leads_along, leads_so, leads_line, word_plain, state}
use Rattle.sq_corpus.proofs.RowLemmas.{not_le, good_row, sound_name, claims_plain, chosen, not_true}

-- an item that is being read, with these values so far
abbrev pub with_values : Item → List Value → Item
with_values item values = record item { values = values }

abbrev pub reading : List Property → List Caller → List Item → Item → Before
reading rows callers items item = state InValues rows callers items (Some item)

-- Values.

not_at : (t u : Bool) → (t ≡ true) ⊎ (u ≡ false) → (not t && u) ≡ false
not_at true u e = refl
not_at false true (inl e) = cc
not_at false true (inr e) = cc
not_at false false e = refl

pub two_pass : (a b : ℕ) (s t : Bool) (x : Result Before ℕ) → s ≡ false → t ≡ false → cond s (Err a) (cond t (Err b) x) ≡ x
two_pass a b true t x p q = cc
two_pass a b false true x p q = cc
two_pass a b false false x p q = refl

-- there is room for so many more values of the property
pub record Fits (values : List Value) (row : Property) (property more : ℕ) : Type 0 where
  pub few : count_of values property + more ≤ 1_000
  pub alone : (row.multi ≡ true) ⊎ (count_of values property + more ≤ 1)

or_cases : (t : Bool) (n : ℕ) → (t || nat_le n 1) ≡ true → (t ≡ true) ⊎ (n ≤ 1)
or_cases true n e = inl refl
or_cases false n e = inr (by_le n 1 e)

fits_none : (earlier values : List Value) (row : Property) (at : ℕ) → count_of earlier at ≡ 0
    → (nat_le (count_of values at) 1_000 && (row.multi || nat_le (count_of values at) 1)) ≡ true → Fits earlier row at (count_of values at)
fits_none earlier values row at none counts =
    let few = by_le (count_of values at) 1_000 (left_true (nat_le (count_of values at) 1_000) (row.multi || nat_le (count_of values at) 1) counts) in
    let alone = or_cases row.multi (count_of values at) (right_true (nat_le (count_of values at) 1_000) (row.multi || nat_le (count_of values at) 1) counts) in
    record {
      few = omega (arith, none, few);
      alone = elim alone [ inl multi ↦ inl multi | inr one ↦ inr (omega (arith, none, one)) ];
    }

one_more : (t : Bool) (k : ℕ) → t ≡ true → k + cond t 1 0 ≡ k + 1
one_more true k e = refl
one_more false k e = cc

fits_more : (earlier : List Value) (value : Value) (row : Property) (at more : ℕ) → (value.property == at) ≡ true → Fits earlier row at (suc more)
    → Fits (earlier ++ value ∷ []) row at more
fits_more earlier value row at more is fits =
    let counted : count_of (earlier ++ value ∷ []) at ≡ count_of earlier at + 1 =
    count_more earlier value at ∙ one_more (value.property == at) (count_of earlier at) is in
    record {
      few = omega (arith, counted, fits.few);
      alone = elim fits.alone [ inl multi ↦ inl multi | inr one ↦ inr (omega (arith, counted, one)) ];
    }

kept_one : (t : Bool) (test : Value → Bool) (value : Value) (others : List Value) → test value ≡ t → list_all test others ≡ true
    → list_all test (cond t (value ∷ others) others) ≡ true
kept_one true test value others is good = both_true _ _ is good
kept_one false test value others is good = good

all_kept : (at : ℕ) (values : List Value) → list_all (is_at at) (filter (is_at at) values) ≡ true
all_kept at [] = refl
all_kept at (value ∷ values) = kept_one (is_at at value) (is_at at) value (filter (is_at at) values) refl (all_kept at values)

kept_good : (t : Bool) (test : Value → Bool) (value : Value) (others : List Value) → test value ≡ true → list_all test others ≡ true
    → list_all test (cond t (value ∷ others) others) ≡ true
kept_good true test value others is good = both_true _ _ is good
kept_good false test value others is good = good

all_filter : (test which : Value → Bool) (values : List Value) → list_all test values ≡ true → list_all test (filter which values) ≡ true
all_filter test which [] good = refl
all_filter test which (value ∷ values) good =
    kept_good (which value) test value (filter which values) (left_true (test value) (list_all test values) good)
    (all_filter test which values (right_true (test value) (list_all test values) good))

other_at : (t u : Bool) (value : Value) (at k : ℕ) (others : List Value) → (value.property == at) ≡ t → (value.property == k) ≡ u → (at ≡ k → ⊥)
    → filter (is_at k) others ≡ [] → filter (is_at k) (cond t (value ∷ others) others) ≡ []
other_at true true value at k others is other apart none = absurd (apart (grind (arith, nat_tests, is, other)))
other_at true false value at k others is other apart none = ap (λ t. cond t (value ∷ filter (is_at k) others) (filter (is_at k) others)) other ∙ none
other_at false u value at k others is other apart none = none

pub none_of_other : (values : List Value) (at k : ℕ) → (at ≡ k → ⊥) → filter (is_at k) (filter (is_at at) values) ≡ []
none_of_other [] at k apart = refl
none_of_other (value ∷ values) at k apart =
    other_at (is_at at value) (is_at k value) value at k (filter (is_at at) values) refl refl apart (none_of_other values at k apart)

none_more : (earlier values : List Value) (at k : ℕ) → at < k → count_of earlier k ≡ 0 → count_of (earlier ++ filter (is_at at) values) k ≡ 0
none_more earlier values at k later none =
    let other : filter (is_at k) (filter (is_at at) values) ≡ [] = none_of_other values at k (λ is. omega (arith, later, is)) in
    let sum : count_of (earlier ++ filter (is_at at) values) k ≡ count_of earlier k + length (filter (is_at k) (filter (is_at at) values)) =
    ap length (filter-append (is_at k) earlier (filter (is_at at) values)) ∙ length-append (filter (is_at k) earlier) (filter (is_at k) (filter (is_at at) values)) in
    omega (arith, sum, none, ap length other)

slice_seam : (front : List Property) (row : Property) (left : List Property) → slice_get (front ++ row ∷ left) (length front) ≡ Some row
slice_seam [] row left = refl
slice_seam (x ∷ front) row left = slice_seam front row left

-- The head of an item, and its access lists.

from_to_pass : (first last n : ℤ) (t : Bool) → is_from_to first last n ≡ t → t ≡ true → number_from_to first last (Ok n) ≡ Some n
unfolding number_from_to
from_to_pass first last n t test is = ap (λ b. cond b (Some n) None) (test ∙ is)

number_range : (n : ℕ) → nat_le 1 n ≡ true → nat_le n 4_294_967_294 ≡ true → is_from_to (pos 1) (pos 4_294_967_294) (pos n) ≡ true
number_range n low high =
    let first = by_le 1 n low in
    let last = by_le n 4_294_967_294 high in
    both_true (int_le (pos 1) (pos n)) (int_le (pos n) (pos 4_294_967_294)) (grind (arith, ints, first)) (grind (arith, ints, last))

list_pass : (claims : List (List ℕ)) → is_claim_list claims ≡ true → list_fault claims ≡ None
unfolding list_fault
list_pass claims good =
    let few = by_le (length claims) 64 (left_true (nat_le (length claims) 64) (list_all is_name claims) good) in
    both_pass 607 608 (not (list_all is_name claims)) (nat_lt 64 (length claims))
    (not_true (list_all is_name claims) (right_true (nat_le (length claims) 64) (list_all is_name claims) good)) (not_more 64 (length claims) few)
  where
    both_pass : (a b : ℕ) (s t : Bool) → s ≡ false → t ≡ false → cond s (Some a) (cond t (Some b) None) ≡ None
    both_pass a b true t p q = cc
    both_pass a b false true p q = cc
    both_pass a b false false p q = refl

    not_more : (a b : ℕ) → b ≤ a → nat_lt a b ≡ false
    not_more a b h = grind (arith, nat_tests, h)

allow_leads : (rows : List Property) (callers : List Caller) (items : List Item) (item : Item) (claims : List (List ℕ)) → is_claim_list claims ≡ true
    → Leads (state BeforeAllow rows callers items (Some item)) (line (codes "allow") claims) (state BeforeDeny rows callers items (Some (allowing claims item)))
unfolding with_fields line_kind with_known with_allow
allow_leads rows callers items item claims good =
    leads_line (state BeforeAllow rows callers items (Some item)) (codes "allow") claims (state BeforeDeny rows callers items (Some (allowing claims item)))
    (word_plain (codes "allow") refl) (claims_plain claims (right_true (nat_le (length claims) 64) (list_all is_name claims) good))
    (ap (λ fault. if_faultless fault (state BeforeDeny rows callers items (Some (allowing claims item)))) (list_pass claims good))

deny_leads : (rows : List Property) (callers : List Caller) (items : List Item) (item : Item) (claims : List (List ℕ)) → is_claim_list claims ≡ true
    → Leads (state BeforeDeny rows callers items (Some item)) (line (codes "deny") claims) (state InValues rows callers items (Some (denying claims item)))
unfolding with_fields line_kind with_known with_deny
deny_leads rows callers items item claims good =
    leads_line (state BeforeDeny rows callers items (Some item)) (codes "deny") claims (state InValues rows callers items (Some (denying claims item)))
    (word_plain (codes "deny") refl) (claims_plain claims (right_true (nat_le (length claims) 64) (list_all is_name claims) good))
    (ap (λ fault. if_faultless fault (state InValues rows callers items (Some (denying claims item)))) (list_pass claims good))

not_chosen : (t : Bool) (a b : Result Before ℕ) → t ≡ false → cond t a b ≡ b
not_chosen true a b e = cc
not_chosen false a b e = refl

-- the numbers rise behind the last item that was read
abbrev pub rise_behind : Option Item → List Item → Bool
rise_behind None items = are_rising (map number_of_item items)
rise_behind (Some last) items = are_rising (last.number ∷ map number_of_item items)

above_last : (last : Option Item) (item : Item) (rest : List Item) → rise_behind last (item ∷ rest) ≡ true → is_above last item.number ≡ true
above_last None item rest rising = refl
above_last (Some other) item rest rising = left_true (nat_lt other.number item.number) (are_rising (item.number ∷ map number_of_item rest)) rising

rise_on : (last : Option Item) (item : Item) (rest : List Item) → rise_behind last (item ∷ rest) ≡ true → are_rising (item.number ∷ map number_of_item rest) ≡ true
rise_on None item rest rising = rising
rise_on (Some other) item rest rising = right_true (nat_lt other.number item.number) (are_rising (item.number ∷ map number_of_item rest)) rising

module _ (names : NamesFindRows) (numbers : NumbersReadBack) (texts : MomentsAreWritten) (moments : MomentsReadBack) (rows : List Property) (callers : List Caller) (schema : IsSchema rows) where
  value_taken : (items : List Item) (item : Item) (at : ℕ) (row : Property) (content : Content) (field : List ℕ) (more : ℕ)
      → slice_get rows at ≡ Some row → Fits item.values row at (suc more) → content_of row.kind field ≡ Ok content
      → with_value (reading rows callers items item) (position (has_name row.name) rows) field
      ≡ Ok (reading rows callers items (holding (value_of at content) item))
  unfolding with_value with_value_of with_content
  value_taken items item at row content field more here fits reads =
      let before : Before = reading rows callers items item in
      let none : (row.multi ≡ true) ⊎ (nat_lt 0 (count_of item.values at) ≡ false) = elim fits.alone [
        | inl multi ↦ inl multi
        | inr few ↦ inr (grind (arith, nat_tests, few))
      ] in
      let room : nat_le 1_000 (count_of item.values at) ≡ false = not_le 1_000 (count_of item.values at) (omega (arith, fits.few)) in
      ap (λ place. with_value before place field) (names rows at row schema here)
      ∙ ap (λ found. with_value_of before at found field) here
      ∙ ap (λ o. with_content before at row.multi (count_of item.values at) o) reads
      ∙ two_pass 605 608 (not row.multi && nat_lt 0 (count_of item.values at)) (nat_le 1_000 (count_of item.values at))
      (Ok (reading rows callers items (holding (value_of at content) item))) (not_at row.multi (nat_lt 0 (count_of item.values at)) none) room

  value_leads : (items : List Item) (item : Item) (at : ℕ) (row : Property) (value : Value) (more : ℕ)
      → slice_get rows at ≡ Some row → is_sound row ≡ true → Fits item.values row at (suc more) → value.property ≡ at → has_kind row.kind value.content ≡ true
      → Leads (reading rows callers items item) (value_line row.name value) (reading rows callers items (holding value item))
  unfolding with_fields line_kind with_known
  value_leads items item at row value more here sound fits of good =
      let field : List ℕ = spelled (shown_text value.content) in
      let back : Back row.kind value.content = content_back numbers texts moments row.kind value.content good in
      let same : value_of at value.content ≡ value = ap (λ p. value_of p value.content) (sym of) in
      let after : Before = reading rows callers items (holding value item) in
      leads_line (reading rows callers items item) (codes "value") (row.name ∷ (field ∷ [])) after (word_plain (codes "value") refl)
      (row_name_plain row.name (sound_name row sound), (back.plain, tt))
      (value_taken items item at row value.content field more here fits back.reads
      ∙ ap (λ v. Ok (reading rows callers items (holding v item))) same)

  -- the values of one property
  values_lead : (items : List Item) (item : Item) (at : ℕ) (row : Property) (values : List Value)
      → slice_get rows at ≡ Some row → is_sound row ≡ true → Fits item.values row at (length values)
      → list_all (is_at at) values ≡ true → list_all (is_value rows) values ≡ true
      → Leads (reading rows callers items item) (flat_map (value_line row.name) values) (reading rows callers items (with_values item (item.values ++ values)))
  values_lead items item at row [] here sound fits of good =
      leads_so (reading rows callers items item) (reading rows callers items item) (reading rows callers items (with_values item (item.values ++ []))) []
      (ap (λ vs. reading rows callers items (with_values item vs)) (sym (append-nil item.values))) (leads_nil (reading rows callers items item))
  values_lead items item at row (value ∷ values) here sound fits of good =
      let first_line : List ℕ = value_line row.name value in
      let other_lines : List ℕ = flat_map (value_line row.name) values in
      let first : (value.property == at) ≡ true = left_true (is_at at value) (list_all (is_at at) values) of in
      let place : value.property ≡ at = grind (arith, nat_tests, first) in
      let kind : has_kind row.kind value.content ≡ true =
      kind_of_row row value (ap (slice_get rows) place ∙ here) (left_true (is_value rows value) (list_all (is_value rows) values) good) in
      let regrouped : (item.values ++ value ∷ []) ++ values ≡ item.values ++ value ∷ values = append_assoc item.values (value ∷ []) values in
      let start : Before = reading rows callers items item in
      let middle : Before = reading rows callers items (holding value item) in
      let after : Before = reading rows callers items (with_values item ((item.values ++ value ∷ []) ++ values)) in
      leads_so start after (reading rows callers items (with_values item (item.values ++ value ∷ values))) (flat_map (value_line row.name) (value ∷ values))
      (ap (λ vs. reading rows callers items (with_values item vs)) regrouped)
      (leads_along start after (first_line ++ other_lines) (flat_map (value_line row.name) (value ∷ values)) (flat_map-cons (value_line row.name) value values)
      (leads_then start middle after first_line other_lines
      (value_leads items item at row value (length values) here sound fits place kind)
      (values_lead items (holding value item) at row values here sound (fits_more item.values value row at (length values) first fits)
      (right_true (is_at at value) (list_all (is_at at) values) of) (right_true (is_value rows value) (list_all (is_value rows) values) good))))
    where
      kind_of_row : (row : Property) (value : Value) → slice_get rows value.property ≡ Some row → is_value rows value ≡ true → has_kind row.kind value.content ≡ true
      kind_of_row row value here good = let P : Option Property → Type 0 = λ o. is_content_of o value.content ≡ true in subst P here good

  -- the values of the rows from one on
  rows_values_lead : (items : List Item) (item : Item) (values : List Value) (front left : List Property) (at : ℕ)
      → rows ≡ front ++ left → length front ≡ at → ((k : ℕ) → at ≤ k → count_of item.values k ≡ 0)
      → has_few values at left ≡ true → list_all (is_value rows) values ≡ true
      → Leads (reading rows callers items item) (row_lines values at left) (reading rows callers items (with_values item (item.values ++ values_from values at left)))
  rows_values_lead items item values front [] at whole place none few good =
      leads_so (reading rows callers items item) (reading rows callers items item) (reading rows callers items (with_values item (item.values ++ []))) []
      (ap (λ vs. reading rows callers items (with_values item vs)) (sym (append-nil item.values))) (leads_nil (reading rows callers items item))
  rows_values_lead items item values front (row ∷ left) at whole place none few good =
      let those : List Value = filter (is_at at) values in
      let here : slice_get rows at ≡ Some row =
      ap (slice_get rows) (sym place) ∙ ap (λ all. slice_get all (length front)) whole ∙ slice_seam front row left in
      let P : List Property → Type 0 = λ all. IsSchema all in
      let sound = (good_row front row left (subst P whole schema)).sound in
      let counts = left_true (nat_le (count_of values at) 1_000 && (row.multi || nat_le (count_of values at) 1)) (has_few values (at + 1) left) few in
      let fits : Fits item.values row at (length those) = fits_none item.values values row at (none at (omega arith)) counts in
      let middle_item : Item = with_values item (item.values ++ those) in
      let start : Before = reading rows callers items item in
      let middle : Before = reading rows callers items middle_item in
      let after : Before = reading rows callers items (with_values item ((item.values ++ those) ++ values_from values (at + 1) left)) in
      leads_so start after (reading rows callers items (with_values item (item.values ++ values_from values at (row ∷ left)))) (row_lines values at (row ∷ left))
      (ap (λ vs. reading rows callers items (with_values item vs)) (append_assoc item.values those (values_from values (at + 1) left)))
      (leads_then start middle after (flat_map (value_line row.name) those) (row_lines values (at + 1) left)
      (values_lead items item at row those here sound fits (all_kept at values) (all_filter (is_value rows) (is_at at) values good))
      (rows_values_lead items middle_item values (front ++ row ∷ []) left (at + 1)
      (whole ∙ sym (append_assoc front (row ∷ []) left)) (length-append front (row ∷ []) ∙ ap (λ n. n + 1) place)
      (λ k later. none_more item.values values at k (omega (arith, later)) (none k (omega (arith, later))))
      (right_true (nat_le (count_of values at) 1_000 && (row.multi || nat_le (count_of values at) 1)) (has_few values (at + 1) left) few) good))

  head_leads : (stage : Stage) (items : List Item) (last : Option Item) (item : Item) → may_stand stage ItemHead ≡ true → Parts rows item
      → is_above last item.number ≡ true → length (items ++ option_to_list last) < 1_000_000
      → Leads (state stage rows callers items last) (item_line item)
      (state BeforeAllow rows callers (items ++ option_to_list last) (Some (item_of item.number item.rank item.url)))
  unfolding with_fields line_kind with_known with_item with_url
  head_leads stage items last item stands good above room =
      let before : Before = state stage rows callers items last in
      let after : Before = state BeforeAllow rows callers (items ++ option_to_list last) (Some (item_of item.number item.rank item.url)) in
      let number = number_back numbers texts moments (pos 1) (pos 4_294_967_294) (pos item.number) (grind (arith, ints)) (grind (arith, ints))
      (number_range item.number good.low good.high) in
      let rank = number_back numbers texts moments (neg_ℤ (pos 1_000_000_000)) (pos 1_000_000_000) item.rank (grind (arith, ints)) (grind (arith, ints)) good.rank in
      let is_number : item_number (signed_decimal (pos item.number)) ≡ Some item.number =
      ap (λ o. option_map unsigned_abs (number_from_to (pos 1) (pos 4_294_967_294) o)) number.1
      ∙ ap (option_map unsigned_abs) (from_to_pass (pos 1) (pos 4_294_967_294) (pos item.number) true (number_range item.number good.low good.high) refl) in
      let is_rank : rank_of (signed_decimal item.rank) ≡ Some item.rank =
      ap (number_from_to (neg_ℤ (pos 1_000_000_000)) (pos 1_000_000_000)) rank.1
      ∙ from_to_pass (neg_ℤ (pos 1_000_000_000)) (pos 1_000_000_000) item.rank true good.rank refl in
      leads_line before (codes "item") (signed_decimal (pos item.number) ∷ (signed_decimal item.rank ∷ (spelled item.url ∷ []))) after
      (word_plain (codes "item") refl) (bare_plain (signed_decimal (pos item.number)) number.0, (bare_plain (signed_decimal item.rank) rank.0, (spelled_plain item.url good.url, tt)))
      (chosen (may_stand stage ItemHead)
      (with_item before (item_number (signed_decimal (pos item.number))) (rank_of (signed_decimal item.rank)) (text_of (spelled item.url))) (Err 602) stands
      ∙ ap (λ n. with_item before n (rank_of (signed_decimal item.rank)) (text_of (spelled item.url))) is_number
      ∙ ap (λ r. with_item before (Some item.number) r (text_of (spelled item.url))) is_rank
      ∙ ap (λ u. with_item before (Some item.number) (Some item.rank) u) (spelled_back item.url good.url)
      ∙ chosen (is_above last item.number) (with_url before item.number item.rank (Some item.url)) (Err 606) above
      ∙ not_chosen (nat_le 1_000_000 (length (items ++ option_to_list last))) (Err 608) (Ok after)
      (not_le 1_000_000 (length (items ++ option_to_list last)) room))

  item_leads : (stage : Stage) (items : List Item) (last : Option Item) (item : Item) → may_stand stage ItemHead ≡ true
      → is_item rows item ≡ true → is_above last item.number ≡ true → length (items ++ option_to_list last) < 1_000_000
      → Leads (state stage rows callers items last) (item_text rows item) (reading rows callers (items ++ option_to_list last) (in_rows rows item))
  item_leads stage items last item stands good above room =
      let p = parts rows item good in
      let done : List Item = items ++ option_to_list last in
      let head : Item = item_of item.number item.rank item.url in
      let opened : Item = denying item.deny (allowing item.allow head) in
      let start : Before = state stage rows callers items last in
      let after : Before = reading rows callers done (in_rows rows item) in
      let values : List ℕ = row_lines item.values 0 rows in
      leads_then start (state BeforeAllow rows callers done (Some head)) after (item_line item)
      (line (codes "allow") item.allow ++ (line (codes "deny") item.deny ++ values))
      (head_leads stage items last item stands p above room)
      (leads_then (state BeforeAllow rows callers done (Some head)) (state BeforeDeny rows callers done (Some (allowing item.allow head))) after
      (line (codes "allow") item.allow) (line (codes "deny") item.deny ++ values)
      (allow_leads rows callers done head item.allow p.allow)
      (leads_then (state BeforeDeny rows callers done (Some (allowing item.allow head))) (reading rows callers done opened) after
      (line (codes "deny") item.deny) values
      (deny_leads rows callers done (allowing item.allow head) item.deny p.deny)
      (rows_values_lead done opened item.values [] rows 0 refl refl (λ k later. refl) p.few p.values)))

  -- where the lines of the items lead
  pub record AfterItems (stage : Stage) (items : List Item) (last : Option Item) (text : List ℕ) (all : List Item) : Type 0 where
    pub stage_then : Stage
    pub items_then : List Item
    pub last_then : Option Item
    pub ends : may_end stage_then ≡ true
    pub are : items_then ++ option_to_list last_then ≡ all
    pub leads : Leads (state stage rows callers items last) text (state stage_then rows callers items_then last_then)

  pub items_lead : (stage : Stage) (items : List Item) (last : Option Item) (rest : List Item) → may_stand stage ItemHead ≡ true
      → may_end stage ≡ true → list_all (is_item rows) rest ≡ true → rise_behind last rest ≡ true
      → length (items ++ option_to_list last) + length rest ≤ 1_000_000
      → AfterItems stage items last (flat_map (item_text rows) rest) ((items ++ option_to_list last) ++ map (in_rows rows) rest)
  items_lead stage items last [] stands ends good rising few = record {
    stage_then = stage;
    items_then = items;
    last_then = last;
    ends = ends;
    are = sym (append-nil (items ++ option_to_list last));
    leads = leads_nil (state stage rows callers items last);
  }
  items_lead stage items last (item ∷ rest) stands ends good rising few =
      let done : List Item = items ++ option_to_list last in
      let one : Item = in_rows rows item in
      let more : length (done ++ one ∷ []) ≡ length done + 1 = length-append done (one ∷ []) in
      let room : length done < 1_000_000 = omega (arith, few) in
      let behind = items_lead InValues done (Some one) rest refl refl (right_true (is_item rows item) (list_all (is_item rows) rest) good)
      (rise_on last item rest rising) (omega (arith, few, more)) in
      let start : Before = state stage rows callers items last in
      let after : Before = state behind.stage_then rows callers behind.items_then behind.last_then in
      record {
        stage_then = behind.stage_then;
        items_then = behind.items_then;
        last_then = behind.last_then;
        ends = behind.ends;
        are = behind.are ∙ append_assoc done (one ∷ []) (map (in_rows rows) rest);
        leads = leads_along start after (item_text rows item ++ flat_map (item_text rows) rest) (flat_map (item_text rows) (item ∷ rest))
            (flat_map-cons (item_text rows) item rest)
            (leads_then start (reading rows callers done one) after (item_text rows item) (flat_map (item_text rows) rest)
            (item_leads stage items last item stands (left_true (is_item rows item) (list_all (is_item rows) rest) good) (above_last last item rest rising) room)
            behind.leads);
      }
