-- The passages of a property, value by value and item by item.
use Rattle.std.proofs.Common.{◌≡◌, ℕ, ◌+◌, ◌<◌, ◌≤◌, ◌==◌, Bool, true, false, cond, List, [], ◌∷◌, ◌++◌, length, map, drop, filter, filter_map, get_or, refl, sym, ap, ap₂, subst, ◌∙◌, arith, Option, Some, None, option_to_list, append_assoc}
use Rattle.std.specs.List.{AllPass, cons_option}
use Rattle.std.proofs.lemmas.List.{append-nil, drop_more, drop_all}
use Rattle.std.proofs.lemmas.List.Sums.{AllPass-from_list_all}
use Rattle.std.proofs.lemmas.Bool.Decides.{nat_tests}
use Rattle.sq_tokens.specs.Token.{text_tokens}
use Rattle.sq_coded.specs.declared.posting.Posting.{Posting}
use Rattle.sq_coded.specs.Coded.{comes_before, may_follow}
use Rattle.sq_model.specs.declared.corpus.Content.{Content}
use Rattle.sq_model.specs.declared.corpus.Content.TheVariants.{Words, Number, Moment, Flag}
use Rattle.sq_model.specs.declared.corpus.Value.{Value}
use Rattle.sq_model.specs.declared.corpus.Item.{Item}
use Rattle.sq_model.specs.Passages.{Passage, passage_of, passages}
use Rattle.sq_model.specs.Valid.{has_short_texts}
use Rattle.sq_postings.specs.declared.parts.Length.{Length}
use Rattle.sq_postings.specs.Occurrences.{posting, places_from, passage_postings, postings_from}
use Rattle.sq_build.specs.Lengths.{passage_lengths, lengths_from}
use Rattle.sq_build.specs.Words.{text_in, words_in, texts_in, passages_in, is_short_value}
use Rattle.sq_build.proofs.GatherLemmas.{follows_later}

-- ---- passages are the tokens of texts

passages_at : (b : Bool) (property : ℕ) (content : Content) (kept : List Value) (texts : List (List ℕ))
    → filter_map passage_of (map (λ value. value.content) kept) ≡ map text_tokens texts
    → filter_map passage_of (map (λ value. value.content) (cond b (record { property = property; content = content } ∷ kept) kept))
    ≡ map text_tokens (cons_option (cond b (text_in content) None) texts)
passages_at true property (Words text) kept texts same = ap (λ l. text_tokens text ∷ l) same
passages_at true property (Number n) kept texts same = same
passages_at true property (Moment n) kept texts same = same
passages_at true property (Flag b) kept texts same = same
passages_at false property content kept texts same = same

pub passages_texts : (values : List Value) (property : ℕ) → passages values property ≡ map text_tokens (texts_in values property)
passages_texts [] property = refl
passages_texts (value ∷ values) property =
    passages_at (value.property == property) value.property value.content (filter (λ value. value.property == property) values) (texts_in values property)
    (passages_texts values property)

-- ---- one value more

module _ (values : List Value) (i : ℕ) (value : Value) (property : ℕ) (l : i < length values) (is : value ≡ get_or values i value) where
  texts_at : texts_in (drop i values) property ≡ cons_option (words_in property value) (texts_in (drop (i + 1) values) property)
  texts_at = ap (filter_map (words_in property)) (drop_more values i value l ∙ ap (λ v. v ∷ drop (i + 1) values) (sym is))

  pub passages_step : passages_in property value ++ map text_tokens (texts_in (drop (i + 1) values) property) ≡ map text_tokens (texts_in (drop i values) property)
  passages_step = at (words_in property value) ∙ sym (ap (map text_tokens) texts_at)
    where
      at : (o : Option (List ℕ)) → map text_tokens (option_to_list o) ++ map text_tokens (texts_in (drop (i + 1) values) property)
          ≡ map text_tokens (cons_option o (texts_in (drop (i + 1) values) property))
      at None = refl
      at (Some text) = refl

-- no passage, and one
pub none_added : (property : ℕ) (value : Value) (rest : List Passage) → None ≡ words_in property value → rest ≡ passages_in property value ++ rest
none_added property value rest none = ap (λ o. map text_tokens (option_to_list o) ++ rest) none

one_in : (property : ℕ) (value : Value) (text : List ℕ) (rest : List Passage) → Some text ≡ words_in property value → text_tokens text ∷ rest ≡ passages_in property value ++ rest
one_in property value text rest some = ap (λ o. map text_tokens (option_to_list o) ++ rest) some

pub postings_added : (row ordinal next property : ℕ) (value : Value) (t text : List ℕ) (tokens : Passage) (now new : List Posting) (rest : List Passage)
    → Some text ≡ words_in property value → tokens ≡ text_tokens text → next ≡ ordinal + 1 → new ≡ now ++ map (posting row ordinal) (places_from 0 t tokens)
    → new ++ passage_postings row next t rest ≡ now ++ passage_postings row ordinal t (passages_in property value ++ rest)
postings_added row ordinal next property value t text tokens now new rest some read up grows =
    ap₂ (λ l o. l ++ passage_postings row o t rest) grows up
    ∙ append_assoc now (map (posting row ordinal) (places_from 0 t tokens)) (passage_postings row (ordinal + 1) t rest)
    ∙ ap (λ p. now ++ passage_postings row ordinal t (p ∷ rest)) read
    ∙ ap (λ l. now ++ passage_postings row ordinal t l) (one_in property value text rest some)

pub lengths_added : (row ordinal next property : ℕ) (value : Value) (text : List ℕ) (tokens : Passage) (now new : List Length) (rest : List Passage)
    → Some text ≡ words_in property value → tokens ≡ text_tokens text → next ≡ ordinal + 1
    → new ≡ now ++ record { row = row; ordinal = ordinal; tokens = length tokens } ∷ []
    → new ++ passage_lengths row next rest ≡ now ++ passage_lengths row ordinal (passages_in property value ++ rest)
lengths_added row ordinal next property value text tokens now new rest some read up grows =
    ap₂ (λ l o. l ++ passage_lengths row o rest) grows up
    ∙ append_assoc now (record { row = row; ordinal = ordinal; tokens = length tokens } ∷ []) (passage_lengths row (ordinal + 1) rest)
    ∙ ap (λ p. now ++ passage_lengths row ordinal (p ∷ rest)) read
    ∙ ap (λ l. now ++ passage_lengths row ordinal l) (one_in property value text rest some)

-- at the end of the values
pub postings_start : (row : ℕ) (t : List ℕ) (values : List Value) (property : ℕ) (now : List Posting)
    → now ++ passage_postings row 0 t (map text_tokens (texts_in values property)) ≡ now ++ passage_postings row 0 t (passages values property)
postings_start row t values property now = ap (λ l. now ++ passage_postings row 0 t l) (sym (passages_texts values property))

pub postings_end : (row ordinal i : ℕ) (t : List ℕ) (values : List Value) (property : ℕ) (now whole : List Posting) → length values ≤ i
    → now ++ passage_postings row ordinal t (map text_tokens (texts_in (drop i values) property)) ≡ whole → now ≡ whole
postings_end row ordinal i t values property now whole past held =
    sym (append-nil now) ∙ ap (λ l. now ++ passage_postings row ordinal t (map text_tokens (texts_in l property))) (sym (drop_all i values past)) ∙ held

pub lengths_end : (row ordinal i : ℕ) (values : List Value) (property : ℕ) (now whole : List Length) → length values ≤ i
    → now ++ passage_lengths row ordinal (map text_tokens (texts_in (drop i values) property)) ≡ whole → now ≡ whole
lengths_end row ordinal i values property now whole past held =
    sym (append-nil now) ∙ ap (λ l. now ++ passage_lengths row ordinal (map text_tokens (texts_in l property))) (sym (drop_all i values past)) ∙ held

row_before : (row ordinal place : ℕ) → comes_before (record { row = row; ordinal = ordinal; place = place }) (record { row = row + 1; ordinal = 0; place = 0 }) ≡ true
row_before row ordinal place = grind (arith, nat_tests)

pub follows_row : (row ordinal place : ℕ) (entries : List Posting) → may_follow entries (posting row ordinal place) ≡ true → may_follow entries (posting (row + 1) 0 0) ≡ true
follows_row row ordinal place entries p = follows_later entries (posting row ordinal place) (posting (row + 1) 0 0) p (row_before row ordinal place)

-- ---- one item more

pub short_item : (items : List Item) (i : ℕ) (item : Item) → AllPass has_short_texts items → i < length items → item ≡ get_or items i item → AllPass is_short_value item.values
short_item items i item all l is =
    AllPass-from_list_all is_short_value item.values (subst (λ x. has_short_texts x ≡ true) (sym is) (all i item l))

module _ (items : List Item) (i : ℕ) (item : Item) (property : ℕ) (l : i < length items) (is : item ≡ get_or items i item) where
  here : drop i items ≡ item ∷ drop (i + 1) items
  here = drop_more items i item l ∙ ap (λ x. x ∷ drop (i + 1) items) (sym is)

  pub item_postings : (t : List ℕ) (now new whole : List Posting) → new ≡ now ++ passage_postings i 0 t (passages item.values property)
      → now ++ postings_from i property t (drop i items) ≡ whole → new ++ postings_from (i + 1) property t (drop (i + 1) items) ≡ whole
  item_postings t now new whole grows held =
      ap (λ l. l ++ postings_from (i + 1) property t (drop (i + 1) items)) grows
      ∙ append_assoc now (passage_postings i 0 t (passages item.values property)) (postings_from (i + 1) property t (drop (i + 1) items))
      ∙ ap (λ l. now ++ postings_from i property t l) (sym here) ∙ held

  pub item_lengths : (now new whole : List Length) → new ≡ now ++ passage_lengths i 0 (passages item.values property)
      → now ++ lengths_from i property (drop i items) ≡ whole → new ++ lengths_from (i + 1) property (drop (i + 1) items) ≡ whole
  item_lengths now new whole grows held =
      ap (λ l. l ++ lengths_from (i + 1) property (drop (i + 1) items)) grows
      ∙ append_assoc now (passage_lengths i 0 (passages item.values property)) (lengths_from (i + 1) property (drop (i + 1) items))
      ∙ ap (λ l. now ++ lengths_from i property l) (sym here) ∙ held

pub items_end : (i property : ℕ) (t : List ℕ) (items : List Item) (now whole : List Posting) → length items ≤ i
    → now ++ postings_from i property t (drop i items) ≡ whole → now ≡ whole
items_end i property t items now whole past held =
    sym (append-nil now) ∙ ap (λ l. now ++ postings_from i property t l) (sym (drop_all i items past)) ∙ held

pub item_lengths_end : (i property : ℕ) (items : List Item) (now whole : List Length) → length items ≤ i
    → now ++ lengths_from i property (drop i items) ≡ whole → now ≡ whole
item_lengths_end i property items now whole past held =
    sym (append-nil now) ∙ ap (λ l. now ++ lengths_from i property l) (sym (drop_all i items past)) ∙ held
