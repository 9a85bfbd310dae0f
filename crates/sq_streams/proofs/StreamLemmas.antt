-- Lists of streams that grow, and streams of one or several parts.
use Rattle.std.proofs.Common.{◌≡◌, ◌⊎◌, inl, inr, ℕ, suc, ◌+◌, ◌-◌, ◌<◌, ◌≤◌, Bool, true, false, ◌&&◌, cond, List, [], ◌∷◌, ◌++◌, length, map, take, drop, get_or, refl, sym, ap, ◌∙◌, arith, length-append}
use Rattle.std.specs.Prelude.{◌==◌, sum_by, slice_get, flat_map, Some, None}
use Rattle.std.proofs.Math.ListN.{drop_of_length-le}
use Rattle.std.proofs.lemmas.Bool.Decides.{nat_tests}
use Rattle.std.proofs.lemmas.Grind.{flat_map-append}
use Rattle.std.proofs.lemmas.Option.{slice_get_cases, slice_get_within, get_or_from_slice_get}
use Rattle.std.proofs.lemmas.List.{append-nil, append_assoc, drop_more, map-append}
use Rattle.std.proofs.lemmas.List.Sums.{sum_by_push, sum_by-cons, sum_by-append}
use Rattle.sq_cursor.specs.declared.span.Span.{Span}
use Rattle.sq_cursor.specs.Entries.{entries_behind}
use Rattle.sq_cursor.specs.Spans.{are_ordered}
use Rattle.sq_model.specs.Lists.{is_empty}
use Rattle.sq_model.specs.declared.corpus.Corpus.{Corpus}
use Rattle.sq_model.specs.declared.fql.Look.{Look}
use Rattle.sq_model.specs.declared.fql.Look.TheVariants.{Searchable}
use Rattle.sq_near.specs.Covers.{merged_spans}
use Rattle.sq_postings.specs.declared.parts.Shape.{Shape}
use Rattle.sq_postings.specs.declared.posts.PostCursor.{PostCursor}
use Rattle.sq_postings.specs.Indexed.{Indexed, AreListsOf, list_at, spans_of, spans_of_list, is_searchable_in}
use Rattle.sq_postings.specs.Laws.{lists_between, list_length}
use Rattle.sq_postings.specs.StandsFor.{StandsFor}
use Rattle.sq_streams.specs.PatternSpans.{searched_at, searched_from, lists_of, token_spans, texts_spans, property_count, properties_count, token_count, texts_count}
use Rattle.sq_streams.proofs.PatternLists.{no_list, between_is, properties_are}
use Rattle.sq_streams.proofs.SpanLemmas.{merged_one}

abbrev pub post_left : PostCursor → List Span
post_left c = spans_of c.property c.reader

abbrev pub post_rest : PostCursor → ℕ
post_rest c = entries_behind (post_left c)

-- ---- one part, or several

pub one_part : {X : Type 0} (items rest : List X) (x : X) → items ≡ rest ++ x ∷ [] → length items ≡ 1 → items ≡ x ∷ []
one_part items [] x e l = e
one_part items (y ∷ rest) x e l = absurd (omega (arith, l, ap length e, length-append rest (x ∷ [])))

pub one_merged : {X : Type 0} (left : X → List Span) (items rest : List X) (x : X) → items ≡ rest ++ x ∷ [] → length items ≡ 1 → are_ordered (left x) ≡ true → left x ≡ merged_spans (map left items)
one_merged left items rest x e l o = sym (ap (λ xs. merged_spans (map left xs)) (one_part items rest x e l) ∙ merged_one (left x) o)

-- ---- one more

pub more_left : {X : Type 0} (left : X → List Span) (before after : List X) (x : X) (s : List Span) (rest all : List (List Span)) → after ≡ before ++ x ∷ [] → left x ≡ s →
    map left before ++ s ∷ rest ≡ all → map left after ++ rest ≡ all
more_left left before after x s rest all e f h =
    ap (λ xs. map left xs ++ rest) e ∙ ap (λ ys. ys ++ rest) (map-append left before (x ∷ [])) ∙ append_assoc (map left before) (left x ∷ []) rest
    ∙ ap (λ y. map left before ++ y ∷ rest) f ∙ h

pub more_rest : {X : Type 0} (rest_of : X → ℕ) (before after : List X) (x : X) → after ≡ before ++ x ∷ [] → sum_by rest_of after ≡ sum_by rest_of before + rest_of x
more_rest rest_of before after x e = ap (sum_by rest_of) e ∙ sum_by_push rest_of before x

-- ---- lists from one number to another

pub between_next : (index : Indexed) (i end : ℕ) → i < end → end ≤ length index.lists → lists_between index i end ≡ list_at index i ∷ lists_between index (i + 1) end
between_next index i end l m =
    let n : end - i ≡ suc (end - (i + 1)) = omega (arith, l) in
    ap (take (end - i)) (drop_more index.lists i no_list (omega (arith, l, m))) ∙ ap (λ k. take k (list_at index i ∷ drop (i + 1) index.lists)) n

pub between_none : (index : Indexed) (i end : ℕ) → end ≤ i → lists_between index i end ≡ []
between_none index i end l = let n : end - i ≡ 0 = omega (arith, l) in ap (λ k. take k (drop i index.lists)) n

-- ---- properties from a number on

pub searched_next : (index : Indexed) (i : ℕ) → i < length index.shapes → searched_from i (drop i index.shapes) ≡ searched_at index i ++ searched_from (i + 1) (drop (i + 1) index.shapes)
searched_next index i l = at (slice_get_cases index.shapes i).1
  where
    rest : List ℕ
    rest = searched_from (i + 1) (drop (i + 1) index.shapes)

    cases : (b : Bool) → cond b (i ∷ rest) rest ≡ cond b (i ∷ []) [] ++ rest
    cases true = refl
    cases false = refl

    at : ((x : Shape) × (i < length index.shapes) × (slice_get index.shapes i ≡ Some x) × (get_or index.shapes i x ≡ x)) ⊎ ((length index.shapes ≤ i) × (slice_get index.shapes i ≡ None)) →
        searched_from i (drop i index.shapes) ≡ searched_at index i ++ rest
    at (inl c) =
        ap (searched_from i) (drop_more index.shapes i c.0 l) ∙ ap (λ (s : Shape). searched_from i (s ∷ drop (i + 1) index.shapes)) c.3 ∙ cases c.0.searchable
        ∙ ap (λ o. cond (is_searchable_in o) (i ∷ []) [] ++ rest) (sym c.2)
    at (inr c) = absurd (omega (arith, l, c.0))

-- ---- the turns of the loops

pub end_left : {X : Type 0} (left : X → List Span) (items : List X) (rest all : List (List Span)) → rest ≡ [] → map left items ++ rest ≡ all → map left items ≡ all
end_left left items rest all e h = sym (append-nil (map left items)) ∙ ap (λ r. map left items ++ r) (sym e) ∙ h

pub leaves_turn : {X : Type 0} (left : X → List Span) (index : Indexed) (i end : ℕ) (before after : List X) (x : X) (all : List (List Span)) → i < end → end ≤ length index.lists → after ≡ before ++ x ∷ [] →
    left x ≡ spans_of_list (list_at index i) → map left before ++ map spans_of_list (lists_between index i end) ≡ all → map left after ++ map spans_of_list (lists_between index (i + 1) end) ≡ all
leaves_turn left index i end before after x all l m e f h =
    more_left left before after x (spans_of_list (list_at index i)) (map spans_of_list (lists_between index (i + 1) end)) all e f
    (ap (λ ls. map left before ++ map spans_of_list ls) (sym (between_next index i end l m)) ∙ h)

pub leaves_cost : {X : Type 0} (rest_of : X → ℕ) (index : Indexed) (i end : ℕ) (before after : List X) (x : X) (from to all : ℕ) → i < end → end ≤ length index.lists → after ≡ before ++ x ∷ [] →
    to + rest_of x ≡ from + list_length (list_at index i) → from + sum_by rest_of before + sum_by list_length (lists_between index i end) ≤ all →
    to + sum_by rest_of after + sum_by list_length (lists_between index (i + 1) end) ≤ all
leaves_cost rest_of index i end before after x from to all l m e paid h =
    omega (arith, h, paid, more_rest rest_of before after x e, ap (sum_by list_length) (between_next index i end l m), sum_by-cons list_length (list_at index i) (lists_between index (i + 1) end))

-- what was counted before a refusal
pub leaves_refused : {X : Type 0} (rest_of : X → ℕ) (index : Indexed) (i end : ℕ) (before : List X) (x : X) (from to all : ℕ) → i < end → end ≤ length index.lists →
    to + rest_of x ≡ from + list_length (list_at index i) → from + sum_by rest_of before + sum_by list_length (lists_between index i end) ≤ all → to ≤ all
leaves_refused rest_of index i end before x from to all l m paid h =
    omega (arith, h, paid, ap (sum_by list_length) (between_next index i end l m), sum_by-cons list_length (list_at index i) (lists_between index (i + 1) end))

pub between_left : {X : Type 0} (left : X → List Span) (index : Indexed) (start end i : ℕ) (items olds : List X) → end ≤ i →
    map left items ++ map spans_of_list (lists_between index i end) ≡ map left olds ++ map spans_of_list (lists_between index start end) →
    map left items ≡ map left olds ++ map spans_of_list (lists_between index start end)
between_left left index start end i items olds l h =
    end_left left items (map spans_of_list (lists_between index i end)) (map left olds ++ map spans_of_list (lists_between index start end)) (ap (map spans_of_list) (between_none index i end l)) h

pub leaves_found : {X : Type 0} (left : X → List Span) (index : Indexed) (property : ℕ) (wanted : List ℕ) (prefixed : Bool) (start end : ℕ) (items olds : List X) → AreListsOf index property wanted prefixed start end →
    map left items ≡ map left olds ++ map spans_of_list (lists_between index start end) → map left items ≡ map left olds ++ map spans_of_list (lists_of index wanted prefixed property)
leaves_found left index property wanted prefixed start end items olds are h = h ∙ ap (λ ls. map left olds ++ map spans_of_list ls) (between_is index property wanted prefixed start end are)

pub one_property : {X : Type 0} (left : X → List Span) (index : Indexed) (wanted : List ℕ) (prefixed : Bool) (property : ℕ) (items olds : List X) → olds ≡ [] →
    map left items ≡ map left olds ++ map spans_of_list (lists_of index wanted prefixed property) → map left items ≡ map spans_of_list (flat_map (lists_of index wanted prefixed) (property ∷ []))
one_property left index wanted prefixed property items olds e h =
    h ∙ ap (λ xs. map left xs ++ map spans_of_list (lists_of index wanted prefixed property)) e ∙ ap (map spans_of_list) (sym (append-nil (lists_of index wanted prefixed property)))

pub one_count : (wanted : List ℕ) (prefixed : Bool) (property : ℕ) (corpus : Corpus) → properties_count wanted prefixed (property ∷ []) corpus ≡ property_count wanted prefixed property corpus
one_count wanted prefixed property corpus = omega (arith, sum_by-cons (λ p. property_count wanted prefixed p corpus) property [])

pub searched_total : (index : Indexed) (corpus : Corpus) → StandsFor index corpus → (wanted : List ℕ) (prefixed : Bool) →
    properties_count wanted prefixed (searched_from 0 index.shapes) corpus ≡ token_count Searchable wanted prefixed corpus
searched_total index corpus stands wanted prefixed = ap (λ ps. properties_count wanted prefixed ps corpus) (properties_are index corpus stands Searchable)

pub searched_turn : {X : Type 0} (left : X → List Span) (index : Indexed) (wanted : List ℕ) (prefixed : Bool) (i : ℕ) (before after : List X) (all : List (List Span)) → i < length index.shapes →
    map left after ≡ map left before ++ map spans_of_list (flat_map (lists_of index wanted prefixed) (searched_at index i)) →
    map left before ++ map spans_of_list (flat_map (lists_of index wanted prefixed) (searched_from i (drop i index.shapes))) ≡ all →
    map left after ++ map spans_of_list (flat_map (lists_of index wanted prefixed) (searched_from (i + 1) (drop (i + 1) index.shapes))) ≡ all
searched_turn left index wanted prefixed i before after all l e h =
    let found : List ℕ → List (List Span) = λ ps. map spans_of_list (flat_map (lists_of index wanted prefixed) ps) in
    let here : List ℕ = searched_at index i in
    let rest : List ℕ = searched_from (i + 1) (drop (i + 1) index.shapes) in
    let split : found (here ++ rest) ≡ found here ++ found rest =
    ap (map spans_of_list) (flat_map-append (lists_of index wanted prefixed) here rest) ∙ map-append spans_of_list (flat_map (lists_of index wanted prefixed) here) (flat_map (lists_of index wanted prefixed) rest) in
    ap (λ ls. ls ++ found rest) e ∙ append_assoc (map left before) (found here) (found rest) ∙ ap (λ ls. map left before ++ ls) (sym split)
    ∙ ap (λ ps. map left before ++ found ps) (sym (searched_next index i l)) ∙ h

pub searched_count : (index : Indexed) (wanted : List ℕ) (prefixed : Bool) (i : ℕ) (corpus : Corpus) → i < length index.shapes →
    properties_count wanted prefixed (searched_from i (drop i index.shapes)) corpus
    ≡ properties_count wanted prefixed (searched_at index i) corpus + properties_count wanted prefixed (searched_from (i + 1) (drop (i + 1) index.shapes)) corpus
searched_count index wanted prefixed i corpus l =
    ap (λ ps. properties_count wanted prefixed ps corpus) (searched_next index i l)
    ∙ sum_by-append (λ property. property_count wanted prefixed property corpus) (searched_at index i) (searched_from (i + 1) (drop (i + 1) index.shapes))

-- ---- texts from a number on

pub last_text : (texts : List (List ℕ)) (i : ℕ) → i < length texts → is_empty (drop (i + 1) texts) ≡ (i + 1 == length texts)
last_text texts i l = sym (by (i + 1 == length texts) refl)
  where
    by : (b : Bool) → (i + 1 == length texts) ≡ b → (i + 1 == length texts) ≡ is_empty (drop (i + 1) texts)
    by true e = let n : length texts ≤ i + 1 = grind (arith, nat_tests, e) in e ∙ sym (ap is_empty (drop_of_length-le texts n))
    by false e = let n : i + 1 < length texts = grind (arith, nat_tests, e, l) in e ∙ sym (ap is_empty (drop_more texts (i + 1) [] n))

pub texts_next : (texts : List (List ℕ)) (i : ℕ) (text : List ℕ) → slice_get texts i ≡ Some text → drop i texts ≡ text ∷ drop (i + 1) texts
texts_next texts i text e = drop_more texts i [] (slice_get_within texts i text e) ∙ ap (λ t. t ∷ drop (i + 1) texts) (get_or_from_slice_get texts i text [] e)

pub texts_turn : {X : Type 0} (left : X → List Span) (index : Indexed) (look : Look) (prefixed : Bool) (texts : List (List ℕ)) (i : ℕ) (text : List ℕ) (last : Bool) (before after : List X) (x : X) (all : List (List Span)) →
    slice_get texts i ≡ Some text → last ≡ (prefixed && (i + 1 == length texts)) → after ≡ before ++ x ∷ [] → left x ≡ token_spans index look text last →
    map left before ++ texts_spans index look prefixed (drop i texts) ≡ all → map left after ++ texts_spans index look prefixed (drop (i + 1) texts) ≡ all
texts_turn left index look prefixed texts i text last before after x all here is e f h =
    let more : List (List ℕ) = drop (i + 1) texts in
    let same : last ≡ (prefixed && is_empty more) = is ∙ ap (λ b. prefixed && b) (sym (last_text texts i (slice_get_within texts i text here))) in
    more_left left before after x (token_spans index look text (prefixed && is_empty more)) (texts_spans index look prefixed more) all e (f ∙ ap (token_spans index look text) same)
    (ap (λ ts. map left before ++ texts_spans index look prefixed ts) (sym (texts_next texts i text here)) ∙ h)

pub texts_count_next : (look : Look) (prefixed : Bool) (texts : List (List ℕ)) (i : ℕ) (text : List ℕ) (last : Bool) (corpus : Corpus) → slice_get texts i ≡ Some text → last ≡ (prefixed && (i + 1 == length texts)) →
    texts_count look prefixed (drop i texts) corpus ≡ token_count look text last corpus + texts_count look prefixed (drop (i + 1) texts) corpus
texts_count_next look prefixed texts i text last corpus here is =
    let more : List (List ℕ) = drop (i + 1) texts in
    let same : last ≡ (prefixed && is_empty more) = is ∙ ap (λ b. prefixed && b) (sym (last_text texts i (slice_get_within texts i text here))) in
    ap (λ ts. texts_count look prefixed ts corpus) (texts_next texts i text here) ∙ ap (λ b. token_count look text b corpus + texts_count look prefixed more corpus) (sym same)
