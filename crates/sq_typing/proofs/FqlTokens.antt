-- A typed tree of FQL has no more tokens than the literals of its raw tree have bytes.
use Rattle.std.proofs.Common.{◌≡◌, ℕ, zero, suc, ◌+◌, ◌-◌, ◌≤◌, Bool, true, false, not, ◌&&◌, List, [], ◌∷◌, map, length, drop, length-append, length-take, refl, ap, ◌∙◌, arith}
use Rattle.std.specs.Prelude.{Ok, Err, IfOk, is_some, if◌then◌else◌, nat_le, sum}
use Rattle.std.specs.List.{range_with_len}
use Rattle.std.proofs.lemmas.List.Sums.{sum_by-cons}
use Rattle.sq_schema.specs.declared.interval.Interval.{Interval}
use Rattle.sq_schema.specs.declared.property.Property.{Property}
use Rattle.sq_tokens.specs.Token.{text_tokens}
use Rattle.sq_tokens.specs.Pattern.{Phrase, without_good_star, first_bad_star, text_phrase, joined, single}
use Rattle.sq_model.specs.Lists.{is_empty}
use Rattle.sq_model.specs.Copies.{copies}
use Rattle.sq_model.specs.FqlSound.{tokens_in_spans, tokens_of_parts, tokens_in, tokens_each}
use Rattle.sq_model.specs.declared.leaf.Leaf.{Leaf}
use Rattle.sq_model.specs.declared.fql.Look.{Look}
use Rattle.sq_model.specs.declared.fql.Look.TheVariants.{Searchable, One}
use Rattle.sq_model.specs.declared.fql.SpanTree.{SpanTree, Row_of-SpanTree, end_of-SpanTree, more_of-SpanTree, items-the_row-SpanTree, items_hidden-the_row-SpanTree-0}
use Rattle.sq_model.specs.declared.fql.SpanTree.TheBlock.{hidden-the_row-SpanTree-0}
use Rattle.sq_model.specs.declared.fql.SpanTree.TheVariants as spans
use Rattle.sq_model.specs.declared.fql.FTree.{FTree, Row_of-FTree, end_of-FTree, more_of-FTree, items-the_row-FTree, items_hidden-the_row-FTree-0}
use Rattle.sq_model.specs.declared.fql.FTree.TheBlock.{shape-the_row-FTree-1, hidden-the_row-FTree-0, hidden-the_row-FTree-1}
use Rattle.sq_model.specs.declared.fql.FTree.TheVariants as tree
use Rattle.sq_base.specs.Outcome.{Outcome, refused}
use Rattle.sq_fql.specs.declared.raw.FPiece.{FPiece}
use Rattle.sq_fql.specs.declared.raw.Mode.{Mode}
use Rattle.sq_fql.specs.declared.raw.Mode.TheVariants as mode
use Rattle.sq_fql.specs.declared.raw.Op.{Op}
use Rattle.sq_fql.specs.declared.raw.Op.TheVariants as op
use Rattle.sq_fql.specs.declared.raw.FRaw.{FRaw, All, Literal, Scope', Apply', Row_of-FRaw, end_of-FRaw, more_of-FRaw}
use Rattle.sq_fql.specs.WellFormed.{bytes, bytes_each}
use Rattle.sq_typing.specs.declared.codes.TheConstants.{WRONG_OPERATOR, NO_TOKEN, TOO_MANY_FORMS}
use Rattle.sq_typing.specs.declared.fql_place.Place.{Place}
use Rattle.sq_typing.specs.declared.fql_place.Place.TheVariants as place
use Rattle.sq_typing.specs.Together.{mapped, all_of}
use Rattle.sq_typing.specs.FqlPlaces.{entered}
use Rattle.sq_typing.specs.FqlTexts.{unread, listed, leaf, pattern_in, leaf_in, word_in, words, phrase_part, part_in, phrase_parts, first_text, phrase, string, single_leaf, for_tokens, single_spans, string_spans, all_tokens, phrase_of, one_pattern, sole_pattern}
use Rattle.sq_typing.specs.FqlNumbers.{value_in, yes_no_in, within, numbers}
use Rattle.sq_typing.specs.Fql.{lone, string_span, joined_spans, joined_all, joins, proximity, proximate, proximate_each, with_few_copies, outermost, every_token, in_texts, in_scope, is_for_all, combined_all, applied, every_item, literal, typed_at, typed_each}
use Rattle.sq_typing.proofs.TogetherLemmas.{if_mapped, if_together, if_weaker, if_any, if_bound}
use Rattle.sq_typing.proofs.FqlAmounts.{amounts, AtMost, IsSummed, combined_all_few, wider}
use Rattle.sq_typing.proofs.TokenCount.{few_texts}

abbrev all_bytes : List FRaw → ℕ
all_bytes [] = 0
all_bytes (o ∷ os) = bytes o + all_bytes os

bytes_row : {m : _} (row : Row_of-FRaw m) → all_bytes (listed row) ≡ bytes_each row
bytes_row end_of-FRaw = refl
bytes_row (more_of-FRaw part rest) = ap (λ n. bytes part + n) (bytes_row rest)

-- ---- literals

abbrev HasFew : ℕ → Phrase → Type 0
HasFew n pattern = length pattern.texts ≤ n

abbrev LeafFew : ℕ → Leaf → Type 0
LeafFew n whole = HasFew n whole.pattern

pattern_by : (at n : ℕ) (bad none : Bool) (pattern : Phrase) → HasFew n pattern →
    IfOk {T = Phrase} (if bad then unread else (if none then refused NO_TOKEN at else Ok pattern)) (HasFew n)
pattern_by at n true none pattern few = tt
pattern_by at n false true pattern few = tt
pattern_by at n false false pattern few = few

pattern_few : (p : FPiece) → IfOk (pattern_in p) (HasFew (length p.text))
unfolding pattern_in
pattern_few p =
    pattern_by p.at (length p.text) (is_some (first_bad_star p.text)) (is_empty (text_tokens (without_good_star p.text))) (text_phrase p.text) (few_texts p.text)

leaf_few : (p : FPiece) → IfOk (leaf_in p) (LeafFew (length p.text))
leaf_few p = if_mapped (leaf p.text) (pattern_in p) (HasFew (length p.text)) (LeafFew (length p.text)) (pattern_few p) (λ q h. h)

string_few : (operands : List FRaw) → IfOk (string operands) (LeafFew (all_bytes operands))
string_few [] = tt
string_few (Literal p ∷ []) = if_weaker (leaf_in p) (LeafFew (length p.text)) (LeafFew (length p.text + 0)) (leaf_few p) (λ whole h. omega (arith, h))
string_few (Literal p ∷ (o ∷ os)) = tt
string_few (All at ∷ os) = tt
string_few (Scope' at name s inner ∷ os) = tt
string_few (Apply' at o s operands ∷ os) = tt

-- ---- phrases

abbrev all_texts : List Phrase → ℕ
all_texts [] = 0
all_texts (q ∷ qs) = length q.texts + all_texts qs

joined_texts : (qs : List Phrase) → length (joined qs).texts ≡ all_texts qs
joined_texts [] = refl
joined_texts (q ∷ qs) = length-append q.texts (joined qs).texts ∙ ap (λ n. length q.texts + n) (joined_texts qs)

kept_few : (starred : Bool) (at n : ℕ) (pattern : Phrase) → HasFew n pattern → IfOk {T = Phrase} (if starred then refused WRONG_OPERATOR at else Ok pattern) (HasFew n)
kept_few true at n pattern few = tt
kept_few false at n pattern few = few

part_few : (last : Bool) (o : FRaw) → IfOk (part_in last o) (HasFew (bytes o))
unfolding phrase_part
part_few last (Literal p) =
    if_bound (pattern_in p) (λ pattern. if pattern.prefixed && not last then refused WRONG_OPERATOR p.at else Ok pattern) (HasFew (length p.text)) (HasFew (length p.text))
    (pattern_few p) (λ pattern few. kept_few (pattern.prefixed && not last) p.at (length p.text) pattern few)
part_few last (All at) = tt
part_few last (Scope' at name s inner) = tt
part_few last (Apply' at o s operands) = tt

parts_few : (os : List FRaw) → IfOk (all_of (phrase_parts os)) (λ qs. all_texts qs ≤ all_bytes os)
parts_few [] = omega arith
parts_few (o ∷ os) =
    if_together (λ q qs. q ∷ qs) (part_in (is_empty os) o) (all_of (phrase_parts os)) (HasFew (bytes o)) (λ qs. all_texts qs ≤ all_bytes os)
    (λ qs. all_texts qs ≤ bytes o + all_bytes os) (part_few (is_empty os) o) (parts_few os) (λ q qs h k. omega (arith, h, k))

phrase_few : (operands : List FRaw) → IfOk (phrase operands) (LeafFew (all_bytes operands))
phrase_few [] = tt
phrase_few (o ∷ os) =
    if_mapped (λ parts. leaf (first_text (o ∷ os)) (joined parts)) (all_of (phrase_parts (o ∷ os))) (λ qs. all_texts qs ≤ all_bytes (o ∷ os)) (LeafFew (all_bytes (o ∷ os)))
    (parts_few (o ∷ os)) (λ qs h. omega (arith, joined_texts qs, h))

-- ---- the operand of count, starts-with, ends-with and equals

phrase_of_few : (at : ℕ) (o : Op) (operands : List FRaw) → IfOk (phrase_of at o operands) (LeafFew (all_bytes operands))
phrase_of_few at op.Phrase operands = phrase_few operands
phrase_of_few at (op.Str mode.Phrase n) operands = string_few operands
phrase_of_few at _ operands = tt

one_few : (schema : List Property) (o : FRaw) → IfOk (one_pattern schema o) (LeafFew (bytes o))
one_few schema (All at) = tt
one_few schema (Literal p) = leaf_few p
one_few schema (Scope' at name s inner) = tt
one_few schema (Apply' at o s operands) =
    if_weaker (phrase_of at o (listed operands)) (LeafFew (all_bytes (listed operands))) (LeafFew (bytes_each operands)) (phrase_of_few at o (listed operands))
    (λ whole h. omega (arith, h, bytes_row operands))

sole_few : (schema : List Property) (operands : List FRaw) → IfOk (sole_pattern schema operands) (LeafFew (all_bytes operands))
sole_few schema [] = tt
sole_few schema (o ∷ []) = if_weaker (one_pattern schema o) (LeafFew (bytes o)) (LeafFew (bytes o + 0)) (one_few schema o) (λ whole h. omega (arith, h))
sole_few schema (o ∷ (p ∷ os)) = tt

-- ---- proximity expressions by lists

abbrev span_tokens : List SpanTree → ℕ
span_tokens [] = 0
span_tokens (t ∷ ts) = tokens_in_spans t + span_tokens ts

-- no more than so many
abbrev SpansFew : ℕ → SpanTree → Type 0
SpansFew n t = tokens_in_spans t ≤ n

spans_row : {m : _} (row : Row_of-SpanTree m) → sum (tokens_of_parts row) ≡ span_tokens (items-the_row-SpanTree m row)
spans_row end_of-SpanTree = refl
spans_row (more_of-SpanTree part rest) = sum_by-cons (λ n. n) (tokens_in_spans part) (tokens_of_parts rest) ∙ ap (λ n. tokens_in_spans part + n) (spans_row rest)

spans_list : (ts : List SpanTree) → sum (tokens_of_parts (hidden-the_row-SpanTree-0 ts)) ≡ span_tokens ts
spans_list ts = spans_row (hidden-the_row-SpanTree-0 ts) ∙ ap span_tokens (items_hidden-the_row-SpanTree-0 ts)

union_few : (ts : List SpanTree) (n : ℕ) → span_tokens ts ≤ n → SpansFew n (spans.Union ts)
union_few ts n h = omega (arith, spans_list ts, h)

near_few : (ts : List SpanTree) (distance : ℕ) (ordered : Bool) (n : ℕ) → span_tokens ts ≤ n → SpansFew n (spans.Near ts distance ordered)
near_few ts distance ordered n h = omega (arith, spans_list ts, h)

-- ---- tokens of a string

single_few : (pattern : Phrase) (i : ℕ) → length (single pattern i).texts ≤ 1
single_few pattern i = omega (arith, length-take (i + 1 - i) (drop i pattern.texts))

singles_from : (whole : Leaf) (a n : ℕ) → span_tokens (map (λ i. single_leaf whole i) (range_with_len a n)) ≤ n
singles_from whole a zero = omega arith
singles_from whole a (suc n) = omega (arith, single_few whole.pattern a, singles_from whole (a + 1) n)

singles_few : (whole : Leaf) (n : ℕ) → LeafFew n whole → span_tokens (single_spans whole) ≤ n
singles_few whole n h = omega (arith, singles_from whole 0 (length whole.pattern.texts), h)

string_spans_few : (m : Mode) (distance : ℕ) (whole : Leaf) (n : ℕ) → LeafFew n whole → SpansFew n (string_spans m distance whole)
string_spans_few mode.Phrase distance whole n h = h
string_spans_few mode.And distance whole n h = union_few (single_spans whole) n (singles_few whole n h)
string_spans_few mode.Or distance whole n h = union_few (single_spans whole) n (singles_few whole n h)
string_spans_few mode.Any distance whole n h = union_few (single_spans whole) n (singles_few whole n h)
string_spans_few mode.Near distance whole n h = near_few (single_spans whole) distance false n (singles_few whole n h)
string_spans_few mode.Onear distance whole n h = near_few (single_spans whole) distance true n (singles_few whole n h)

string_span_few : (m : Mode) (distance : ℕ) (operands : List FRaw) → IfOk (string_span m distance operands) (SpansFew (all_bytes operands))
string_span_few m distance operands =
    if_mapped (string_spans m distance) (string operands) (LeafFew (all_bytes operands)) (SpansFew (all_bytes operands)) (string_few operands)
    (λ whole h. string_spans_few m distance whole (all_bytes operands) h)

-- ---- operators inside near and onear

span_few : (x : Outcome Leaf) (n : ℕ) → IfOk x (LeafFew n) → IfOk (mapped spans.Leaf x) (SpansFew n)
span_few x n h = if_mapped spans.Leaf x (LeafFew n) (SpansFew n) h (λ whole k. k)

word_few : (o : FRaw) → IfOk (word_in o) (SpansFew (bytes o))
word_few (Literal p) = span_few (leaf_in p) (length p.text) (leaf_few p)
word_few (All at) = tt
word_few (Scope' at name s inner) = tt
word_few (Apply' at o s operands) = tt

each_word : (os : List FRaw) → IfOk (all_of (map word_in os)) (λ ts. span_tokens ts ≤ all_bytes os)
each_word [] = omega arith
each_word (o ∷ os) =
    if_together (λ t ts. t ∷ ts) (word_in o) (all_of (map word_in os)) (SpansFew (bytes o)) (λ ts. span_tokens ts ≤ all_bytes os) (λ ts. span_tokens ts ≤ bytes o + all_bytes os)
    (word_few o) (each_word os) (λ t ts h k. omega (arith, h, k))

words_few : (operands : List FRaw) → IfOk (words operands) (SpansFew (all_bytes operands))
words_few [] = tt
words_few (o ∷ os) =
    if_mapped spans.Union (all_of (map word_in (o ∷ os))) (λ ts. span_tokens ts ≤ all_bytes (o ∷ os)) (SpansFew (all_bytes (o ∷ os))) (each_word (o ∷ os))
    (λ ts h. union_few ts (all_bytes (o ∷ os)) h)

lone_few : (look : Look) (at : ℕ) (o : Op) (operands : List FRaw) → IfOk (lone look at o operands) (SpansFew (all_bytes operands))
lone_few look at op.Words operands = words_few operands
lone_few look at op.Phrase operands = span_few (phrase operands) (all_bytes operands) (phrase_few operands)
lone_few look at (op.Str mode.And n) operands = tt
lone_few look at (op.Str mode.Phrase n) operands = string_span_few mode.Phrase n operands
lone_few look at (op.Str mode.Or n) operands = string_span_few mode.Or n operands
lone_few look at (op.Str mode.Any n) operands = string_span_few mode.Any n operands
lone_few look at (op.Str mode.Near n) operands = string_span_few mode.Near n operands
lone_few look at (op.Str mode.Onear n) operands = string_span_few mode.Onear n operands
lone_few look at _ operands = tt

joined_few : (o : Op) (ts : List SpanTree) (n : ℕ) → span_tokens ts ≤ n → IfOk (joined_spans o ts) (SpansFew n)
joined_few o [] n h = tt
joined_few (op.Near distance) (t ∷ ts) n h = near_few (t ∷ ts) distance false n h
joined_few (op.Onear distance) (t ∷ ts) n h = near_few (t ∷ ts) distance true n h
joined_few _ (t ∷ ts) n h = union_few (t ∷ ts) n h

chosen_few : (joining : Bool) (look : Look) (at : ℕ) (o : Op) (operands : List FRaw) (parts : Outcome (List SpanTree)) →
    IfOk parts (λ ts. span_tokens ts ≤ all_bytes operands) → IfOk (if joining then joined_all o parts else lone look at o operands) (SpansFew (all_bytes operands))
chosen_few true look at o operands parts h =
    if_bound parts (joined_spans o) (λ ts. span_tokens ts ≤ all_bytes operands) (SpansFew (all_bytes operands)) h (λ ts k. joined_few o ts (all_bytes operands) k)
chosen_few false look at o operands parts h = lone_few look at o operands

proximity_few : (look : Look) (at : ℕ) (o : Op) (operands : List FRaw) (parts : List (Outcome SpanTree)) → IfOk (all_of parts) (λ ts. span_tokens ts ≤ all_bytes operands) →
    IfOk (proximity look at o operands parts) (SpansFew (all_bytes operands))
unfolding proximity
proximity_few look at o operands parts h = chosen_few (joins o) look at o operands (all_of parts) h

module _ (schema : List Property) (look : Look) where
  mutual
    proximate_few : (t : FRaw) → IfOk (proximate schema look t) (SpansFew (bytes t))
    proximate_few (All at) = tt
    proximate_few (Literal p) = span_few (leaf_in p) (length p.text) (leaf_few p)
    proximate_few (Scope' at name s inner) = tt
    proximate_few (Apply' at o s operands) =
        if_weaker (proximity look at o (listed operands) (proximate_each schema look operands)) (SpansFew (all_bytes (listed operands))) (SpansFew (bytes_each operands))
        (proximity_few look at o (listed operands) (proximate_each schema look operands) (row_few operands)) (λ t h. omega (arith, h, bytes_row operands))

    row_few : {m : _} (row : Row_of-FRaw m) → IfOk (all_of (proximate_each schema look row)) (λ ts. span_tokens ts ≤ all_bytes (listed row))
    row_few end_of-FRaw = omega arith
    row_few (more_of-FRaw part rest) =
        if_together (λ t ts. t ∷ ts) (proximate schema look part) (all_of (proximate_each schema look rest)) (SpansFew (bytes part)) (λ ts. span_tokens ts ≤ all_bytes (listed rest))
        (λ ts. span_tokens ts ≤ bytes part + all_bytes (listed rest)) (proximate_few part) (row_few rest) (λ t ts h k. omega (arith, h, k))

  list_few : (os : List FRaw) → IfOk (all_of (map (proximate schema look) os)) (λ ts. span_tokens ts ≤ all_bytes os)
  list_few [] = omega arith
  list_few (o ∷ os) =
      if_together (λ t ts. t ∷ ts) (proximate schema look o) (all_of (map (proximate schema look) os)) (SpansFew (bytes o)) (λ ts. span_tokens ts ≤ all_bytes os)
      (λ ts. span_tokens ts ≤ bytes o + all_bytes os) (proximate_few o) (list_few os) (λ t ts h k. omega (arith, h, k))

-- ---- trees by lists

abbrev all_tokens_in : List FTree → ℕ
all_tokens_in ts = amounts tokens_in ts

-- no more than so many
abbrev Few : ℕ → FTree → Type 0
Few n t = AtMost tokens_in n t

tokens_row : {m : _} (row : Row_of-FTree m) → sum (tokens_each row) ≡ all_tokens_in (items-the_row-FTree m row)
tokens_row end_of-FTree = refl
tokens_row (more_of-FTree part rest) = sum_by-cons (λ n. n) (tokens_in part) (tokens_each rest) ∙ ap (λ n. tokens_in part + n) (tokens_row rest)

tokens_list : (ts : List FTree) → sum (tokens_each (hidden-the_row-FTree-0 ts)) ≡ all_tokens_in ts
tokens_list ts = tokens_row (hidden-the_row-FTree-0 ts) ∙ ap all_tokens_in (items_hidden-the_row-FTree-0 ts)

tokens_one : (t : FTree) → sum (tokens_in t ∷ []) ≡ tokens_in t
tokens_one t = omega arith

abbrev none_own : Op → ℕ
none_own o = 0

tokens_summed : IsSummed tokens_in none_own
unfolding shape-the_row-FTree-1 hidden-the_row-FTree-1 denote.Hole.Carrier.hidden
tokens_summed = record {
  of_and = λ ts. omega (arith, tokens_list ts);
  of_or = λ ts. omega (arith, tokens_list ts);
  of_not = λ t. omega (arith, tokens_one t);
  of_filter = λ t. omega (arith, tokens_one t);
  of_and_not = λ t ts. omega (arith, tokens_one t, tokens_list ts);
  of_xrank = λ t ts cb. omega (arith, tokens_one t, tokens_list ts);
}

-- ---- operators that not all kinds have

few_by : (few : Bool) (at : ℕ) (look : Look) (t : SpanTree) (n : ℕ) → SpansFew n t → IfOk (if few then Ok (tree.Spans look t) else refused TOO_MANY_FORMS at) (Few n)
few_by true at look t n h = h
few_by false at look t n h = tt

copies_few : (at : ℕ) (look : Look) (t : SpanTree) (n : ℕ) → SpansFew n t → IfOk (with_few_copies at look t) (Few n)
unfolding with_few_copies
copies_few at look t n h = few_by (nat_le (copies t) 256) at look t n h

singles_in : (look : Look) (whole : Leaf) (a n : ℕ) → all_tokens_in (map (λ i. tree.Spans look (single_leaf whole i)) (range_with_len a n)) ≤ n
singles_in look whole a zero = omega arith
singles_in look whole a (suc n) = omega (arith, single_few whole.pattern a, singles_in look whole (a + 1) n)

all_few : (look : Look) (whole : Leaf) (n : ℕ) → LeafFew n whole → Few n (all_tokens look whole)
all_few look whole n h =
    omega (arith, tokens_list (for_tokens (tree.Spans look) whole), singles_in look whole 0 (length whole.pattern.texts), h)

every_few : (look : Look) (operands : List FRaw) → IfOk (every_token look operands) (Few (all_bytes operands))
every_few look operands =
    if_mapped (all_tokens look) (string operands) (LeafFew (all_bytes operands)) (Few (all_bytes operands)) (string_few operands)
    (λ whole h. all_few look whole (all_bytes operands) h)

within_few : (row : ℕ) (found : Outcome Interval) (n : ℕ) → IfOk (mapped (within row) found) (Few n)
within_few row (Ok i) n = omega arith
within_few row (Err e) n = tt

module _ (schema : List Property) where
  outermost_few : (look : Look) (at : ℕ) (o : Op) (operands : List FRaw) → IfOk (outermost schema look at o operands) (Few (all_bytes operands))
  outermost_few look at o operands =
      if_bound (proximity look at o operands (map (proximate schema look) operands)) (with_few_copies at look) (SpansFew (all_bytes operands)) (Few (all_bytes operands))
      (proximity_few look at o operands (map (proximate schema look) operands) (list_few schema look operands)) (λ t h. copies_few at look t (all_bytes operands) h)

  one_leaf : (f : Leaf → FTree) (operands : List FRaw) → ((whole : Leaf) → tokens_in (f whole) ≡ length whole.pattern.texts) →
      IfOk (mapped f (sole_pattern schema operands)) (Few (all_bytes operands))
  one_leaf f operands has =
      if_mapped f (sole_pattern schema operands) (LeafFew (all_bytes operands)) (Few (all_bytes operands)) (sole_few schema operands) (λ whole h. omega (arith, has whole, h))

  in_texts_few : (look : Look) (at : ℕ) (o : Op) (operands : List FRaw) → IfOk (in_texts schema look at o operands) (Few (all_bytes operands))
  in_texts_few look at (op.Range above below) operands = tt
  in_texts_few look at op.Int operands = tt
  in_texts_few look at op.DateTime operands = tt
  in_texts_few look at (op.Count from to) operands = one_leaf (λ one. tree.Count look one from to) operands (λ one. refl)
  in_texts_few look at op.StartsWith operands = one_leaf (λ one. tree.Edge look one true false) operands (λ one. refl)
  in_texts_few look at op.EndsWith operands = one_leaf (λ one. tree.Edge look one false true) operands (λ one. refl)
  in_texts_few look at op.Equals operands = one_leaf (λ one. tree.Edge look one true true) operands (λ one. refl)
  in_texts_few look at (op.Str mode.And n) operands = every_few look operands
  in_texts_few look at (op.Str mode.Phrase n) operands = outermost_few look at _ operands
  in_texts_few look at (op.Str mode.Or n) operands = outermost_few look at _ operands
  in_texts_few look at (op.Str mode.Any n) operands = outermost_few look at _ operands
  in_texts_few look at (op.Str mode.Near n) operands = outermost_few look at _ operands
  in_texts_few look at (op.Str mode.Onear n) operands = outermost_few look at _ operands
  in_texts_few look at _ operands = outermost_few look at _ operands

  in_scope_few : (here : Place) (at : ℕ) (o : Op) (operands : List FRaw) → IfOk (in_scope schema here at o operands) (Few (all_bytes operands))
  in_scope_few (place.Texts look) at o operands = in_texts_few look at o operands
  in_scope_few (place.Numbers property m) at o operands = within_few property (numbers schema m at o operands) (all_bytes operands)
  in_scope_few (place.YesNo property) at o operands = tt

  applied_by : (for_all : Bool) (here : Place) (at : ℕ) (o : Op) (operands : List FRaw) (trees : Outcome (List FTree)) → IfOk trees (λ ts. all_tokens_in ts ≤ all_bytes operands) →
      IfOk (if for_all then combined_all o trees else in_scope schema here at o operands) (Few (0 + all_bytes operands))
  applied_by true here at o operands trees h = combined_all_few tokens_in none_own tokens_summed o trees (all_bytes operands) h
  applied_by false here at o operands trees h =
      wider tokens_in (in_scope schema here at o operands) (all_bytes operands) (0 + all_bytes operands) (omega arith) (in_scope_few here at o operands)

  applied_few : (here : Place) (at : ℕ) (o : Op) (operands : List FRaw) (parts : List (Outcome FTree)) → IfOk (all_of parts) (λ ts. all_tokens_in ts ≤ all_bytes operands) →
      IfOk (applied schema here at o operands parts) (Few (0 + all_bytes operands))
  unfolding applied
  applied_few here at o operands parts h = applied_by (is_for_all o) here at o operands (all_of parts) h

  -- ---- expressions

  every_item_few : (here : Place) (at : ℕ) → IfOk (every_item here at) (Few 0)
  every_item_few (place.Texts Searchable) at = omega arith
  every_item_few (place.Texts (One row)) at = tt
  every_item_few (place.Numbers row m) at = tt
  every_item_few (place.YesNo row) at = tt

  literal_few : (here : Place) (p : FPiece) → IfOk (literal here p) (Few (length p.text))
  literal_few (place.Texts look) p =
      if_mapped (λ one. tree.Spans look (spans.Leaf one)) (leaf_in p) (LeafFew (length p.text)) (Few (length p.text)) (leaf_few p) (λ one h. h)
  literal_few (place.Numbers row m) p = within_few row (value_in m p) (length p.text)
  literal_few (place.YesNo row) p = within_few row (yes_no_in p) (length p.text)

  mutual
    pub typed_few : (here : Place) (t : FRaw) → IfOk (typed_at schema here t) (Few (bytes t))
    typed_few here (All at) = every_item_few here at
    typed_few here (Literal p) = literal_few here p
    typed_few here (Scope' at name s (more_of-FRaw inner end_of-FRaw)) =
        if_bound (entered schema here at name) (λ inside. typed_at schema inside inner) (λ inside. Unit {0}) (Few (bytes inner + 0)) (if_any (entered schema here at name))
        (λ inside h. wider tokens_in (typed_at schema inside inner) (bytes inner) (bytes inner + 0) (omega arith) (typed_few inside inner))
    typed_few here (Apply' at o s operands) =
        wider tokens_in (applied schema here at o (listed operands) (typed_each schema here operands)) (0 + all_bytes (listed operands)) (bytes_each operands)
        (omega (arith, bytes_row operands)) (applied_few here at o (listed operands) (typed_each schema here operands) (each_few here operands))

    each_few : {m : _} (here : Place) (row : Row_of-FRaw m) → IfOk (all_of (typed_each schema here row)) (λ ts. all_tokens_in ts ≤ all_bytes (listed row))
    each_few here end_of-FRaw = omega arith
    each_few here (more_of-FRaw part rest) =
        if_together (λ t ts. t ∷ ts) (typed_at schema here part) (all_of (typed_each schema here rest)) (Few (bytes part)) (λ ts. all_tokens_in ts ≤ all_bytes (listed rest))
        (λ ts. all_tokens_in ts ≤ bytes part + all_bytes (listed rest)) (typed_few here part) (each_few here rest) (λ t ts h k. omega (arith, h, k))
