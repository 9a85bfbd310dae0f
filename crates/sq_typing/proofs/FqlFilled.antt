-- In a proximity expression of FQL that typing gives, no list is empty.
use Rattle.std.proofs.Common.{◌≡◌, ℕ, zero, suc, ◌+◌, ◌<◌, Bool, true, false, not, ◌&&◌, List, [], ◌∷◌, map, length, Option, Some, None, refl, ap, ◌∙◌, arith}
use Rattle.std.specs.Prelude.{Ok, Err, IfOk, is_some, if◌then◌else◌}
use Rattle.std.specs.List.{list_all, range_with_len}
use Rattle.sq_schema.specs.declared.property.Property.{Property}
use Rattle.sq_tokens.specs.Token.{Token, text_tokens, token_text}
use Rattle.sq_tokens.specs.Pattern.{Phrase, without_good_star, has_good_star, first_bad_star}
use Rattle.sq_model.specs.Lists.{is_empty}
use Rattle.sq_model.specs.declared.leaf.Leaf.{Leaf}
use Rattle.sq_model.specs.declared.fql.Look.{Look}
use Rattle.sq_model.specs.declared.fql.SpanTree.{SpanTree}
use Rattle.sq_model.specs.declared.fql.SpanTree.TheVariants as spans
use Rattle.sq_base.specs.Outcome.{Outcome, refused}
use Rattle.sq_fql.specs.declared.raw.FPiece.{FPiece}
use Rattle.sq_fql.specs.declared.raw.Mode.{Mode}
use Rattle.sq_fql.specs.declared.raw.Mode.TheVariants as mode
use Rattle.sq_fql.specs.declared.raw.Op.{Op}
use Rattle.sq_fql.specs.declared.raw.Op.TheVariants as op
use Rattle.sq_fql.specs.declared.raw.FRaw.{FRaw, All, Literal, Scope', Apply', Row_of-FRaw, end_of-FRaw, more_of-FRaw}
use Rattle.sq_typing.specs.declared.codes.TheConstants.{NO_TOKEN}
use Rattle.sq_typing.specs.SpanForms.{is_filled}
use Rattle.sq_typing.specs.Together.{mapped, all_of}
use Rattle.sq_typing.specs.FqlTexts.{unread, listed, leaf, pattern_in, leaf_in, only_literal, read_only, word_in, words, phrase, string, single_leaf, single_spans, string_spans}
use Rattle.sq_typing.specs.Fql.{lone, string_span, joined_spans, joined_all, joins, proximity, proximate, proximate_each}
use Rattle.sq_typing.proofs.SpanLemmas.{built_union, built_near}
use Rattle.sq_typing.proofs.TogetherLemmas.{if_mapped, if_together}

abbrev Filled : SpanTree → Type 0
Filled t = is_filled t ≡ true

abbrev AllFilled : List SpanTree → Type 0
AllFilled ts = list_all is_filled ts ≡ true

-- there is one, and all are filled
abbrev SomeFilled : List SpanTree → Type 0
SomeFilled ts = (is_empty ts ≡ false) × AllFilled ts

both_true : (a b : Bool) → a ≡ true → b ≡ true → (a && b) ≡ true
both_true a b h k = rw (h, k) refl

filled_on : (t : SpanTree) (ts : List SpanTree) → Filled t → AllFilled ts → AllFilled (t ∷ ts)
filled_on t ts h k = both_true (is_filled t) (list_all is_filled ts) h k

union_filled : (ts : List SpanTree) → SomeFilled ts → Filled (spans.Union ts)
union_filled ts h = built_union ts ∙ both_true (not (is_empty ts)) (list_all is_filled ts) (ap not h.0) h.1

near_filled : (ts : List SpanTree) (n : ℕ) (ordered : Bool) → SomeFilled ts → Filled (spans.Near ts n ordered)
near_filled ts n ordered h = built_near ts n ordered ∙ both_true (not (is_empty ts)) (list_all is_filled ts) (ap not h.0) h.1

-- ---- strings

abbrev pub HasToken : Leaf → Type 0
HasToken whole = 0 < length whole.pattern.texts

pattern_by : (at : ℕ) (star : Option ℕ) (tokens : List Token) (prefixed : Bool) →
    IfOk {T = Phrase} (if is_some star then unread else (if is_empty tokens then refused NO_TOKEN at else Ok (record { texts = map token_text tokens; prefixed = prefixed }))) (λ q. 0 < length q.texts)
pattern_by at (Some i) tokens prefixed = tt
pattern_by at None [] prefixed = tt
pattern_by at None (t ∷ ts) prefixed = omega arith

pub pattern_some : (p : FPiece) → IfOk (pattern_in p) (λ q. 0 < length q.texts)
unfolding pattern_in
pattern_some p = pattern_by p.at (first_bad_star p.text) (text_tokens (without_good_star p.text)) (has_good_star p.text)

pub leaf_some : (p : FPiece) → IfOk (leaf_in p) HasToken
leaf_some p = if_mapped (leaf p.text) (pattern_in p) (λ q. 0 < length q.texts) HasToken (pattern_some p) (λ q h. h)

only_some : (p : Option FPiece) → IfOk (read_only leaf_in p) HasToken
only_some (Some p) = leaf_some p
only_some None = tt

pub string_some : (operands : List FRaw) → IfOk (string operands) HasToken
string_some operands = only_some (only_literal operands)

singles_from : (whole : Leaf) (a n : ℕ) → AllFilled (map (λ i. single_leaf whole i) (range_with_len a n))
singles_from whole a zero = refl
singles_from whole a (suc n) = singles_from whole (a + 1) n

some_from : (whole : Leaf) (a n : ℕ) → 0 < n → is_empty (map (λ i. single_leaf whole i) (range_with_len a n)) ≡ false
some_from whole a zero some = absurd (omega (arith, some))
some_from whole a (suc n) some = refl

singles_filled : (whole : Leaf) → HasToken whole → SomeFilled (single_spans whole)
singles_filled whole some = (some_from whole 0 (length whole.pattern.texts) some, singles_from whole 0 (length whole.pattern.texts))

string_spans_filled : (m : Mode) (n : ℕ) (whole : Leaf) → HasToken whole → Filled (string_spans m n whole)
string_spans_filled mode.Phrase n whole some = refl
string_spans_filled mode.And n whole some = union_filled (single_spans whole) (singles_filled whole some)
string_spans_filled mode.Or n whole some = union_filled (single_spans whole) (singles_filled whole some)
string_spans_filled mode.Any n whole some = union_filled (single_spans whole) (singles_filled whole some)
string_spans_filled mode.Near n whole some = near_filled (single_spans whole) n false (singles_filled whole some)
string_spans_filled mode.Onear n whole some = near_filled (single_spans whole) n true (singles_filled whole some)

string_filled : (m : Mode) (n : ℕ) (operands : List FRaw) → IfOk (string_span m n operands) Filled
string_filled m n operands = if_mapped (string_spans m n) (string operands) HasToken Filled (string_some operands) (λ whole h. string_spans_filled m n whole h)

-- ---- operators that join nothing

leaf_filled : (outcome : Outcome Leaf) → IfOk (mapped spans.Leaf outcome) Filled
leaf_filled (Ok whole) = refl
leaf_filled (Err e) = tt

word_filled : (o : FRaw) → IfOk (word_in o) Filled
word_filled (Literal p) = leaf_filled (leaf_in p)
word_filled (All at) = tt
word_filled (Scope' at name s inner) = tt
word_filled (Apply' at o s operands) = tt

each_word : (os : List FRaw) → IfOk (all_of (map word_in os)) (λ ts. (is_empty ts ≡ is_empty os) × AllFilled ts)
each_word [] = (refl, refl)
each_word (o ∷ os) =
    if_together (λ t ts. t ∷ ts) (word_in o) (all_of (map word_in os)) Filled (λ ts. (is_empty ts ≡ is_empty os) × AllFilled ts) (λ ts. (is_empty ts ≡ false) × AllFilled ts)
    (word_filled o) (each_word os) (λ t ts h k. (refl, filled_on t ts h k.1))

words_filled : (operands : List FRaw) → IfOk (words operands) Filled
words_filled [] = tt
words_filled (o ∷ os) = if_mapped spans.Union (all_of (map word_in (o ∷ os))) SomeFilled Filled (each_word (o ∷ os)) (λ ts h. union_filled ts h)

lone_filled : (look : Look) (at : ℕ) (o : Op) (operands : List FRaw) → IfOk (lone look at o operands) Filled
lone_filled look at op.Words operands = words_filled operands
lone_filled look at op.Phrase operands = leaf_filled (phrase operands)
lone_filled look at (op.Str mode.And n) operands = tt
lone_filled look at (op.Str mode.Phrase n) operands = string_filled mode.Phrase n operands
lone_filled look at (op.Str mode.Or n) operands = string_filled mode.Or n operands
lone_filled look at (op.Str mode.Any n) operands = string_filled mode.Any n operands
lone_filled look at (op.Str mode.Near n) operands = string_filled mode.Near n operands
lone_filled look at (op.Str mode.Onear n) operands = string_filled mode.Onear n operands
lone_filled look at _ operands = tt

-- ---- operators that join

joined_filled : (o : Op) (ts : List SpanTree) → AllFilled ts → IfOk (joined_spans o ts) Filled
joined_filled o [] h = tt
joined_filled (op.Near n) (t ∷ ts) h = near_filled (t ∷ ts) n false (refl, h)
joined_filled (op.Onear n) (t ∷ ts) h = near_filled (t ∷ ts) n true (refl, h)
joined_filled op.Or (t ∷ ts) h = union_filled (t ∷ ts) (refl, h)
joined_filled op.Any (t ∷ ts) h = union_filled (t ∷ ts) (refl, h)
joined_filled op.And (t ∷ ts) h = union_filled (t ∷ ts) (refl, h)
joined_filled op.AndNot (t ∷ ts) h = union_filled (t ∷ ts) (refl, h)
joined_filled op.Not (t ∷ ts) h = union_filled (t ∷ ts) (refl, h)
joined_filled op.Words (t ∷ ts) h = union_filled (t ∷ ts) (refl, h)
joined_filled (op.Count from to) (t ∷ ts) h = union_filled (t ∷ ts) (refl, h)
joined_filled (op.Range above below) (t ∷ ts) h = union_filled (t ∷ ts) (refl, h)
joined_filled op.StartsWith (t ∷ ts) h = union_filled (t ∷ ts) (refl, h)
joined_filled op.EndsWith (t ∷ ts) h = union_filled (t ∷ ts) (refl, h)
joined_filled op.Equals (t ∷ ts) h = union_filled (t ∷ ts) (refl, h)
joined_filled op.Filter (t ∷ ts) h = union_filled (t ∷ ts) (refl, h)
joined_filled (op.Str m n) (t ∷ ts) h = union_filled (t ∷ ts) (refl, h)
joined_filled op.Int (t ∷ ts) h = union_filled (t ∷ ts) (refl, h)
joined_filled op.DateTime (t ∷ ts) h = union_filled (t ∷ ts) (refl, h)
joined_filled op.Phrase (t ∷ ts) h = union_filled (t ∷ ts) (refl, h)
joined_filled (op.Xrank cb) (t ∷ ts) h = union_filled (t ∷ ts) (refl, h)

bound_filled : (o : Op) (parts : Outcome (List SpanTree)) → IfOk parts AllFilled → IfOk (joined_all o parts) Filled
bound_filled o (Ok ts) h = joined_filled o ts h
bound_filled o (Err e) h = tt

chosen_filled : (joining : Bool) (look : Look) (at : ℕ) (o : Op) (operands : List FRaw) (parts : Outcome (List SpanTree)) → IfOk parts AllFilled →
    IfOk (if joining then joined_all o parts else lone look at o operands) Filled
chosen_filled true look at o operands parts h = bound_filled o parts h
chosen_filled false look at o operands parts h = lone_filled look at o operands

proximity_of : (look : Look) (at : ℕ) (o : Op) (operands : List FRaw) (parts : List (Outcome SpanTree)) → IfOk (all_of parts) AllFilled →
    IfOk (proximity look at o operands parts) Filled
unfolding proximity
proximity_of look at o operands parts h = chosen_filled (joins o) look at o operands (all_of parts) h

module _ (schema : List Property) (look : Look) where
  mutual
    pub proximate_filled : (t : FRaw) → IfOk (proximate schema look t) Filled
    proximate_filled (All at) = tt
    proximate_filled (Literal p) = leaf_filled (leaf_in p)
    proximate_filled (Scope' at name s inner) = tt
    proximate_filled (Apply' at o s operands) = proximity_of look at o (listed operands) (proximate_each schema look operands) (each_filled operands)

    each_filled : {m : _} (row : Row_of-FRaw m) → IfOk (all_of (proximate_each schema look row)) AllFilled
    each_filled end_of-FRaw = refl
    each_filled (more_of-FRaw part rest) =
        if_together (λ t ts. t ∷ ts) (proximate schema look part) (all_of (proximate_each schema look rest)) Filled AllFilled AllFilled
        (proximate_filled part) (each_filled rest) (λ t ts h k. filled_on t ts h k)

  list_filled : (os : List FRaw) → IfOk (all_of (map (proximate schema look) os)) AllFilled
  list_filled [] = refl
  list_filled (o ∷ os) =
      if_together (λ t ts. t ∷ ts) (proximate schema look o) (all_of (map (proximate schema look) os)) Filled AllFilled AllFilled
      (proximate_filled o) (list_filled os) (λ t ts h k. filled_on t ts h k)

  pub outermost_filled : (at : ℕ) (o : Op) (operands : List FRaw) → IfOk (proximity look at o operands (map (proximate schema look) operands)) Filled
  outermost_filled at o operands = proximity_of look at o operands (map (proximate schema look) operands) (list_filled operands)
