-- What typing FQL gives is sound, part by part.
use Rattle.std.proofs.Common.{◌≡◌, ℕ, zero, suc, ◌+◌, ◌<◌, ◌≤◌, Bool, true, false, List, [], ◌∷◌, map, length, Option, Some, None, refl, sym, subst, arith}
use Rattle.std.specs.Prelude.{Ok, Err, IfOk, IfSome, if◌then◌else◌, nat_le, ℤ, position, option_map, option_and_then}
use Rattle.std.specs.List.{AllByRecursion, range_with_len}
use Rattle.std.proofs.lemmas.Bool.{le-leb}
use Rattle.sq_schema.specs.declared.interval.Interval.{Interval}
use Rattle.sq_schema.specs.declared.property.Kind.{Kind}
use Rattle.sq_schema.specs.declared.property.Kind.TheVariants as kind
use Rattle.sq_schema.specs.declared.property.Property.{Property}
use Rattle.sq_schema.specs.Properties.{has_name}
use Rattle.sq_model.specs.Copies.{copies}
use Rattle.sq_model.specs.Kinds.{kind_of, is_number_property, is_boost}
use Rattle.sq_model.specs.FqlSound.{is_look, SpansSound, SomeSpansSound, EachSpansSound, PartsSound, SomeSound, EachSound}
use Rattle.sq_model.specs.declared.leaf.Leaf.{Leaf}
use Rattle.sq_model.specs.declared.fql.Look.{Look}
use Rattle.sq_model.specs.declared.fql.Look.TheVariants.{Searchable, One}
use Rattle.sq_model.specs.declared.fql.SpanTree.{SpanTree, Row_of-SpanTree, end_of-SpanTree, more_of-SpanTree, items-the_row-SpanTree, items_hidden-the_row-SpanTree-0}
use Rattle.sq_model.specs.declared.fql.SpanTree.TheBlock.{hidden-the_row-SpanTree-0}
use Rattle.sq_model.specs.declared.fql.SpanTree.TheVariants as spans
use Rattle.sq_model.specs.declared.fql.FTree.{FTree, Row_of-FTree, end_of-FTree, more_of-FTree, items-the_row-FTree, items_hidden-the_row-FTree-0}
use Rattle.sq_model.specs.declared.fql.FTree.TheBlock.{shape-the_row-FTree-1, hidden-the_row-FTree-0, hidden-the_row-FTree-1}
use Rattle.sq_model.specs.declared.fql.FTree.TheVariants as tree
use Rattle.sq_base.specs.Outcome.{Outcome, refused, or_refused, ◌>>=◌}
use Rattle.sq_fql.specs.declared.raw.FPiece.{FPiece}
use Rattle.sq_fql.specs.declared.raw.Mode.{Mode}
use Rattle.sq_fql.specs.declared.raw.Mode.TheVariants as mode
use Rattle.sq_fql.specs.declared.raw.Op.{Op}
use Rattle.sq_fql.specs.declared.raw.Op.TheVariants as op
use Rattle.sq_fql.specs.declared.raw.FRaw.{FRaw, All, Literal, Scope', Apply', Row_of-FRaw, end_of-FRaw, more_of-FRaw}
use Rattle.sq_fql.specs.WellFormed.{IsWithinLimits, IsDistance, HasForm, HaveForm}
use Rattle.sq_typing.specs.declared.codes.TheConstants.{TOO_MANY_FORMS}
use Rattle.sq_typing.specs.declared.fql_place.Place.{Place}
use Rattle.sq_typing.specs.declared.fql_place.Place.TheVariants as place
use Rattle.sq_typing.specs.Together.{mapped, all_of}
use Rattle.sq_typing.specs.FqlPlaces.{place_of, opened, entered, is_outside}
use Rattle.sq_typing.specs.FqlTexts.{listed, leaf_in, word_in, words, phrase, string, single_leaf, for_tokens, single_spans, string_spans, all_tokens, sole_pattern}
use Rattle.sq_typing.specs.FqlNumbers.{value_in, yes_no_in, within, numbers}
use Rattle.sq_typing.specs.Fql.{lone, string_span, joined_spans, joined_all, joins, proximity, proximate, proximate_each, with_few_copies, every_token, outermost, in_texts, in_scope, is_for_all, made, some_trees, only_tree, first_and_others, combined, combined_all, applied, every_item, literal, typed_at, typed_each}
use Rattle.sq_typing.proofs.FqlFilled.{HasToken, string_some}
use Rattle.sq_typing.proofs.TogetherLemmas.{if_mapped, if_together, if_bound}
use Rattle.sq_typing.proofs.ValueLemmas.{boost_is}

-- there is one, and it holds of all
abbrev SomeOf : {X : Type 0} → (X → Type 0) → List X → Type 0
SomeOf P [] = ⊥
SomeOf P (x ∷ xs) = P x × AllByRecursion P xs

-- ---- proximity expressions by lists

each_spans_row : {m : _} (row : Row_of-SpanTree m) → AllByRecursion SpansSound (items-the_row-SpanTree m row) → EachSpansSound row
each_spans_row end_of-SpanTree h = tt
each_spans_row (more_of-SpanTree part rest) h = (h.0, each_spans_row rest h.1)

some_spans_row : {m : _} (row : Row_of-SpanTree m) → SomeOf SpansSound (items-the_row-SpanTree m row) → SomeSpansSound row
some_spans_row end_of-SpanTree h = absurd h
some_spans_row (more_of-SpanTree part rest) h = (h.0, each_spans_row rest h.1)

some_spans : (ts : List SpanTree) → SomeOf SpansSound ts → SomeSpansSound (hidden-the_row-SpanTree-0 ts)
some_spans ts h = some_spans_row (hidden-the_row-SpanTree-0 ts) (subst (SomeOf SpansSound) (sym (items_hidden-the_row-SpanTree-0 ts)) h)

union_sound : (ts : List SpanTree) → SomeOf SpansSound ts → SpansSound (spans.Union ts)
union_sound ts h = some_spans ts h

near_sound : (ts : List SpanTree) (n : ℕ) (ordered : Bool) → n ≤ 1_000 → SomeOf SpansSound ts → SpansSound (spans.Near ts n ordered)
near_sound ts n ordered few h = (le-leb n 1_000 few, some_spans ts h)

-- ---- tokens of a string

module _ {A : Type 0} (P : A → Type 0) (f : SpanTree → A) (holds : (one : Leaf) → P (f (spans.Leaf one))) where
  tokens_from : (whole : Leaf) (a n : ℕ) → AllByRecursion P (map (λ i. f (single_leaf whole i)) (range_with_len a n))
  tokens_from whole a zero = tt
  tokens_from whole a (suc n) = (holds _, tokens_from whole (a + 1) n)

  some_tokens : (whole : Leaf) (a n : ℕ) → 0 < n → SomeOf P (map (λ i. f (single_leaf whole i)) (range_with_len a n))
  some_tokens whole a zero some = absurd (omega (arith, some))
  some_tokens whole a (suc n) some = (holds _, tokens_from whole (a + 1) n)

  pub tokens_hold : (whole : Leaf) → HasToken whole → SomeOf P (for_tokens f whole)
  tokens_hold whole some = some_tokens whole 0 (length whole.pattern.texts) some

singles_sound : (whole : Leaf) → HasToken whole → SomeOf SpansSound (single_spans whole)
singles_sound whole some = tokens_hold SpansSound (λ one. one) (λ one. tt) whole some

string_spans_sound : (m : Mode) (n : ℕ) (whole : Leaf) → IsDistance m n → HasToken whole → SpansSound (string_spans m n whole)
string_spans_sound mode.Phrase n whole few some = tt
string_spans_sound mode.And n whole few some = union_sound (single_spans whole) (singles_sound whole some)
string_spans_sound mode.Or n whole few some = union_sound (single_spans whole) (singles_sound whole some)
string_spans_sound mode.Any n whole few some = union_sound (single_spans whole) (singles_sound whole some)
string_spans_sound mode.Near n whole few some = near_sound (single_spans whole) n false few (singles_sound whole some)
string_spans_sound mode.Onear n whole few some = near_sound (single_spans whole) n true few (singles_sound whole some)

string_sound : (m : Mode) (n : ℕ) (operands : List FRaw) → IsDistance m n → IfOk (string_span m n operands) SpansSound
string_sound m n operands few = if_mapped (string_spans m n) (string operands) HasToken SpansSound (string_some operands) (λ whole h. string_spans_sound m n whole few h)

-- ---- operators inside near and onear

leaf_sound : (outcome : Outcome Leaf) → IfOk (mapped spans.Leaf outcome) SpansSound
leaf_sound (Ok whole) = tt
leaf_sound (Err e) = tt

word_sound : (o : FRaw) → IfOk (word_in o) SpansSound
word_sound (Literal p) = leaf_sound (leaf_in p)
word_sound (All at) = tt
word_sound (Scope' at name s inner) = tt
word_sound (Apply' at o s operands) = tt

each_word : (os : List FRaw) → IfOk (all_of (map word_in os)) (AllByRecursion SpansSound)
each_word [] = tt
each_word (o ∷ os) =
    if_together (λ t ts. t ∷ ts) (word_in o) (all_of (map word_in os)) SpansSound (AllByRecursion SpansSound) (AllByRecursion SpansSound)
    (word_sound o) (each_word os) (λ t ts h k. (h, k))

words_sound : (operands : List FRaw) → IfOk (words operands) SpansSound
words_sound [] = tt
words_sound (o ∷ os) =
    if_mapped spans.Union (all_of (map word_in (o ∷ os))) (SomeOf SpansSound) SpansSound
    (if_together (λ t ts. t ∷ ts) (word_in o) (all_of (map word_in os)) SpansSound (AllByRecursion SpansSound) (SomeOf SpansSound) (word_sound o) (each_word os) (λ t ts h k. (h, k)))
    (λ ts h. union_sound ts h)

lone_sound : (look : Look) (at : ℕ) (o : Op) (operands : List FRaw) → IsWithinLimits o → IfOk (lone look at o operands) SpansSound
lone_sound look at op.Words operands few = words_sound operands
lone_sound look at op.Phrase operands few = leaf_sound (phrase operands)
lone_sound look at (op.Str mode.And n) operands few = tt
lone_sound look at (op.Str mode.Phrase n) operands few = string_sound mode.Phrase n operands few
lone_sound look at (op.Str mode.Or n) operands few = string_sound mode.Or n operands few
lone_sound look at (op.Str mode.Any n) operands few = string_sound mode.Any n operands few
lone_sound look at (op.Str mode.Near n) operands few = string_sound mode.Near n operands few
lone_sound look at (op.Str mode.Onear n) operands few = string_sound mode.Onear n operands few
lone_sound look at _ operands few = tt

joined_sound : (o : Op) (ts : List SpanTree) → IsWithinLimits o → AllByRecursion SpansSound ts → IfOk (joined_spans o ts) SpansSound
joined_sound o [] few h = tt
joined_sound (op.Near n) (t ∷ ts) few h = near_sound (t ∷ ts) n false few h
joined_sound (op.Onear n) (t ∷ ts) few h = near_sound (t ∷ ts) n true few h
joined_sound _ (t ∷ ts) few h = union_sound (t ∷ ts) h

bound_sound : (o : Op) (parts : Outcome (List SpanTree)) → IsWithinLimits o → IfOk parts (AllByRecursion SpansSound) → IfOk (joined_all o parts) SpansSound
bound_sound o (Ok ts) few h = joined_sound o ts few h
bound_sound o (Err e) few h = tt

chosen_sound : (joining : Bool) (look : Look) (at : ℕ) (o : Op) (operands : List FRaw) (parts : Outcome (List SpanTree)) → IsWithinLimits o →
    IfOk parts (AllByRecursion SpansSound) → IfOk (if joining then joined_all o parts else lone look at o operands) SpansSound
chosen_sound true look at o operands parts few h = bound_sound o parts few h
chosen_sound false look at o operands parts few h = lone_sound look at o operands few

proximity_sound : (look : Look) (at : ℕ) (o : Op) (operands : List FRaw) (parts : List (Outcome SpanTree)) → IsWithinLimits o →
    IfOk (all_of parts) (AllByRecursion SpansSound) → IfOk (proximity look at o operands parts) SpansSound
unfolding proximity
proximity_sound look at o operands parts few h = chosen_sound (joins o) look at o operands (all_of parts) few h

module _ (schema : List Property) (look : Look) where
  mutual
    proximate_sound : (t : FRaw) → HasForm t → IfOk (proximate schema look t) SpansSound
    proximate_sound (All at) form = tt
    proximate_sound (Literal p) form = leaf_sound (leaf_in p)
    proximate_sound (Scope' at name s inner) form = tt
    proximate_sound (Apply' at o s operands) form =
        proximity_sound look at o (listed operands) (proximate_each schema look operands) form.1 (each_sound operands form.2)

    each_sound : {m : _} (row : Row_of-FRaw m) → HaveForm row → IfOk (all_of (proximate_each schema look row)) (AllByRecursion SpansSound)
    each_sound end_of-FRaw form = tt
    each_sound (more_of-FRaw part rest) form =
        if_together (λ t ts. t ∷ ts) (proximate schema look part) (all_of (proximate_each schema look rest)) SpansSound (AllByRecursion SpansSound) (AllByRecursion SpansSound)
        (proximate_sound part form.0) (each_sound rest form.1) (λ t ts h k. (h, k))

  -- the operands of a row as a list
  listed_sound : {m : _} (row : Row_of-FRaw m) → HaveForm row → IfOk (all_of (map (proximate schema look) (listed row))) (AllByRecursion SpansSound)
  listed_sound end_of-FRaw form = tt
  listed_sound (more_of-FRaw part rest) form =
      if_together (λ t ts. t ∷ ts) (proximate schema look part) (all_of (map (proximate schema look) (listed rest))) SpansSound (AllByRecursion SpansSound) (AllByRecursion SpansSound)
      (proximate_sound part form.0) (listed_sound rest form.1) (λ t ts h k. (h, k))

-- ---- trees by lists

module _ (schema : List Property) where
  abbrev Sound : FTree → Type 0
  Sound t = PartsSound schema t

  abbrev AllSound : List FTree → Type 0
  AllSound ts = AllByRecursion Sound ts

  each_row : {m : _} (row : Row_of-FTree m) → AllSound (items-the_row-FTree m row) → EachSound schema row
  each_row end_of-FTree h = tt
  each_row (more_of-FTree part rest) h = (h.0, each_row rest h.1)

  some_row : {m : _} (row : Row_of-FTree m) → SomeOf Sound (items-the_row-FTree m row) → SomeSound schema row
  some_row end_of-FTree h = absurd h
  some_row (more_of-FTree part rest) h = (h.0, each_row rest h.1)

  some_list : (ts : List FTree) → SomeOf Sound ts → SomeSound schema (hidden-the_row-FTree-0 ts)
  some_list ts h = some_row (hidden-the_row-FTree-0 ts) (subst (SomeOf Sound) (sym (items_hidden-the_row-FTree-0 ts)) h)

  and_sound : (ts : List FTree) → SomeOf Sound ts → Sound (tree.And ts)
  and_sound ts h = some_list ts h

  or_sound : (ts : List FTree) → SomeOf Sound ts → Sound (tree.Or ts)
  or_sound ts h = some_list ts h

  not_sound : (t : FTree) → Sound t → Sound (tree.Not t)
  unfolding shape-the_row-FTree-1 hidden-the_row-FTree-1 denote.Hole.Carrier.hidden
  not_sound t h = (h, tt)

  filter_sound : (t : FTree) → Sound t → Sound (tree.Filter t)
  unfolding shape-the_row-FTree-1 hidden-the_row-FTree-1 denote.Hole.Carrier.hidden
  filter_sound t h = (h, tt)

  and_not_sound : (t : FTree) (ts : List FTree) → Sound t → SomeOf Sound ts → Sound (tree.AndNot t ts)
  unfolding shape-the_row-FTree-1 hidden-the_row-FTree-1 denote.Hole.Carrier.hidden
  and_not_sound t ts h k = ((h, tt), some_list ts k)

  xrank_sound : (t : FTree) (ts : List FTree) (cb : ℤ) → Sound t → SomeOf Sound ts → is_boost cb ≡ true → Sound (tree.Xrank t ts cb)
  unfolding shape-the_row-FTree-1 hidden-the_row-FTree-1 denote.Hole.Carrier.hidden
  xrank_sound t ts cb h k boost = ((h, tt), some_list ts k, boost)

-- ---- places

abbrev IsPlace : List Property → Place → Type 0
IsPlace schema (place.Texts look) = is_look schema look ≡ true
IsPlace schema (place.Numbers row m) = is_number_property schema row ≡ true
IsPlace schema (place.YesNo row) = is_number_property schema row ≡ true

module _ (schema : List Property) where
  abbrev IfPlace : Option Place → Type 0
  IfPlace None = Unit {0}
  IfPlace (Some here) = IsPlace schema here

  placed : (row : ℕ) (k : Kind) → kind_of schema row ≡ Some k → IsPlace schema (place_of row k)
  placed row kind.Text is = rw is refl
  placed row kind.Integer is = rw is refl
  placed row kind.DateTime is = rw is refl
  placed row kind.YesNo is = rw is refl

  of_kind : (row : ℕ) (k : Option Kind) → kind_of schema row ≡ k → IfPlace (option_map (place_of row) k)
  of_kind row None is = tt
  of_kind row (Some k) is = placed row k is

  of_row : (row : Option ℕ) → IfPlace (option_and_then (λ r. option_map (place_of r) (kind_of schema r)) row)
  of_row None = tt
  of_row (Some r) = of_kind r (kind_of schema r) refl

  of_name : (name : List ℕ) → IfPlace (opened schema name)
  unfolding opened
  of_name name = of_row (position (has_name name) schema)

  outside_by : (found : Option Place) (outside : Bool) (code other at : ℕ) → IfPlace found →
      IfOk (or_refused found code at >>= (λ inside. if outside then Ok inside else refused other at)) (IsPlace schema)
  outside_by None outside code other at h = tt
  outside_by (Some here) true code other at h = h
  outside_by (Some here) false code other at h = tt

  entered_place : (here : Place) (at : ℕ) (name : List ℕ) → IfOk (entered schema here at name) (IsPlace schema)
  unfolding entered
  entered_place here at name = outside_by (opened schema name) (is_outside here) _ _ at (of_name name)

-- ---- operators

module _ (schema : List Property) where
  if_made : {A : Type 0} (f : A → FTree) (x : Option A) (P : A → Type 0) → IfSome x P → ((a : A) → P a → Sound schema (f a)) → IfOk (made f x) (Sound schema)
  if_made f (Some a) P h k = k a h
  if_made f None P h k = tt

  some_are : (ts : List FTree) → AllSound schema ts → IfSome (some_trees ts) (SomeOf (Sound schema))
  some_are [] h = tt
  some_are (t ∷ ts) h = h

  only_is : (ts : List FTree) → AllSound schema ts → IfSome (only_tree ts) (Sound schema)
  only_is [] h = tt
  only_is (t ∷ []) h = h.0
  only_is (t ∷ (u ∷ us)) h = tt

  abbrev FirstSound : FTree × List FTree → Type 0
  FirstSound p = Sound schema p.0 × SomeOf (Sound schema) p.1

  first_is : (ts : List FTree) → AllSound schema ts → IfSome (first_and_others ts) FirstSound
  first_is [] h = tt
  first_is (t ∷ []) h = tt
  first_is (t ∷ (u ∷ us)) h = h

  combined_sound : (o : Op) (ts : List FTree) → IsWithinLimits o → AllSound schema ts → IfOk (combined o ts) (Sound schema)
  combined_sound op.And ts few h = if_made tree.And (some_trees ts) (SomeOf (Sound schema)) (some_are ts h) (λ us k. and_sound schema us k)
  combined_sound op.Or ts few h = if_made tree.Or (some_trees ts) (SomeOf (Sound schema)) (some_are ts h) (λ us k. or_sound schema us k)
  combined_sound op.Any ts few h = if_made tree.Or (some_trees ts) (SomeOf (Sound schema)) (some_are ts h) (λ us k. or_sound schema us k)
  combined_sound op.AndNot ts few h =
      if_made (λ p. tree.AndNot p.0 p.1) (first_and_others ts) FirstSound (first_is ts h) (λ p k. and_not_sound schema p.0 p.1 k.0 k.1)
  combined_sound op.Not ts few h = if_made tree.Not (only_tree ts) (Sound schema) (only_is ts h) (λ t k. not_sound schema t k)
  combined_sound op.Filter ts few h = if_made tree.Filter (only_tree ts) (Sound schema) (only_is ts h) (λ t k. filter_sound schema t k)
  combined_sound (op.Xrank cb) ts few h =
      if_made (λ p. tree.Xrank p.0 p.1 cb) (first_and_others ts) FirstSound (first_is ts h) (λ p k. xrank_sound schema p.0 p.1 cb k.0 k.1 (boost_is cb few))
  combined_sound _ ts few h = tt

  few_by : (few : Bool) (at : ℕ) (look : Look) (t : SpanTree) → nat_le (copies t) 256 ≡ few → is_look schema look ≡ true → SpansSound t →
      IfOk (if few then Ok (tree.Spans look t) else refused TOO_MANY_FORMS at) (Sound schema)
  few_by true at look t is looks sound = (looks, sound, is)
  few_by false at look t is looks sound = tt

  few_sound : (at : ℕ) (look : Look) (t : SpanTree) → is_look schema look ≡ true → SpansSound t → IfOk (with_few_copies at look t) (Sound schema)
  unfolding with_few_copies
  few_sound at look t looks sound = few_by (nat_le (copies t) 256) at look t refl looks sound

  outermost_sound : {m : _} (look : Look) (at : ℕ) (o : Op) (row : Row_of-FRaw m) → is_look schema look ≡ true → IsWithinLimits o → HaveForm row →
      IfOk (outermost schema look at o (listed row)) (Sound schema)
  outermost_sound look at o row looks few form =
      if_bound (proximity look at o (listed row) (map (proximate schema look) (listed row))) (with_few_copies at look) SpansSound (Sound schema)
      (proximity_sound look at o (listed row) (map (proximate schema look) (listed row)) few (listed_sound schema look row form)) (λ t h. few_sound at look t looks h)

  pattern_sound : (look : Look) (f : Leaf → FTree) (pattern : Outcome Leaf) → ((one : Leaf) → Sound schema (f one)) → IfOk (mapped f pattern) (Sound schema)
  pattern_sound look f (Ok one) h = h one
  pattern_sound look f (Err e) h = tt

  tokens_sound : (look : Look) (operands : List FRaw) → is_look schema look ≡ true → IfOk (every_token look operands) (Sound schema)
  tokens_sound look operands looks =
      if_mapped (all_tokens look) (string operands) HasToken (Sound schema) (string_some operands)
      (λ whole some. and_sound schema (for_tokens (tree.Spans look) whole) (tokens_hold (Sound schema) (tree.Spans look) (λ one. (looks, tt, refl)) whole some))

  in_texts_sound : {m : _} (look : Look) (at : ℕ) (o : Op) (row : Row_of-FRaw m) → is_look schema look ≡ true → IsWithinLimits o → HaveForm row →
      IfOk (in_texts schema look at o (listed row)) (Sound schema)
  in_texts_sound look at (op.Range above below) row looks few form = tt
  in_texts_sound look at op.Int row looks few form = tt
  in_texts_sound look at op.DateTime row looks few form = tt
  in_texts_sound look at (op.Count from to) row looks few form = pattern_sound look (λ one. tree.Count look one from to) (sole_pattern schema (listed row)) (λ one. looks)
  in_texts_sound look at op.StartsWith row looks few form = pattern_sound look (λ one. tree.Edge look one true false) (sole_pattern schema (listed row)) (λ one. looks)
  in_texts_sound look at op.EndsWith row looks few form = pattern_sound look (λ one. tree.Edge look one false true) (sole_pattern schema (listed row)) (λ one. looks)
  in_texts_sound look at op.Equals row looks few form = pattern_sound look (λ one. tree.Edge look one true true) (sole_pattern schema (listed row)) (λ one. looks)
  in_texts_sound look at (op.Str mode.And n) row looks few form = tokens_sound look (listed row) looks
  in_texts_sound look at (op.Str mode.Phrase n) row looks few form = outermost_sound look at (op.Str mode.Phrase n) row looks few form
  in_texts_sound look at (op.Str mode.Or n) row looks few form = outermost_sound look at (op.Str mode.Or n) row looks few form
  in_texts_sound look at (op.Str mode.Any n) row looks few form = outermost_sound look at (op.Str mode.Any n) row looks few form
  in_texts_sound look at (op.Str mode.Near n) row looks few form = outermost_sound look at (op.Str mode.Near n) row looks few form
  in_texts_sound look at (op.Str mode.Onear n) row looks few form = outermost_sound look at (op.Str mode.Onear n) row looks few form
  in_texts_sound look at op.And row looks few form = outermost_sound look at op.And row looks few form
  in_texts_sound look at op.Or row looks few form = outermost_sound look at op.Or row looks few form
  in_texts_sound look at op.Any row looks few form = outermost_sound look at op.Any row looks few form
  in_texts_sound look at op.AndNot row looks few form = outermost_sound look at op.AndNot row looks few form
  in_texts_sound look at op.Not row looks few form = outermost_sound look at op.Not row looks few form
  in_texts_sound look at op.Filter row looks few form = outermost_sound look at op.Filter row looks few form
  in_texts_sound look at op.Words row looks few form = outermost_sound look at op.Words row looks few form
  in_texts_sound look at op.Phrase row looks few form = outermost_sound look at op.Phrase row looks few form
  in_texts_sound look at (op.Near n) row looks few form = outermost_sound look at (op.Near n) row looks few form
  in_texts_sound look at (op.Onear n) row looks few form = outermost_sound look at (op.Onear n) row looks few form
  in_texts_sound look at (op.Xrank cb) row looks few form = outermost_sound look at (op.Xrank cb) row looks few form

  within_sound : (row : ℕ) (numbers : Outcome Interval) → is_number_property schema row ≡ true → IfOk (mapped (within row) numbers) (Sound schema)
  within_sound row (Ok i) h = h
  within_sound row (Err e) h = tt

  in_scope_sound : {m : _} (here : Place) (at : ℕ) (o : Op) (row : Row_of-FRaw m) → IsPlace schema here → IsWithinLimits o → HaveForm row →
      IfOk (in_scope schema here at o (listed row)) (Sound schema)
  in_scope_sound (place.Texts look) at o row is few form = in_texts_sound look at o row is few form
  in_scope_sound (place.Numbers property m) at o row is few form = within_sound property (numbers schema m at o (listed row)) is
  in_scope_sound (place.YesNo property) at o row is few form = tt

  combined_all_sound : (o : Op) (trees : Outcome (List FTree)) → IsWithinLimits o → IfOk trees (AllSound schema) → IfOk (combined_all o trees) (Sound schema)
  combined_all_sound o (Ok ts) few h = combined_sound o ts few h
  combined_all_sound o (Err e) few h = tt

  applied_by : {m : _} (for_all : Bool) (here : Place) (at : ℕ) (o : Op) (row : Row_of-FRaw m) (trees : Outcome (List FTree)) → IsPlace schema here → IsWithinLimits o →
      HaveForm row → IfOk trees (AllSound schema) → IfOk (if for_all then combined_all o trees else in_scope schema here at o (listed row)) (Sound schema)
  applied_by true here at o row trees is few form h = combined_all_sound o trees few h
  applied_by false here at o row trees is few form h = in_scope_sound here at o row is few form

  applied_sound : {m : _} (here : Place) (at : ℕ) (o : Op) (row : Row_of-FRaw m) (parts : List (Outcome FTree)) → IsPlace schema here → IsWithinLimits o → HaveForm row →
      IfOk (all_of parts) (AllSound schema) → IfOk (applied schema here at o (listed row) parts) (Sound schema)
  unfolding applied
  applied_sound here at o row parts is few form h = applied_by (is_for_all o) here at o row (all_of parts) is few form h

  every_item_sound : (here : Place) (at : ℕ) → IfOk (every_item here at) (Sound schema)
  every_item_sound (place.Texts Searchable) at = tt
  every_item_sound (place.Texts (One row)) at = tt
  every_item_sound (place.Numbers row m) at = tt
  every_item_sound (place.YesNo row) at = tt

  literal_sound : (here : Place) (p : FPiece) → IsPlace schema here → IfOk (literal here p) (Sound schema)
  literal_sound (place.Texts look) p is = pattern_sound look (λ one. tree.Spans look (spans.Leaf one)) (leaf_in p) (λ one. (is, tt, refl))
  literal_sound (place.Numbers row m) p is = within_sound row (value_in m p) is
  literal_sound (place.YesNo row) p is = within_sound row (yes_no_in p) is

  mutual
    pub typed_sound : (here : Place) (t : FRaw) → IsPlace schema here → HasForm t → IfOk (typed_at schema here t) (PartsSound schema)
    typed_sound here (All at) is form = every_item_sound here at
    typed_sound here (Literal p) is form = literal_sound here p is
    typed_sound here (Scope' at name s (more_of-FRaw inner end_of-FRaw)) is form =
        if_bound (entered schema here at name) (λ inside. typed_at schema inside inner) (IsPlace schema) (PartsSound schema) (entered_place schema here at name)
        (λ inside h. typed_sound inside inner h form.1.0)
    typed_sound here (Apply' at o s operands) is form = applied_sound here at o operands (typed_each schema here operands) is form.1 form.2 (each_typed here operands is form.2)

    each_typed : {m : _} (here : Place) (row : Row_of-FRaw m) → IsPlace schema here → HaveForm row → IfOk (all_of (typed_each schema here row)) (AllSound schema)
    each_typed here end_of-FRaw is form = tt
    each_typed here (more_of-FRaw part rest) is form =
        if_together (λ t ts. t ∷ ts) (typed_at schema here part) (all_of (typed_each schema here rest)) (PartsSound schema) (AllSound schema) (AllSound schema)
        (typed_sound here part is form.0) (each_typed here rest is form.1) (λ t ts h k. (h, k))

  pub parts_sound : (t : FRaw) → HasForm t → IfOk (typed_at schema (place.Texts Searchable) t) (PartsSound schema)
  parts_sound t form = typed_sound (place.Texts Searchable) t refl form
