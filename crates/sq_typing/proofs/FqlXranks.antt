-- A typed tree of FQL has no more xrank than its raw tree.
use Rattle.std.proofs.Common.{◌≡◌, ℕ, zero, suc, ◌+◌, ◌≤◌, Bool, true, false, List, [], ◌∷◌, map, length, refl, ap, ◌∙◌, arith}
use Rattle.std.specs.Prelude.{Ok, Err, IfOk, if◌then◌else◌, nat_le, sum}
use Rattle.std.specs.List.{range_with_len}
use Rattle.std.proofs.lemmas.List.Sums.{sum_by-cons}
use Rattle.sq_schema.specs.declared.interval.Interval.{Interval}
use Rattle.sq_schema.specs.declared.property.Property.{Property}
use Rattle.sq_model.specs.Copies.{copies}
use Rattle.sq_model.specs.FqlSound.{xranks_in, xranks_each}
use Rattle.sq_model.specs.declared.leaf.Leaf.{Leaf}
use Rattle.sq_model.specs.declared.fql.Look.{Look}
use Rattle.sq_model.specs.declared.fql.Look.TheVariants.{Searchable, One}
use Rattle.sq_model.specs.declared.fql.SpanTree.{SpanTree}
use Rattle.sq_model.specs.declared.fql.SpanTree.TheVariants as spans
use Rattle.sq_model.specs.declared.fql.FTree.{FTree, Row_of-FTree, end_of-FTree, more_of-FTree, items-the_row-FTree, items_hidden-the_row-FTree-0}
use Rattle.sq_model.specs.declared.fql.FTree.TheBlock.{shape-the_row-FTree-1, hidden-the_row-FTree-0, hidden-the_row-FTree-1}
use Rattle.sq_model.specs.declared.fql.FTree.TheVariants as tree
use Rattle.sq_base.specs.Outcome.{Outcome, refused}
use Rattle.sq_fql.specs.declared.raw.FPiece.{FPiece}
use Rattle.sq_fql.specs.declared.raw.Mode.TheVariants as mode
use Rattle.sq_fql.specs.declared.raw.Op.{Op}
use Rattle.sq_fql.specs.declared.raw.Op.TheVariants as op
use Rattle.sq_fql.specs.declared.raw.FRaw.{FRaw, All, Literal, Scope', Apply', Row_of-FRaw, end_of-FRaw, more_of-FRaw}
use Rattle.sq_fql.specs.WellFormed.{is_xrank, xranks, xranks_each as raw_xranks}
use Rattle.sq_typing.specs.declared.codes.TheConstants.{TOO_MANY_FORMS}
use Rattle.sq_typing.specs.declared.fql_place.Place.{Place}
use Rattle.sq_typing.specs.declared.fql_place.Place.TheVariants as place
use Rattle.sq_typing.specs.Together.{mapped, all_of}
use Rattle.sq_typing.specs.FqlPlaces.{entered}
use Rattle.sq_typing.specs.FqlTexts.{listed, leaf_in, string, single_leaf, for_tokens, all_tokens, sole_pattern}
use Rattle.sq_typing.specs.FqlNumbers.{value_in, yes_no_in, within, numbers}
use Rattle.sq_typing.specs.Fql.{proximity, proximate, with_few_copies, outermost, every_token, in_texts, in_scope, is_for_all, combined_all, applied, every_item, literal, typed_at, typed_each}
use Rattle.sq_typing.proofs.TogetherLemmas.{if_together, if_any, if_bound}
use Rattle.sq_typing.proofs.FqlAmounts.{amounts, AtMost, IsSummed, combined_all_few, wider}

abbrev all_xranks : List FTree → ℕ
all_xranks ts = amounts xranks_in ts

xranks_row : {m : _} (row : Row_of-FTree m) → sum (xranks_each row) ≡ all_xranks (items-the_row-FTree m row)
xranks_row end_of-FTree = refl
xranks_row (more_of-FTree part rest) = sum_by-cons (λ n. n) (xranks_in part) (xranks_each rest) ∙ ap (λ n. xranks_in part + n) (xranks_row rest)

xranks_list : (ts : List FTree) → sum (xranks_each (hidden-the_row-FTree-0 ts)) ≡ all_xranks ts
xranks_list ts = xranks_row (hidden-the_row-FTree-0 ts) ∙ ap all_xranks (items_hidden-the_row-FTree-0 ts)

xranks_one : (t : FTree) → sum (xranks_in t ∷ []) ≡ xranks_in t
xranks_one t = omega arith

xranks_summed : IsSummed xranks_in is_xrank
unfolding shape-the_row-FTree-1 hidden-the_row-FTree-1 denote.Hole.Carrier.hidden
xranks_summed = record {
  of_and = λ ts. omega (arith, xranks_list ts);
  of_or = λ ts. omega (arith, xranks_list ts);
  of_not = λ t. omega (arith, xranks_one t);
  of_filter = λ t. omega (arith, xranks_one t);
  of_and_not = λ t ts. omega (arith, xranks_one t, xranks_list ts);
  of_xrank = λ t ts cb. omega (arith, xranks_one t, xranks_list ts);
}

-- no more than so many
abbrev Few : ℕ → FTree → Type 0
Few n t = AtMost xranks_in n t

if_always : {A B : Type 0} (f : A → B) (x : Outcome A) (Q : B → Type 0) → ((a : A) → Q (f a)) → IfOk (mapped f x) Q
if_always f (Ok a) Q k = k a
if_always f (Err e) Q k = tt

-- ---- the others, which have none

abbrev None_in : FTree → Type 0
None_in t = xranks_in t ≡ 0

few_by : (few : Bool) (at : ℕ) (look : Look) (t : SpanTree) → IfOk (if few then Ok (tree.Spans look t) else refused TOO_MANY_FORMS at) None_in
few_by true at look t = refl
few_by false at look t = tt

few_none : (at : ℕ) (look : Look) (t : SpanTree) → IfOk (with_few_copies at look t) None_in
unfolding with_few_copies
few_none at look t = few_by (nat_le (copies t) 256) at look t

outermost_none : (schema : List Property) (look : Look) (at : ℕ) (o : Op) (operands : List FRaw) → IfOk (outermost schema look at o operands) None_in
outermost_none schema look at o operands =
    let near = proximity look at o operands (map (proximate schema look) operands) in
    if_bound near (with_few_copies at look) (λ t. Unit {0}) None_in (if_any near) (λ t h. few_none at look t)

tokens_none : (look : Look) (whole : Leaf) (a n : ℕ) → all_xranks (map (λ i. tree.Spans look (single_leaf whole i)) (range_with_len a n)) ≡ 0
tokens_none look whole a zero = refl
tokens_none look whole a (suc n) = omega (arith, tokens_none look whole (a + 1) n)

string_none : (look : Look) (operands : List FRaw) → IfOk (every_token look operands) None_in
string_none look operands =
    if_always (all_tokens look) (string operands) None_in
    (λ whole. xranks_list (for_tokens (tree.Spans look) whole) ∙ tokens_none look whole 0 (length whole.pattern.texts))

within_none : (row : ℕ) (found : Outcome Interval) → IfOk (mapped (within row) found) None_in
within_none row found = if_always (within row) found None_in (λ i. refl)

module _ (schema : List Property) where
  in_texts_none : (look : Look) (at : ℕ) (o : Op) (operands : List FRaw) → IfOk (in_texts schema look at o operands) None_in
  in_texts_none look at (op.Range above below) operands = tt
  in_texts_none look at op.Int operands = tt
  in_texts_none look at op.DateTime operands = tt
  in_texts_none look at (op.Count from to) operands = if_always (λ one. tree.Count look one from to) (sole_pattern schema operands) None_in (λ one. refl)
  in_texts_none look at op.StartsWith operands = if_always (λ one. tree.Edge look one true false) (sole_pattern schema operands) None_in (λ one. refl)
  in_texts_none look at op.EndsWith operands = if_always (λ one. tree.Edge look one false true) (sole_pattern schema operands) None_in (λ one. refl)
  in_texts_none look at op.Equals operands = if_always (λ one. tree.Edge look one true true) (sole_pattern schema operands) None_in (λ one. refl)
  in_texts_none look at (op.Str mode.And n) operands = string_none look operands
  in_texts_none look at (op.Str mode.Phrase n) operands = outermost_none schema look at _ operands
  in_texts_none look at (op.Str mode.Or n) operands = outermost_none schema look at _ operands
  in_texts_none look at (op.Str mode.Any n) operands = outermost_none schema look at _ operands
  in_texts_none look at (op.Str mode.Near n) operands = outermost_none schema look at _ operands
  in_texts_none look at (op.Str mode.Onear n) operands = outermost_none schema look at _ operands
  in_texts_none look at _ operands = outermost_none schema look at _ operands

  in_scope_none : (here : Place) (at : ℕ) (o : Op) (operands : List FRaw) → IfOk (in_scope schema here at o operands) None_in
  in_scope_none (place.Texts look) at o operands = in_texts_none look at o operands
  in_scope_none (place.Numbers property m) at o operands = within_none property (numbers schema m at o operands)
  in_scope_none (place.YesNo property) at o operands = tt

  none_few : (x : Outcome FTree) (n : ℕ) → IfOk x None_in → IfOk x (Few n)
  none_few (Ok t) n h = omega (arith, h)
  none_few (Err e) n h = tt

  applied_by : (for_all : Bool) (here : Place) (at : ℕ) (o : Op) (operands : List FRaw) (trees : Outcome (List FTree)) (n : ℕ) → IfOk trees (λ ts. all_xranks ts ≤ n) →
      IfOk (if for_all then combined_all o trees else in_scope schema here at o operands) (Few (is_xrank o + n))
  applied_by true here at o operands trees n h = combined_all_few xranks_in is_xrank xranks_summed o trees n h
  applied_by false here at o operands trees n h = none_few (in_scope schema here at o operands) (is_xrank o + n) (in_scope_none here at o operands)

  applied_few : (here : Place) (at : ℕ) (o : Op) (operands : List FRaw) (parts : List (Outcome FTree)) (n : ℕ) → IfOk (all_of parts) (λ ts. all_xranks ts ≤ n) →
      IfOk (applied schema here at o operands parts) (Few (is_xrank o + n))
  unfolding applied
  applied_few here at o operands parts n h = applied_by (is_for_all o) here at o operands (all_of parts) n h

  every_item_few : (here : Place) (at : ℕ) → IfOk (every_item here at) (Few 0)
  every_item_few (place.Texts Searchable) at = omega arith
  every_item_few (place.Texts (One row)) at = tt
  every_item_few (place.Numbers row m) at = tt
  every_item_few (place.YesNo row) at = tt

  literal_few : (here : Place) (p : FPiece) → IfOk (literal here p) (Few 0)
  literal_few (place.Texts look) p = if_always (λ one. tree.Spans look (spans.Leaf one)) (leaf_in p) (Few 0) (λ one. omega arith)
  literal_few (place.Numbers row m) p = none_few (mapped (within row) (value_in m p)) 0 (within_none row (value_in m p))
  literal_few (place.YesNo row) p = none_few (mapped (within row) (yes_no_in p)) 0 (within_none row (yes_no_in p))

  mutual
    pub typed_few : (here : Place) (t : FRaw) → IfOk (typed_at schema here t) (Few (xranks t))
    typed_few here (All at) = every_item_few here at
    typed_few here (Literal p) = literal_few here p
    typed_few here (Scope' at name s (more_of-FRaw inner end_of-FRaw)) =
        if_bound (entered schema here at name) (λ inside. typed_at schema inside inner) (λ inside. Unit {0}) (Few (xranks inner + 0)) (if_any (entered schema here at name))
        (λ inside h. wider xranks_in (typed_at schema inside inner) (xranks inner) (xranks inner + 0) (omega arith) (typed_few inside inner))
    typed_few here (Apply' at o s operands) = applied_few here at o (listed operands) (typed_each schema here operands) (raw_xranks operands) (each_few here operands)

    each_few : {m : _} (here : Place) (row : Row_of-FRaw m) → IfOk (all_of (typed_each schema here row)) (λ ts. all_xranks ts ≤ raw_xranks row)
    each_few here end_of-FRaw = omega arith
    each_few here (more_of-FRaw part rest) =
        if_together (λ t ts. t ∷ ts) (typed_at schema here part) (all_of (typed_each schema here rest)) (Few (xranks part)) (λ ts. all_xranks ts ≤ raw_xranks rest)
        (λ ts. all_xranks ts ≤ xranks part + raw_xranks rest) (typed_few here part) (each_few here rest) (λ t ts h k. omega (arith, h, k))
