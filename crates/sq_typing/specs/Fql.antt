-- The typed tree of an FQL expression for a schema, or the fault that goes first. [MS-FQL2]
use Rattle.std.specs.Prelude.{ℕ, nat_le, List, [], ◌∷◌, map, Bool, true, false, if◌then◌else◌, Option, Some, None, Ok, Err}
use Rattle.sq_schema.specs.declared.property.Property.{Property}
use Rattle.sq_model.specs.Copies.{copies}
use Rattle.sq_model.specs.declared.leaf.Leaf.{Leaf}
use Rattle.sq_model.specs.declared.fql.Look.{Look}
use Rattle.sq_model.specs.declared.fql.Look.TheVariants.{Searchable}
use Rattle.sq_model.specs.declared.fql.SpanTree.{SpanTree}
use Rattle.sq_model.specs.declared.fql.SpanTree.TheVariants as spans
use Rattle.sq_model.specs.declared.fql.FTree.{FTree}
use Rattle.sq_model.specs.declared.fql.FTree.TheVariants as tree
use Rattle.sq_model.specs.Limits.{most_copies}
use Rattle.sq_base.specs.Outcome.{Outcome, refused, ◌>>=◌}
use Rattle.sq_fql.specs.declared.raw.FPiece.{FPiece}
use Rattle.sq_fql.specs.declared.raw.Mode.{Mode}
use Rattle.sq_fql.specs.declared.raw.Mode.TheVariants as mode
use Rattle.sq_fql.specs.declared.raw.Op.{Op}
use Rattle.sq_fql.specs.declared.raw.Op.TheVariants as op
use Rattle.sq_fql.specs.declared.raw.FRaw.{FRaw, All, Literal, Scope', Apply', Row_of-FRaw, end_of-FRaw, more_of-FRaw}
use Rattle.sq_typing.specs.declared.codes.TheConstants.{WRONG_OPERATOR, NOT_IN_PROXIMITY, TOO_MANY_FORMS}
use Rattle.sq_typing.specs.declared.fql_codes.TheConstants.{NEEDS_PROPERTY}
use Rattle.sq_typing.specs.declared.fql_place.Place.{Place}
use Rattle.sq_typing.specs.declared.fql_place.Place.TheVariants as place
use Rattle.sq_typing.specs.FqlPlaces.{entered, misplaced, barred}
use Rattle.sq_typing.specs.FqlTexts.{unread, listed, leaf_in, span_in, words, phrase, string, string_spans, all_tokens, sole_pattern}
use Rattle.sq_typing.specs.FqlNumbers.{value_in, yes_no_in, within, numbers}
use Rattle.sq_typing.specs.Together.{mapped, all_of}

-- ---- proximity expressions

abbrev pub phrase_span : List FRaw → Outcome SpanTree
phrase_span operands = mapped spans.Leaf (phrase operands)

abbrev pub string_span : Mode → ℕ → List FRaw → Outcome SpanTree
string_span m n operands = mapped (string_spans m n) (string operands)

-- An operator inside near or onear that joins no proximity expressions: words, phrase, and string in all modes but AND. Of another nothing is judged but
-- whether it is one for texts.
abbrev pub lone : Look → ℕ → Op → List FRaw → Outcome SpanTree
lone look at op.Words operands = words operands
lone look at op.Phrase operands = phrase_span operands
lone look at (op.Str mode.And n) operands = refused NOT_IN_PROXIMITY at
lone look at (op.Str m n) operands = string_span m n operands
lone look at (op.Range above below) operands = Err (barred look NOT_IN_PROXIMITY WRONG_OPERATOR at)
lone look at op.Int operands = Err (barred look NOT_IN_PROXIMITY WRONG_OPERATOR at)
lone look at op.DateTime operands = Err (barred look NOT_IN_PROXIMITY WRONG_OPERATOR at)
lone look at _ operands = refused NOT_IN_PROXIMITY at

-- the operators that join proximity expressions
abbrev pub joins : Op → Bool
joins op.Or = true
joins op.Any = true
joins (op.Near n) = true
joins (op.Onear n) = true
joins _ = false

abbrev pub joined_spans : Op → List SpanTree → Outcome SpanTree
joined_spans o [] = unread
joined_spans (op.Near n) parts = Ok (spans.Near parts n false)
joined_spans (op.Onear n) parts = Ok (spans.Near parts n true)
joined_spans o parts = Ok (spans.Union parts)

abbrev pub joined_all : Op → Outcome (List SpanTree) → Outcome SpanTree
joined_all o parts = parts >>= joined_spans o

-- an operator inside near or onear, with the outcomes of its operands there
unfoldable pub proximity : Look → ℕ → Op → List FRaw → List (Outcome SpanTree) → Outcome SpanTree
proximity look at o operands parts = if joins o then joined_all o (all_of parts) else lone look at o operands

module _ (schema : List Property) (look : Look) where
  abbrev mutual
    -- an expression inside near or onear, outside of every scope or in a text scope
    pub proximate : FRaw → Outcome SpanTree
    proximate (All at) = Err (barred look NOT_IN_PROXIMITY WRONG_OPERATOR at)
    proximate (Literal p) = span_in p
    proximate (Scope' at name s inner) = Err (misplaced schema NOT_IN_PROXIMITY at name)
    proximate (Apply' at o s operands) = proximity look at o (listed operands) (proximate_each operands)

    pub proximate_each : {m : _} → Row_of-FRaw m → List (Outcome SpanTree)
    proximate_each end_of-FRaw = []
    proximate_each (more_of-FRaw part rest) = proximate part ∷ proximate_each rest

-- an outermost proximity expression has not too many copies
unfoldable pub with_few_copies : ℕ → Look → SpanTree → Outcome FTree
with_few_copies at look t = if nat_le (copies t) most_copies then Ok (tree.Spans look t) else refused TOO_MANY_FORMS at

abbrev pub few_copies : ℕ → Look → Outcome SpanTree → Outcome FTree
few_copies at look near = near >>= with_few_copies at look

-- ---- operators

abbrev pub edge : Look → Bool → Bool → Outcome Leaf → Outcome FTree
edge look starts ends pattern = mapped (λ leaf. tree.Edge look leaf starts ends) pattern

abbrev pub counted : Look → ℕ → Option ℕ → Outcome Leaf → Outcome FTree
counted look from to pattern = mapped (λ leaf. tree.Count look leaf from to) pattern

-- a string in mode AND
abbrev pub every_token : Look → List FRaw → Outcome FTree
every_token look operands = mapped (all_tokens look) (string operands)

-- a proximity expression that stands in no other
abbrev pub outermost : List Property → Look → ℕ → Op → List FRaw → Outcome FTree
outermost schema look at o operands = few_copies at look (proximity look at o operands (map (proximate schema look) operands))

-- an operator that isn't for all kinds, outside of every scope or in a text scope
abbrev pub in_texts : List Property → Look → ℕ → Op → List FRaw → Outcome FTree
in_texts schema look at (op.Range above below) operands = Err (barred look NEEDS_PROPERTY WRONG_OPERATOR at)
in_texts schema look at op.Int operands = Err (barred look NEEDS_PROPERTY WRONG_OPERATOR at)
in_texts schema look at op.DateTime operands = Err (barred look NEEDS_PROPERTY WRONG_OPERATOR at)
in_texts schema look at (op.Count from to) operands = counted look from to (sole_pattern schema operands)
in_texts schema look at op.StartsWith operands = edge look true false (sole_pattern schema operands)
in_texts schema look at op.EndsWith operands = edge look false true (sole_pattern schema operands)
in_texts schema look at op.Equals operands = edge look true true (sole_pattern schema operands)
in_texts schema look at (op.Str mode.And n) operands = every_token look operands
in_texts schema look at o operands = outermost schema look at o operands

abbrev pub in_scope : List Property → Place → ℕ → Op → List FRaw → Outcome FTree
in_scope schema (place.Texts look) at o operands = in_texts schema look at o operands
in_scope schema (place.Numbers row m) at o operands = mapped (within row) (numbers schema m at o operands)
in_scope schema (place.YesNo row) at o operands = refused WRONG_OPERATOR at

-- the operators that all kinds have
abbrev pub is_for_all : Op → Bool
is_for_all op.And = true
is_for_all op.Or = true
is_for_all op.Any = true
is_for_all op.AndNot = true
is_for_all op.Not = true
is_for_all op.Filter = true
is_for_all (op.Xrank cb) = true
is_for_all _ = false

-- the trees, of which there is one at least
abbrev pub some_trees : List FTree → Option (List FTree)
some_trees [] = None
some_trees (t ∷ ts) = Some (t ∷ ts)

abbrev pub only_tree : List FTree → Option FTree
only_tree (t ∷ []) = Some t
only_tree _ = None

-- the first tree and the others, of which there is one at least
abbrev pub first_and_others : List FTree → Option (FTree × List FTree)
first_and_others (t ∷ (u ∷ us)) = Some (t, u ∷ us)
first_and_others _ = None

abbrev pub made : {A : Type 0} → (A → FTree) → Option A → Outcome FTree
made f (Some x) = Ok (f x)
made f None = unread

abbrev pub combined : Op → List FTree → Outcome FTree
combined op.And trees = made tree.And (some_trees trees)
combined op.Or trees = made tree.Or (some_trees trees)
combined op.Any trees = made tree.Or (some_trees trees)
combined op.AndNot trees = made (λ p. tree.AndNot p.0 p.1) (first_and_others trees)
combined op.Not trees = made tree.Not (only_tree trees)
combined op.Filter trees = made tree.Filter (only_tree trees)
combined (op.Xrank cb) trees = made (λ p. tree.Xrank p.0 p.1 cb) (first_and_others trees)
combined _ trees = unread

abbrev pub combined_all : Op → Outcome (List FTree) → Outcome FTree
combined_all o trees = trees >>= combined o

unfoldable pub applied : List Property → Place → ℕ → Op → List FRaw → List (Outcome FTree) → Outcome FTree
applied schema here at o operands parts = if is_for_all o then combined_all o (all_of parts) else in_scope schema here at o operands

-- ---- expressions

abbrev pub every_item : Place → ℕ → Outcome FTree
every_item (place.Texts Searchable) at = Ok tree.All
every_item _ at = refused WRONG_OPERATOR at

abbrev pub text_literal : Look → FPiece → Outcome FTree
text_literal look p = mapped (λ leaf. tree.Spans look (spans.Leaf leaf)) (leaf_in p)

abbrev pub literal : Place → FPiece → Outcome FTree
literal (place.Texts look) p = text_literal look p
literal (place.Numbers row m) p = mapped (within row) (value_in m p)
literal (place.YesNo row) p = mapped (within row) (yes_no_in p)

module _ (schema : List Property) where
  abbrev mutual
    pub typed_at : Place → FRaw → Outcome FTree
    typed_at here (All at) = every_item here at
    typed_at here (Literal p) = literal here p
    typed_at here (Scope' at name s (more_of-FRaw inner end_of-FRaw)) = entered schema here at name >>= (λ inside. typed_at inside inner)
    typed_at here (Apply' at o s operands) = applied schema here at o (listed operands) (typed_each here operands)

    pub typed_each : {m : _} → Place → Row_of-FRaw m → List (Outcome FTree)
    typed_each here end_of-FRaw = []
    typed_each here (more_of-FRaw part rest) = typed_at here part ∷ typed_each here rest

-- the typed tree of a whole query, which stands outside of every scope
abbrev pub fql_typed : List Property → FRaw → Outcome FTree
fql_typed schema raw = typed_at schema (place.Texts Searchable) raw
