-- What the literals of a text expression of FQL ask for. [MS-FQL2]
use Rattle.std.specs.Prelude.{ℕ, List, [], ◌∷◌, length, map, Bool, true, false, not, ◌&&◌, if◌then◌else◌, Option, Some, None, is_some, Ok, Err}
use Rattle.std.specs.List.{range_with_len}
use Rattle.sq_schema.specs.declared.property.Property.{Property}
use Rattle.sq_tokens.specs.Token.{text_tokens}
use Rattle.sq_tokens.specs.Pattern.{Phrase, text_phrase, without_good_star, first_bad_star, joined, single}
use Rattle.sq_model.specs.Lists.{is_empty}
use Rattle.sq_model.specs.declared.leaf.Leaf.{Leaf}
use Rattle.sq_model.specs.declared.fql.Look.{Look}
use Rattle.sq_model.specs.declared.fql.SpanTree.{SpanTree}
use Rattle.sq_model.specs.declared.fql.SpanTree.TheVariants as spans
use Rattle.sq_model.specs.declared.fql.FTree.{FTree}
use Rattle.sq_model.specs.declared.fql.FTree.TheVariants as tree
use Rattle.sq_base.specs.Outcome.{Outcome, refused, ◌>>=◌}
use Rattle.sq_fql.specs.declared.raw.FPiece.{FPiece}
use Rattle.sq_fql.specs.declared.raw.Mode.{Mode}
use Rattle.sq_fql.specs.declared.raw.Mode.TheVariants as mode
use Rattle.sq_fql.specs.declared.raw.Op.{Op}
use Rattle.sq_fql.specs.declared.raw.Op.TheVariants as op
use Rattle.sq_fql.specs.declared.raw.FRaw.{FRaw, All, Literal, Scope', Apply', Row_of-FRaw, items-the_row-FRaw}
use Rattle.sq_typing.specs.declared.codes.TheConstants.{WRONG_OPERATOR, NO_TOKEN}
use Rattle.sq_typing.specs.FqlPlaces.{misplaced}
use Rattle.sq_typing.specs.Together.{mapped, all_of}

-- of a tree that reading doesn't give
abbrev pub unread : {A : Type 0} → Outcome A
unread = refused WRONG_OPERATOR 0

abbrev pub listed : {m : _} → Row_of-FRaw m → List FRaw
listed {m} row = items-the_row-FRaw m row

-- an operator has an operand
abbrev pub with_some : {A : Type 0} → List FRaw → Outcome A → Outcome A
with_some [] outcome = unread
with_some (o ∷ os) outcome = outcome

-- ---- literals

abbrev pub leaf : List ℕ → Phrase → Leaf
leaf text pattern = record { text = text; pattern = pattern }

-- the pattern of a literal, which has a token
unfoldable pub pattern_in : FPiece → Outcome Phrase
pattern_in p =
    if is_some (first_bad_star p.text) then unread
    else (if is_empty (text_tokens (without_good_star p.text)) then refused NO_TOKEN p.at else Ok (text_phrase p.text))

abbrev pub leaf_in : FPiece → Outcome Leaf
leaf_in p = mapped (leaf p.text) (pattern_in p)

abbrev pub span_in : FPiece → Outcome SpanTree
span_in p = mapped spans.Leaf (leaf_in p)

-- the only operand, which is a literal
abbrev pub only_literal : List FRaw → Option FPiece
only_literal (Literal p ∷ []) = Some p
only_literal _ = None

abbrev pub read_only : {A : Type 0} → (FPiece → Outcome A) → Option FPiece → Outcome A
read_only f (Some p) = f p
read_only f None = unread

-- ---- words and phrase

abbrev pub word_in : FRaw → Outcome SpanTree
word_in (Literal p) = span_in p
word_in _ = unread

abbrev pub words : List FRaw → Outcome SpanTree
words operands = with_some operands (mapped spans.Union (all_of (map word_in operands)))

-- A literal of a phrase ends in a star only where it is the last.
unfoldable pub phrase_part : Bool → FPiece → Outcome Phrase
phrase_part last p = pattern_in p >>= (λ pattern. if pattern.prefixed && not last then refused WRONG_OPERATOR p.at else Ok pattern)

abbrev pub part_in : Bool → FRaw → Outcome Phrase
part_in last (Literal p) = phrase_part last p
part_in last _ = unread

abbrev pub phrase_parts : List FRaw → List (Outcome Phrase)
phrase_parts [] = []
phrase_parts (o ∷ os) = part_in (is_empty os) o ∷ phrase_parts os

abbrev pub first_text : List FRaw → List ℕ
first_text (Literal p ∷ os) = p.text
first_text _ = []

-- the literals' tokens one after the other
abbrev pub phrase : List FRaw → Outcome Leaf
phrase operands = with_some operands (mapped (λ parts. leaf (first_text operands) (joined parts)) (all_of (phrase_parts operands)))

-- ---- string

-- one token of a literal alone
abbrev pub single_leaf : Leaf → ℕ → SpanTree
single_leaf whole i = spans.Leaf (leaf whole.text (single whole.pattern i))

-- what is made of each token
abbrev pub for_tokens : {A : Type 0} → (SpanTree → A) → Leaf → List A
for_tokens f whole = map (λ i. f (single_leaf whole i)) (range_with_len 0 (length whole.pattern.texts))

abbrev pub single_spans : Leaf → List SpanTree
single_spans whole = for_tokens (λ one. one) whole

-- a string as a proximity expression, which it is in all modes but AND
abbrev pub string_spans : Mode → ℕ → Leaf → SpanTree
string_spans mode.Phrase n whole = spans.Leaf whole
string_spans mode.Near n whole = spans.Near (single_spans whole) n false
string_spans mode.Onear n whole = spans.Near (single_spans whole) n true
string_spans _ n whole = spans.Union (single_spans whole)

-- a string in mode AND
abbrev pub all_tokens : Look → Leaf → FTree
all_tokens look whole = tree.And (for_tokens (tree.Spans look) whole)

abbrev pub string : List FRaw → Outcome Leaf
string operands = read_only leaf_in (only_literal operands)

-- ---- the operand of count, starts-with, ends-with and equals

abbrev pub phrase_of : ℕ → Op → List FRaw → Outcome Leaf
phrase_of at op.Phrase operands = phrase operands
phrase_of at (op.Str mode.Phrase n) operands = string operands
phrase_of at _ operands = refused WRONG_OPERATOR at

-- one pattern: a literal, a phrase, or a string in mode PHRASE
abbrev pub one_pattern : List Property → FRaw → Outcome Leaf
one_pattern schema (All at) = refused WRONG_OPERATOR at
one_pattern schema (Literal p) = leaf_in p
one_pattern schema (Scope' at name s inner) = Err (misplaced schema WRONG_OPERATOR at name)
one_pattern schema (Apply' at op s operands) = phrase_of at op (listed operands)

abbrev pub sole_pattern : List Property → List FRaw → Outcome Leaf
sole_pattern schema (operand ∷ []) = one_pattern schema operand
sole_pattern schema _ = unread
