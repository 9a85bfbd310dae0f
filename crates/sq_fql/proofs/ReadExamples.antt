-- Worked texts.
use Rattle.std.proofs.Common.{◌≡◌, [], ◌∷◌, Some, None, Ok, refl}
use Rattle.std.specs.Prelude.{codes, pos, true, false}
use Rattle.sq_lex.specs.Bytes.{past}
use Rattle.sq_lex.specs.Fql.{string_at, lexeme_at, fql_lexemes_from, fql_lexemes_of}
use Rattle.sq_base.specs.Outcome.{refused}
use Rattle.sq_fql.specs.declared.codes.TheConstants.{EMPTY_QUERY, UNKNOWN_OPERATOR, MISSING_ARGUMENT, EXTRA_ARGUMENT, BAD_PARAMETER, UNEXPECTED, UNCLOSED_PAREN, OTHER_BOOST, BAD_STAR}
use Rattle.sq_fql.specs.declared.raw.FRaw.TheVariants as tree
use Rattle.sq_fql.specs.declared.raw.Mode.TheVariants as mode
use Rattle.sq_fql.specs.declared.raw.Op.TheVariants as op
use Rattle.sq_fql.specs.Read.{unescaped, literal, leaf, with_parameter, operand, with_next_operand, entry, entries, completed, expression_over, deeper, whole_of, read_of, piece}

unknown_operator : read_of (codes "foo(a)") ≡ refused UNKNOWN_OPERATOR 0
unfolding past string_at lexeme_at fql_lexemes_from fql_lexemes_of literal leaf with_parameter operand with_next_operand entry entries completed expression_over deeper whole_of read_of
unknown_operator = refl

missing_argument : read_of (codes "and(a,") ≡ refused MISSING_ARGUMENT 6
unfolding past string_at lexeme_at fql_lexemes_from fql_lexemes_of literal leaf with_parameter operand with_next_operand entry entries completed expression_over deeper whole_of read_of
missing_argument = refl

extra_argument : read_of (codes "not(a,b)") ≡ refused EXTRA_ARGUMENT 6
unfolding past string_at lexeme_at fql_lexemes_from fql_lexemes_of literal leaf with_parameter operand with_next_operand entry entries completed expression_over deeper whole_of read_of
extra_argument = refl

bad_parameter : read_of (codes "near(a,b,N=x)") ≡ refused BAD_PARAMETER 9
unfolding past string_at lexeme_at fql_lexemes_from fql_lexemes_of literal leaf with_parameter operand with_next_operand entry entries completed expression_over deeper whole_of read_of
bad_parameter = refl

unexpected : read_of (codes "a b") ≡ refused UNEXPECTED 2
unfolding past string_at lexeme_at fql_lexemes_from fql_lexemes_of literal leaf with_parameter operand with_next_operand entry entries completed expression_over deeper whole_of read_of
unexpected = refl

unclosed : read_of (codes "and(a") ≡ refused UNCLOSED_PAREN 5
unfolding past string_at lexeme_at fql_lexemes_from fql_lexemes_of literal leaf with_parameter operand with_next_operand entry entries completed expression_over deeper whole_of read_of
unclosed = refl

other_boost : read_of (codes "xrank(a,b,rb=1)") ≡ refused OTHER_BOOST 10
unfolding past string_at lexeme_at fql_lexemes_from fql_lexemes_of literal leaf with_parameter operand with_next_operand entry entries completed expression_over deeper whole_of read_of
other_boost = refl

empty : read_of (codes "") ≡ refused EMPTY_QUERY 0
unfolding past string_at lexeme_at fql_lexemes_from fql_lexemes_of literal leaf with_parameter operand with_next_operand entry entries completed expression_over deeper whole_of read_of
empty = refl

bad_star : read_of (codes "a*b") ≡ refused BAD_STAR 0
unfolding past string_at lexeme_at fql_lexemes_from fql_lexemes_of literal leaf with_parameter operand with_next_operand entry entries completed expression_over deeper whole_of read_of
bad_star = refl

wrong_close : read_of (codes ")") ≡ refused MISSING_ARGUMENT 0
unfolding past string_at lexeme_at fql_lexemes_from fql_lexemes_of literal leaf with_parameter operand with_next_operand entry entries completed expression_over deeper whole_of read_of
wrong_close = refl

unknown_and_extra : read_of (codes "not(a,foo(b))") ≡ refused UNKNOWN_OPERATOR 6
unfolding past string_at lexeme_at fql_lexemes_from fql_lexemes_of literal leaf with_parameter operand with_next_operand entry entries completed expression_over deeper whole_of read_of
unknown_and_extra = refl

literals_alone : read_of (codes "int(5,foo(b))") ≡ refused EXTRA_ARGUMENT 6
unfolding past string_at lexeme_at fql_lexemes_from fql_lexemes_of literal leaf with_parameter operand with_next_operand entry entries completed expression_over deeper whole_of read_of
literals_alone = refl

value_wanted : read_of (codes "near(a,b,X=") ≡ refused MISSING_ARGUMENT 11
unfolding past string_at lexeme_at fql_lexemes_from fql_lexemes_of literal leaf with_parameter operand with_next_operand entry entries completed expression_over deeper whole_of read_of
value_wanted = refl

no_name : read_of (codes "5 :y") ≡ refused UNEXPECTED 2
unfolding past string_at lexeme_at fql_lexemes_from fql_lexemes_of literal leaf with_parameter operand with_next_operand entry entries completed expression_over deeper whole_of read_of
no_name = refl

distance_of_or : read_of (codes "string(a,N=4,MODE=or)") ≡ refused BAD_PARAMETER 9
unfolding past string_at lexeme_at fql_lexemes_from fql_lexemes_of literal leaf with_parameter operand with_next_operand entry entries completed expression_over deeper whole_of read_of
distance_of_or = refl

few_before_distance : read_of (codes "string(N=4)") ≡ refused MISSING_ARGUMENT 10
unfolding past string_at lexeme_at fql_lexemes_from fql_lexemes_of literal leaf with_parameter operand with_next_operand entry entries completed expression_over deeper whole_of read_of
few_before_distance = refl

repeated : read_of (codes "near(a,b,N=1,n=1)") ≡ refused BAD_PARAMETER 13
unfolding past string_at lexeme_at fql_lexemes_from fql_lexemes_of literal leaf with_parameter operand with_next_operand entry entries completed expression_over deeper whole_of read_of
repeated = refl

operator_for_a_literal : read_of (codes "phrase(a,or(b))") ≡ refused UNEXPECTED 9
unfolding past string_at lexeme_at fql_lexemes_from fql_lexemes_of literal leaf with_parameter operand with_next_operand entry entries completed expression_over deeper whole_of read_of
operator_for_a_literal = refl

all : read_of (codes "*") ≡ Ok (tree.All 0)
unfolding past string_at lexeme_at fql_lexemes_from fql_lexemes_of literal leaf with_parameter operand with_next_operand entry entries completed expression_over deeper whole_of read_of
all = refl

zero : read_of (codes "near(a,b,N=-0)") ≡ Ok (tree.Apply 0 (op.Near 0) (piece 5 (codes "a") ∷ piece 7 (codes "b") ∷ []))
unfolding past string_at lexeme_at fql_lexemes_from fql_lexemes_of literal leaf with_parameter operand with_next_operand entry entries completed expression_over deeper whole_of read_of
zero = refl

defaults : read_of (codes "near(a,b)") ≡ Ok (tree.Apply 0 (op.Near 4) (piece 5 (codes "a") ∷ piece 7 (codes "b") ∷ []))
unfolding past string_at lexeme_at fql_lexemes_from fql_lexemes_of literal leaf with_parameter operand with_next_operand entry entries completed expression_over deeper whole_of read_of
defaults = refl

counted : read_of (codes "count(a,from=2)") ≡ Ok (tree.Apply 0 (op.Count 2 None) (piece 6 (codes "a") ∷ []))
unfolding past string_at lexeme_at fql_lexemes_from fql_lexemes_of literal leaf with_parameter operand with_next_operand entry entries completed expression_over deeper whole_of read_of
counted = refl

counted_below : read_of (codes "Count(TO=2,a)") ≡ Ok (tree.Apply 0 (op.Count 1 (Some 2)) (piece 11 (codes "a") ∷ []))
unfolding past string_at lexeme_at fql_lexemes_from fql_lexemes_of literal leaf with_parameter operand with_next_operand entry entries completed expression_over deeper whole_of read_of
counted_below = refl

bounds : read_of (codes "size:range(5,max,from=gt)") ≡ Ok (tree.Scope 0 (codes "size") (tree.Apply 5 (op.Range true false) (piece 11 (codes "5") ∷ piece 13 (codes "max") ∷ [])))
unfolding past string_at lexeme_at fql_lexemes_from fql_lexemes_of literal leaf with_parameter operand with_next_operand entry entries completed expression_over deeper whole_of read_of
bounds = refl

moded : read_of (codes "string(a,mode=onear)") ≡ Ok (tree.Apply 0 (op.Str mode.Onear 4) (piece 7 (codes "a") ∷ []))
unfolding past string_at lexeme_at fql_lexemes_from fql_lexemes_of literal leaf with_parameter operand with_next_operand entry entries completed expression_over deeper whole_of read_of
moded = refl

boosted : read_of (codes "xrank(a,b,cb=5,n=1)") ≡ Ok (tree.Apply 0 (op.Xrank (pos 5)) (piece 6 (codes "a") ∷ piece 8 (codes "b") ∷ []))
unfolding past string_at lexeme_at fql_lexemes_from fql_lexemes_of literal leaf with_parameter operand with_next_operand entry entries completed expression_over deeper whole_of read_of
boosted = refl

nested_scopes : read_of (codes "title:body:x") ≡ Ok (tree.Scope 0 (codes "title") (tree.Scope 6 (codes "body") (piece 11 (codes "x"))))
unfolding past string_at lexeme_at fql_lexemes_from fql_lexemes_of literal leaf with_parameter operand with_next_operand entry entries completed expression_over deeper whole_of read_of
nested_scopes = refl

-- `\"` and `\\` are escapes, another backslash stands for itself
escapes : unescaped false (codes "a\\\"b\\\\c\\d\\") ≡ codes "a\"b\\c\\d\\"
escapes = refl
