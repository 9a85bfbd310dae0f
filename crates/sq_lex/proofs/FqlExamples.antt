-- Worked texts of FQL.
use Rattle.std.proofs.Common.{◌≡◌, [], ◌∷◌, Ok, refl}
use Rattle.std.specs.Prelude.{codes}
use Rattle.sq_lex.specs.declared.fql_codes.TheConstants.{UNCLOSED_STRING}
use Rattle.sq_lex.specs.declared.fql_lexeme.FKind.TheVariants as kind
use Rattle.sq_lex.specs.Bytes.{past}
use Rattle.sq_base.specs.Outcome.{refused}
use Rattle.sq_lex.specs.Fql.{lexeme, string_at, lexeme_at, fql_lexemes_from, fql_lexemes_of}

operator : fql_lexemes_of (codes "near(a, b,N=2)")
    ≡ Ok (lexeme kind.Word 0 4 ∷ lexeme kind.LeftParen 4 5 ∷ lexeme kind.Word 5 6 ∷ lexeme kind.Comma 6 7 ∷ lexeme kind.Word 8 9 ∷ lexeme kind.Comma 9 10
    ∷ lexeme kind.Word 10 11 ∷ lexeme kind.EqualSign 11 12 ∷ lexeme kind.Word 12 13 ∷ lexeme kind.RightParen 13 14 ∷ [])
unfolding past string_at lexeme_at fql_lexemes_from fql_lexemes_of
operator = refl

-- a word that begins with a digit runs on through `:`
colons : fql_lexemes_of (codes "a:12:30 -1:b") ≡ Ok (lexeme kind.Word 0 1 ∷ lexeme kind.Colon 1 2 ∷ lexeme kind.Word 2 7 ∷ lexeme kind.Word 8 12 ∷ [])
unfolding past string_at lexeme_at fql_lexemes_from fql_lexemes_of
colons = refl

escapes : fql_lexemes_of (codes "\"a\\\"b\\\\\"c") ≡ Ok (lexeme kind.Str 0 8 ∷ lexeme kind.Word 8 9 ∷ [])
unfolding past string_at lexeme_at fql_lexemes_from fql_lexemes_of
escapes = refl

-- a backslash outside a string escapes nothing
outside : fql_lexemes_of (codes "\\\"a\"") ≡ Ok (lexeme kind.Word 0 1 ∷ lexeme kind.Str 1 4 ∷ [])
unfolding past string_at lexeme_at fql_lexemes_from fql_lexemes_of
outside = refl

unclosed : fql_lexemes_of (codes "a \"b\\\"") ≡ refused UNCLOSED_STRING 2
unfolding past string_at lexeme_at fql_lexemes_from fql_lexemes_of
unclosed = refl

blank : fql_lexemes_of (codes " \t\n") ≡ Ok []
unfolding past string_at lexeme_at fql_lexemes_from fql_lexemes_of
blank = refl
