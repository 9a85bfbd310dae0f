-- The lexemes of a text of the FAST Query Language. A place is a number of bytes from the text's start.
use Rattle.std.specs.Prelude.{ℕ, zero, suc, ◌+◌, Bool, true, false, ◌||◌, ◌==◌, nat_lt, if◌then◌else◌, List, [], ◌∷◌, length, drop, slice_index, Option, Some, None, Ok}
use Rattle.std.specs.Char.{is_ascii_digit}
use Rattle.sq_lex.specs.declared.class.Class.{Class}
use Rattle.sq_lex.specs.declared.class.Class.TheVariants as class
use Rattle.sq_lex.specs.declared.fql_codes.TheConstants.{TOO_LONG, UNCLOSED_STRING}
use Rattle.sq_lex.specs.declared.fql_lexeme.FKind.{FKind}
use Rattle.sq_lex.specs.declared.fql_lexeme.FKind.TheVariants as kind
use Rattle.sq_lex.specs.declared.fql_lexeme.FLexeme.{FLexeme}
use Rattle.sq_lex.specs.Bytes.{TextBytes, past}
use Rattle.sq_lex.specs.Limits.{most_text_bytes}
use Rattle.sq_base.specs.Outcome.{Outcome, refused, ◌>>=◌}

abbrev pub lexeme : FKind → ℕ → ℕ → FLexeme
lexeme kind from to = record { kind = kind; from = from; to = to }

-- `(`, `)`, `,`, `=` and `:`
abbrev pub mark : ℕ → Option FKind
mark b =
    if b == 40 then Some kind.LeftParen
    else (if b == 41 then Some kind.RightParen
    else (if b == 44 then Some kind.Comma
    else (if b == 61 then Some kind.EqualSign
    else (if b == 58 then Some kind.Colon else None))))

-- What a word that begins with this byte is made of. One that begins with a digit or `-` runs on through `:`.
abbrev pub word_class : ℕ → Class
word_class b = if is_ascii_digit b || b == 45 then class.Parameter else class.Term

-- the place of the first quote that no `\` escapes, of bytes that begin at `at`; `escaped` says whether the first byte is escaped
abbrev pub closing : Bool → ℕ → TextBytes → Option ℕ
closing escaped at [] = None
closing true at (b ∷ z) = closing false (at + 1) z
closing false at (b ∷ z) = if b == 34 then Some at else closing (b == 92) (at + 1) z

abbrev pub string_to : ℕ → Option ℕ → Outcome FLexeme
string_to at (Some close) = Ok (lexeme kind.Str at (close + 1))
string_to at None = refused UNCLOSED_STRING at

-- the string whose quote opens at a place
unfoldable pub string_at : TextBytes → ℕ → Outcome FLexeme
string_at z at = string_to at (closing false (at + 1) (drop (at + 1) z))

abbrev pub mark_or_word : Option FKind → TextBytes → ℕ → FLexeme
mark_or_word (Some k) z at = lexeme k at (at + 1)
mark_or_word None z at = lexeme kind.Word at (past (word_class (slice_index z at)) z at)

-- the lexeme that begins at a place: the first rule that fits
unfoldable pub lexeme_at : TextBytes → ℕ → Outcome FLexeme
lexeme_at z at = if slice_index z at == 34 then string_at z at else Ok (mark_or_word (mark (slice_index z at)) z at)

-- The lexemes from a place on that isn't white space, or the first fault. The number bounds the turns: each takes a byte, so the
-- text's length is enough.
unfoldable pub fql_lexemes_from : ℕ → TextBytes → ℕ → Outcome (List FLexeme)
fql_lexemes_from zero z at = Ok []
fql_lexemes_from (suc turns) z at =
    if nat_lt at (length z) then (do
      x ← lexeme_at z at
      rest ← fql_lexemes_from turns z (past class.Blank z x.to)
      Ok (x ∷ rest))
    else Ok []

-- the lexemes of a text, or its first fault
unfoldable pub fql_lexemes_of : TextBytes → Outcome (List FLexeme)
fql_lexemes_of z = if nat_lt most_text_bytes (length z) then refused TOO_LONG most_text_bytes else fql_lexemes_from (length z) z (past class.Blank z 0)
