-- The tree of a text of the FAST Query Language, or its first fault from left to right.
use Rattle.std.specs.Prelude.{ℕ, zero, suc, ◌+◌, ◌-◌, Bool, true, false, ◌&&◌, ◌||◌, nat_le, nat_lt, if◌then◌else◌, List, [], ◌∷◌, ◌++◌, length, slice_index, slice_range, chars, Option, Some, None, is_some, Ok, codes, ◌==◌}
use Rattle.std.specs.Char.{is_ascii_alphabetic}
use Rattle.std.specs.Str.{bytes_eq, encode_utf8_all}
use Rattle.sq_tokens.specs.Pattern.{first_bad_star}
use Rattle.sq_lex.specs.declared.fql_lexeme.FKind.{FKind}
use Rattle.sq_lex.specs.declared.fql_lexeme.FKind.TheVariants as kind
use Rattle.sq_lex.specs.declared.fql_lexeme.FLexeme.{FLexeme}
use Rattle.sq_lex.specs.Bytes.{TextBytes}
use Rattle.sq_lex.specs.Fql.{fql_lexemes_of}
use Rattle.sq_lex.specs.Limits.{most_levels}
use Rattle.sq_base.specs.Outcome.{Outcome, refused, ◌>>=◌}
use Rattle.sq_fql.specs.declared.codes.TheConstants.{EMPTY_QUERY, UNKNOWN_OPERATOR, MISSING_ARGUMENT, EXTRA_ARGUMENT, UNEXPECTED, UNCLOSED_PAREN, TOO_DEEP, OTHER_BOOST, BAD_STAR}
use Rattle.sq_fql.specs.declared.raw.FRaw.{FRaw}
use Rattle.sq_fql.specs.declared.raw.FRaw.TheVariants as tree
use Rattle.sq_fql.specs.declared.raw.Op.{Op}
use Rattle.sq_fql.specs.declared.operator.Operator.{Operator}
use Rattle.sq_fql.specs.declared.parameter.Parameter.{Parameter}
use Rattle.sq_fql.specs.declared.parameter.Parameter.TheVariants as parameter
use Rattle.sq_fql.specs.declared.parameter.Given.{Given}
use Rattle.sq_fql.specs.declared.look.Role.{Role}
use Rattle.sq_fql.specs.declared.look.Role.TheVariants as role
use Rattle.sq_fql.specs.declared.read.Found.{Found}
use Rattle.sq_fql.specs.Operators.{operator_of, operands_of, named, parameters}
use Rattle.sq_fql.specs.Parameters.{nothing_given, with_value, operation}

-- a tree of the first lexemes, and the lexemes behind it
abbrev pub Read : Type 0
Read = Outcome (FRaw × List FLexeme)

-- what reads a tree of the first lexemes
abbrev pub Reader : Type 0
Reader = List FLexeme → Read

-- ---- lexemes

abbrev pub behind : List FLexeme → List FLexeme
behind [] = []
behind (x ∷ xs) = xs

-- the place of the first lexeme
abbrev pub first_at : List FLexeme → ℕ
first_at [] = 0
first_at (x ∷ xs) = x.from

-- what a word is by the lexeme behind it
abbrev pub role_before : FKind → Role
role_before kind.LeftParen = role.Operator
role_before kind.Colon = role.Scope
role_before kind.EqualSign = role.Parameter
role_before _ = role.Literal

abbrev pub next_role : List FLexeme → Role
next_role [] = role.Literal
next_role (x ∷ xs) = role_before x.kind

abbrev pub role_of_kind : FKind → List FLexeme → Role
role_of_kind kind.Word xs = next_role xs
role_of_kind _ xs = role.Literal

-- what a word or a string is, by the lexemes behind it
abbrev pub role_of : FLexeme → List FLexeme → Role
role_of x xs = role_of_kind x.kind xs

abbrev pub wanted_kind : FKind → FLexeme → Outcome FLexeme
wanted_kind kind.Str x = Ok x
wanted_kind kind.Word x = Ok x
wanted_kind kind.Comma x = refused MISSING_ARGUMENT x.from
wanted_kind kind.RightParen x = refused MISSING_ARGUMENT x.from
wanted_kind _ x = refused UNEXPECTED x.from

-- the word or the string that an operand or a value begins with
abbrev pub wanted : TextBytes → List FLexeme → Outcome FLexeme
wanted z [] = refused MISSING_ARGUMENT (length z)
wanted z (x ∷ xs) = wanted_kind x.kind x

-- ---- literals

-- what a character behind `\` and the `\` stand for: `"` and `\` for themselves alone
abbrev pub meant : ℕ → List ℕ
meant c = if c == 34 || c == 92 then c ∷ [] else 92 ∷ c ∷ []

-- `\"` and `\\` stand for `"` and `\`, another `\` for itself; `escaped` says whether a `\` stands before the first character
abbrev pub unescaped : Bool → List ℕ → List ℕ
unescaped false [] = []
unescaped true [] = 92 ∷ []
unescaped false (c ∷ cs) = if c == 92 then unescaped true cs else c ∷ unescaped false cs
unescaped true (c ∷ cs) = meant c ++ unescaped false cs

abbrev pub word_text : TextBytes → FLexeme → TextBytes
word_text z x = slice_range z x.from x.to

abbrev pub content_of : TextBytes → FKind → FLexeme → TextBytes
content_of z kind.Str x = encode_utf8_all (unescaped false (chars (slice_range z (x.from + 1) (x.to - 1))))
content_of z _ x = word_text z x

-- the text that a word or a string stands for
abbrev pub content : TextBytes → FLexeme → TextBytes
content z x = content_of z x.kind x

abbrev pub has_bad_star : TextBytes → Bool
has_bad_star text = is_some (first_bad_star text)

abbrev pub piece : ℕ → TextBytes → FRaw
piece at text = tree.Literal (record { at = at; text = text })

unfoldable pub literal : TextBytes → FLexeme → Outcome FRaw
literal z x = if has_bad_star (content z x) then refused BAD_STAR x.from else Ok (piece x.from (content z x))

abbrev pub is_word : FKind → Bool
is_word kind.Word = true
is_word _ = false

-- the word `*`
abbrev pub is_all : TextBytes → FLexeme → Bool
is_all z x = is_word x.kind && bytes_eq (word_text z x) (codes "*")

-- a literal or the word `*`
unfoldable pub leaf : TextBytes → FLexeme → Outcome FRaw
leaf z x = if is_all z x then Ok (tree.All x.from) else literal z x

-- ---- the list of an operator

abbrev pub nothing : Found
nothing = record { operands = []; given = nothing_given }

abbrev pub with_operand : Found → FRaw → Found
with_operand f t = record f { operands = f.operands ++ t ∷ [] }

abbrev pub parameter_by : Option Parameter → TextBytes → Given → FLexeme → List FLexeme → Outcome Given
parameter_by (Some parameter.OtherBoost) z g x xs = refused OTHER_BOOST x.from
parameter_by p z g x xs = do
  v ← wanted z xs
  with_value p (content z v) x.from g

-- what was given, with the parameter whose name is `x` and whose value the lexemes begin with
unfoldable pub with_parameter : TextBytes → Operator → Given → FLexeme → List FLexeme → Outcome Given
with_parameter z op g x xs = parameter_by (named (word_text z x) (parameters op)) z g x xs

-- an operand where only literals may stand
abbrev pub literal_only : TextBytes → Role → FLexeme → Outcome FRaw
literal_only z role.Operator x = refused UNEXPECTED x.from
literal_only z role.Scope x = refused UNEXPECTED x.from
literal_only z _ x = literal z x

abbrev pub is_full_at : Option ℕ → ℕ → Bool
is_full_at None count = false
is_full_at (Some most) count = nat_le most count

-- no operand may follow these
abbrev pub is_full : Operator → List FRaw → Bool
is_full op operands = is_full_at (operands_of op).most (length operands)

abbrev pub unknown_or_extra : Option Operator → ℕ
unknown_or_extra None = UNKNOWN_OPERATOR
unknown_or_extra (Some op) = EXTRA_ARGUMENT

-- The code of one operand too many. Where an operator may stand, an unknown one has the lower code.
abbrev pub extra_code : TextBytes → Bool → Role → FLexeme → ℕ
extra_code z false role.Operator x = unknown_or_extra (operator_of (word_text z x))
extra_code z _ _ x = EXTRA_ARGUMENT

-- the operand that the lexemes begin with, of which the first is `x`
unfoldable pub operand : Reader → TextBytes → Operator → Role → FLexeme → List FLexeme → Read
operand inner z op r x xs =
    if (operands_of op).literals then (do
      t ← literal_only z r x
      Ok (t, behind xs))
    else inner xs

unfoldable pub with_next_operand : Reader → TextBytes → Operator → Found → Role → FLexeme → List FLexeme → Outcome (Found × List FLexeme)
with_next_operand inner z op f r x xs =
    if is_full op f.operands then refused (extra_code z (operands_of op).literals r x) x.from
    else (do
      t ← operand inner z op r x xs
      Ok (with_operand f t.0, t.1))

abbrev pub entry_by : Reader → TextBytes → Operator → Found → Role → FLexeme → List FLexeme → Outcome (Found × List FLexeme)
entry_by inner z op f role.Parameter x xs = do
  g ← with_parameter z op f.given x (behind (behind xs))
  Ok (record f { given = g }, behind (behind (behind xs)))
entry_by inner z op f r x xs = with_next_operand inner z op f r x xs

-- a parameter or an operand
unfoldable pub entry : Reader → TextBytes → Operator → Found → List FLexeme → Outcome (Found × List FLexeme)
entry inner z op f xs = do
  x ← wanted z xs
  entry_by inner z op f (role_of x (behind xs)) x xs

abbrev pub separator_kind : FKind → ℕ → Outcome (Option ℕ)
separator_kind kind.Comma at = Ok None
separator_kind kind.RightParen at = Ok (Some at)
separator_kind _ at = refused UNEXPECTED at

-- what stands behind an entry: a comma, or `)` and its place
abbrev pub separator : TextBytes → List FLexeme → Outcome (Option ℕ)
separator z [] = refused UNCLOSED_PAREN (length z)
separator z (x ∷ xs) = separator_kind x.kind x.from

-- what was found in a list, the place of its `)`, and the lexemes behind it
abbrev pub Listed : Type 0
Listed = Found × ℕ × List FLexeme

abbrev pub ended_or : Option ℕ → Found → List FLexeme → Outcome Listed → Outcome Listed
ended_or (Some at) f xs more = Ok (f, at, xs)
ended_or None f xs more = more

-- The entries of a list that the lexemes begin with, after those found. The number bounds the turns: each takes a lexeme, so one more
-- than there are lexemes is enough.
unfoldable pub entries : Reader → ℕ → TextBytes → Operator → Found → List FLexeme → Outcome Listed
entries inner zero z op f xs = refused UNEXPECTED (first_at xs)
entries inner (suc turns) z op f xs = do
  e ← entry inner z op f xs
  end ← separator z e.1
  ended_or end e.0 (behind e.1) (entries inner turns z op e.0 (behind e.1))

-- the operator with what its list holds, which ends at a place
unfoldable pub completed : Operator → Found → ℕ → Outcome Op
completed op f at = if nat_lt (length f.operands) (operands_of op).least then refused MISSING_ARGUMENT at else operation op f.given at

-- ---- expressions

-- an operator whose word is `x`; its `(` comes first and opens a level, which `inner` reads
abbrev pub applied : Option Reader → TextBytes → Option Operator → FLexeme → List FLexeme → Read
applied inner z None x xs = refused UNKNOWN_OPERATOR x.from
applied None z (Some op) x xs = refused TOO_DEEP (first_at xs)
applied (Some inner) z (Some op) x xs = do
  l ← entries inner (suc (length (behind xs))) z op nothing (behind xs)
  o ← completed op l.0 l.1
  Ok (tree.Apply x.from o l.0.operands, l.2)

-- a scope whose name is `x`; its `:` comes first and opens a level
abbrev pub scoped : Option Reader → TextBytes → FLexeme → List FLexeme → Read
scoped None z x xs = refused TOO_DEEP (first_at xs)
scoped (Some inner) z x xs = do
  t ← inner (behind xs)
  Ok (tree.Scope x.from (word_text z x) t.0, t.1)

abbrev pub leaf_before : TextBytes → FLexeme → List FLexeme → Read
leaf_before z x xs = do
  t ← leaf z x
  Ok (t, xs)

-- a name is a word that begins with a letter
abbrev pub scope_or_leaf : Option Reader → TextBytes → FLexeme → List FLexeme → Read
scope_or_leaf inner z x xs = if is_ascii_alphabetic (slice_index z x.from) then scoped inner z x xs else leaf_before z x xs

abbrev pub begun : Option Reader → TextBytes → Role → FLexeme → List FLexeme → Read
begun inner z role.Operator x xs = applied inner z (operator_of (word_text z x)) x xs
begun inner z role.Scope x xs = scope_or_leaf inner z x xs
begun inner z _ x xs = leaf_before z x xs

-- the expression that lexemes begin with; `inner` reads what stands a level deeper, where one may be opened
unfoldable pub expression_over : Option Reader → TextBytes → Reader
expression_over inner z xs = do
  x ← wanted z xs
  begun inner z (role_of x (behind xs)) x (behind xs)

-- what reads a level deeper, where so many levels may still be opened
unfoldable pub deeper : ℕ → TextBytes → Option Reader
deeper zero z = None
deeper (suc levels) z = Some (expression_over (deeper levels z) z)

-- the expression that lexemes begin with, where so many levels may be opened
abbrev pub expression : ℕ → TextBytes → Reader
expression levels z = expression_over (deeper levels z) z

-- ---- the text

-- nothing may follow
abbrev pub alone : FRaw → List FLexeme → Outcome FRaw
alone t [] = Ok t
alone t (x ∷ xs) = refused UNEXPECTED x.from

unfoldable pub whole_of : TextBytes → List FLexeme → Outcome FRaw
whole_of z [] = refused EMPTY_QUERY 0
whole_of z (x ∷ xs) = do
  t ← expression most_levels z (x ∷ xs)
  alone t.0 t.1

-- the tree of a text, or its first fault: of its lexemes, and then of their order
unfoldable pub read_of : TextBytes → Outcome FRaw
read_of z = fql_lexemes_of z >>= whole_of z
