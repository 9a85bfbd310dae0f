-- Where lexemes stand in their text.
use Rattle.std.specs.Prelude.{◌≡◌, ℕ, ◌+◌, ◌≤◌, ◌<◌, if◌then◌else◌, List, [], ◌∷◌, length, Option, Some, None, Ok}
use Rattle.std.specs.List.{AllByRecursion}
use Rattle.sq_lex.specs.declared.lexeme.Cut.{Cut}
use Rattle.sq_lex.specs.declared.lexeme.KKind.{KKind}
use Rattle.sq_lex.specs.declared.lexeme.KKind.TheVariants as kind
use Rattle.sq_lex.specs.declared.lexeme.KLexeme.{KLexeme}
use Rattle.sq_lex.specs.Bytes.{TextBytes}
use Rattle.sq_lex.specs.Kql.{past_cut, lexemes_of}
use Rattle.sq_lex.specs.Limits.{most_text_bytes}

-- The piece is all that stands between two places, with its quotes where it has them.
pub record Fills (from to : ℕ) (c : Cut) : Type 0 where
  pub start : c.from ≡ (if c.quoted then from + 1 else from)
  pub ordered : c.from ≤ c.to
  pub end : past_cut c ≡ to

-- The upper value is all that is left behind two dots. Where there is none, nothing is left.
abbrev pub UpperFills : ℕ → ℕ → Option Cut → Type 0
UpperFills from to None = from ≡ to
UpperFills from to (Some upper) = Fills (from + 2) to upper

-- A name, a relation and values stand one directly behind the other.
pub record ValuesFill (from to name_to : ℕ) (c : Cut) (upper : Option Cut) : Type 0 where
  pub value_at : ℕ
  pub value_to : ℕ
  pub name : from < name_to
  pub relation : name_to < value_at
  pub value : Fills value_at value_to c
  pub upper_value : UpperFills value_to to upper

abbrev pub PiecesFill : ℕ → ℕ → KKind → Type 0
PiecesFill from to (kind.Free c) = Fills from to c
PiecesFill from to (kind.Restrict name_to rel c upper) = ValuesFill from to name_to c upper
PiecesFill from to _ = Unit {0}

-- the pieces of a lexeme fill it
abbrev pub IsFilled : KLexeme → Type 0
IsFilled x = PiecesFill x.from x.to x.kind

-- Lexemes stand one behind the other between two places, each of one byte or more.
abbrev pub StandBetween : ℕ → ℕ → List KLexeme → Type 0
StandBetween from to [] = from ≤ to
StandBetween from to (x ∷ xs) = (from ≤ x.from) × (x.from < x.to) × StandBetween x.to to xs

-- the places of lexemes in a text that is short enough
pub record AreInPlace (z : TextBytes) (xs : List KLexeme) : Type 0 where
  pub short : length z ≤ most_text_bytes
  pub rising : StandBetween 0 (length z) xs
  pub filled : AllByRecursion IsFilled xs

-- the lexemes of a text are so
abbrev pub LexemesAreInPlace : Type 0
LexemesAreInPlace = (z : TextBytes) (xs : List KLexeme) → lexemes_of z ≡ Ok xs → AreInPlace z xs
