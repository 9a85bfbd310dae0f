-- Lexemes that begin and end between characters.
use Rattle.std.specs.Prelude.{ℕ, ◌+◌, ◌-◌, ◌<◌, List, true, false}
use Rattle.std.specs.List.{AllByRecursion}
use Rattle.sq_lex.specs.declared.fql_lexeme.FKind.{FKind}
use Rattle.sq_lex.specs.declared.fql_lexeme.FKind.TheVariants as kind
use Rattle.sq_lex.specs.declared.fql_lexeme.FLexeme.{FLexeme}
use Rattle.sq_lex.specs.Bytes.{TextBytes}
use Rattle.sq_lex.specs.Kql.{cut}
use Rattle.sq_lex.specs.Pieces.{IsPiece}

-- a string without its quotes
abbrev pub HasInside : TextBytes → ℕ → ℕ → FKind → Type 0
HasInside z from to kind.Str = IsPiece z (cut (from + 1) (to - 1) true)
HasInside z from to _ = Unit {0}

pub record IsWhole (z : TextBytes) (x : FLexeme) : Type 0 where
  pub some : x.from < x.to
  pub piece : IsPiece z (cut x.from x.to false)
  pub inside : HasInside z x.from x.to x.kind

abbrev pub AreWhole : TextBytes → List FLexeme → Type 0
AreWhole z xs = AllByRecursion (IsWhole z) xs
