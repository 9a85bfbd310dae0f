-- What the reader's tree has to do with the grammar: lexemes that stand in order spell exactly one tree.
use Rattle.std.specs.Prelude.{◌≡◌, List, length, Ok}
use Rattle.sq_lex.specs.declared.lexeme.KLexeme.{KLexeme}
use Rattle.sq_lex.specs.Bytes.{TextBytes}
use Rattle.sq_lex.specs.Kql.{lexemes_of}
use Rattle.sq_lex.specs.Shape.{AreListed}
use Rattle.sq_kql.specs.declared.raw.KRaw.{KRaw}
use Rattle.sq_kql.specs.Order.{order}
use Rattle.sq_kql.specs.Grammar.{Spells}
use Rattle.sq_kql.specs.Tree.{tree_of}

-- no other tree is spelled than the one that is read
abbrev pub SpellsNoOther : Type 0
SpellsNoOther = (z : TextBytes) (xs : List KLexeme) (t : KRaw) → Spells z xs t → t ≡ tree_of z xs

-- the tree that is read is spelled, where the lexemes stand in order
abbrev pub SpellsTheRead : Type 0
SpellsTheRead = (z : TextBytes) (xs : List KLexeme) → AreListed xs → order (length z) xs ≡ Ok tt → Spells z xs (tree_of z xs)

-- the one tree that the lexemes of a text spell, where they stand in order
pub record IsTreeOf (z : TextBytes) (t : KRaw) : Type 0 where
  pub lexemes : List KLexeme
  pub read : lexemes_of z ≡ Ok lexemes
  pub ordered : order (length z) lexemes ≡ Ok tt
  pub spelled : Spells z lexemes t
  pub only : (u : KRaw) → Spells z lexemes u → u ≡ t
