-- How lexemes follow one another, and what each is.
use Rattle.std.specs.Prelude.{◌≡◌, ◌≤◌, unsigned_abs, Bool, true, false, List, [], ◌∷◌, ◌++◌, length, is_some, Ok, IfSome}
use Rattle.std.specs.List.{AllByRecursion}
use Rattle.sq_base.specs.Limits.{greatest_distance, greatest_boost}
use Rattle.sq_lex.specs.declared.lexeme.Cut.{Cut}
use Rattle.sq_lex.specs.declared.lexeme.Relation.{Relation}
use Rattle.sq_lex.specs.declared.lexeme.Relation.TheVariants as relation
use Rattle.sq_lex.specs.declared.lexeme.KKind.{KKind}
use Rattle.sq_lex.specs.declared.lexeme.KKind.TheVariants as kind
use Rattle.sq_lex.specs.declared.lexeme.KLexeme.{KLexeme}
use Rattle.sq_lex.specs.Bytes.{TextBytes}
use Rattle.sq_lex.specs.Kql.{judged, lexemes_of}

-- neither the beginning nor the end of a WORDS list
abbrev pub is_single : KKind → Bool
is_single (kind.Words count) = false
is_single kind.WordsEnd = false
is_single _ = true

abbrev pub IsFree : KLexeme → Type 0
IsFree x = (c : Cut) × (x.kind ≡ kind.Free c)

-- each WORDS list has as many pieces of free text as it says, and then its end
pub data AreListed : List KLexeme → Type 0 where
  nothing : AreListed []
  single : (x : KLexeme) (xs : List KLexeme) → is_single x.kind ≡ true → AreListed xs → AreListed (x ∷ xs)
  list : (x y : KLexeme) (items xs : List KLexeme) → x.kind ≡ kind.Words (length items) → AllByRecursion IsFree items → y.kind ≡ kind.WordsEnd → AreListed xs
      → AreListed (x ∷ (items ++ y ∷ xs))

abbrev pub is_range : Relation → Bool
is_range relation.Range = true
is_range _ = false

-- the piece has no bad star
abbrev pub IsStarless : TextBytes → Cut → Type 0
IsStarless z c = (has : Bool) × (judged z c ≡ Ok has)

-- Free text has a token, no piece has a bad star, a range and no other relation has an upper value, a WORDS list has an item, and numbers are within their
-- limits.
abbrev pub IsSound : TextBytes → KKind → Type 0
IsSound z (kind.Free c) = judged z c ≡ Ok true
IsSound z (kind.Restrict name_to rel c upper) = IsStarless z c × IfSome upper (IsStarless z) × (is_some upper ≡ is_range rel)
IsSound z (kind.Near n) = n ≤ greatest_distance
IsSound z (kind.Onear n) = n ≤ greatest_distance
IsSound z (kind.Words count) = 1 ≤ count
IsSound z (kind.Xrank cb) = unsigned_abs cb ≤ greatest_boost
IsSound z _ = Unit {0}

abbrev pub IsSoundLexeme : TextBytes → KLexeme → Type 0
IsSoundLexeme z x = IsSound z x.kind

-- the lexemes of a text are so
abbrev pub LexemesAreSound : Type 0
LexemesAreSound = (z : TextBytes) (xs : List KLexeme) → lexemes_of z ≡ Ok xs → AreListed xs × AllByRecursion (IsSoundLexeme z) xs
