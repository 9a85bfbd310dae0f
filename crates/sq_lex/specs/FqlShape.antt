-- How the lexemes of a text of FQL stand in it.
use Rattle.std.specs.Prelude.{◌≡◌, ℕ, ◌+◌, ◌-◌, ◌≤◌, ◌<◌, true, false, List, [], ◌∷◌, length, drop, slice_index, Some, Ok}
use Rattle.sq_lex.specs.declared.class.Class.{Class}
use Rattle.sq_lex.specs.declared.class.Class.TheVariants as class
use Rattle.sq_lex.specs.declared.fql_lexeme.FKind.{FKind}
use Rattle.sq_lex.specs.declared.fql_lexeme.FKind.TheVariants as kind
use Rattle.sq_lex.specs.declared.fql_lexeme.FLexeme.{FLexeme}
use Rattle.sq_lex.specs.Bytes.{TextBytes, is_in}
use Rattle.sq_lex.specs.Fql.{mark, word_class, closing, fql_lexemes_of}

-- each byte between two places is of a class
abbrev pub AllIn : Class → TextBytes → ℕ → ℕ → Type 0
AllIn c z from to = (k : ℕ) → from ≤ k → k < to → is_in c (slice_index z k) ≡ true

-- What stands between two places as a kind of lexeme. From a string's opening quote on, the first quote that no `\` escapes is its last byte. A word is the longest run.
abbrev pub IsSpelled : TextBytes → FKind → ℕ → ℕ → Type 0
IsSpelled z kind.Str from to = (slice_index z from ≡ 34) × (closing false (from + 1) (drop (from + 1) z) ≡ Some (to - 1))
IsSpelled z kind.Word from to = AllIn (word_class (slice_index z from)) z from to × (to < length z → is_in (word_class (slice_index z from)) (slice_index z to) ≡ false)
IsSpelled z k from to = (mark (slice_index z from) ≡ Some k) × (to ≡ from + 1)

pub record IsLexeme (z : TextBytes) (x : FLexeme) : Type 0 where
  pub some : x.from < x.to
  pub within : x.to ≤ length z
  pub spelled : IsSpelled z x.kind x.from x.to

-- From a place on, white space stands before each lexeme and behind the last, and nothing else.
abbrev pub AreFrom : TextBytes → ℕ → List FLexeme → Type 0
AreFrom z at [] = AllIn class.Blank z at (length z)
AreFrom z at (x ∷ xs) = (at ≤ x.from) × AllIn class.Blank z at x.from × IsLexeme z x × AreFrom z x.to xs

-- the lexemes of a text are so from its start
abbrev pub FqlLexemesAreSound : Type 0
FqlLexemesAreSound = (z : TextBytes) (xs : List FLexeme) → fql_lexemes_of z ≡ Ok xs → AreFrom z 0 xs
