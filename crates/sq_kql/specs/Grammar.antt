-- Which tree lexemes spell. One type for each rule, from tight to loose: parentheses; NEAR and ONEAR, to the left; signs; operands side by side; AND; OR;
-- XRANK, to the left.
use Rattle.std.specs.Prelude.{◌≡◌, ℕ, ◌≤◌, ℤ, Bool, true, false, List, [], ◌∷◌, ◌++◌, length, slice_range, Option}
use Rattle.std.specs.Option.{option_map}
use Rattle.sq_lex.specs.declared.lexeme.Cut.{Cut}
use Rattle.sq_lex.specs.declared.lexeme.Relation.{Relation}
use Rattle.sq_lex.specs.declared.lexeme.KKind.{KKind}
use Rattle.sq_lex.specs.declared.lexeme.KKind.TheVariants as kind
use Rattle.sq_lex.specs.declared.lexeme.KLexeme.{KLexeme}
use Rattle.sq_lex.specs.Bytes.{TextBytes}
use Rattle.sq_kql.specs.declared.raw.Piece.{Piece}
use Rattle.sq_kql.specs.declared.raw.RawSign.{RawSign}
use Rattle.sq_kql.specs.declared.raw.RawSign.TheVariants as sign
use Rattle.sq_kql.specs.declared.raw.KRawOperand.{KRawOperand}
use Rattle.sq_kql.specs.declared.raw.KRaw.{KRaw}
use Rattle.sq_kql.specs.declared.raw.KRaw.TheVariants as tree
use Rattle.sq_kql.specs.Node.{piece, operand_of}

pub data IsSign : KKind → RawSign → Type 0 where
  plus : IsSign kind.Plus sign.Plus
  minus : IsSign kind.Minus sign.Minus
  negation : IsSign kind.Not sign.Minus

pub data IsProximity : KKind → ℕ → Bool → Type 0 where
  unordered : {n : ℕ} → IsProximity (kind.Near n) n false
  ordered : {n : ℕ} → IsProximity (kind.Onear n) n true

-- the pieces of a WORDS list
pub data Lists (z : TextBytes) : List KLexeme → List Piece → Type 0 where
  no_items : Lists z [] []
  more_items : (x : KLexeme) (xs : List KLexeme) (ps : List Piece) (c : Cut) → x.kind ≡ kind.Free c → Lists z xs ps → Lists z (x ∷ xs) (piece z c ∷ ps)

-- the place of the first lexeme
abbrev pub first_at : List KLexeme → ℕ
first_at [] = 0
first_at (x ∷ xs) = x.from

mutual
  -- free text, `*`, a restriction, a WORDS list, or a group
  pub data SpellsBasic (z : TextBytes) : List KLexeme → KRaw → Type 0 where
    free : (x : KLexeme) (c : Cut) → x.kind ≡ kind.Free c → SpellsBasic z (x ∷ []) (tree.Free (piece z c))
    all : (x : KLexeme) → x.kind ≡ kind.All → SpellsBasic z (x ∷ []) (tree.All x.from)
    restrict : (x : KLexeme) (name_to : ℕ) (rel : Relation) (c : Cut) (upper : Option Cut) → x.kind ≡ kind.Restrict name_to rel c upper
        → SpellsBasic z (x ∷ []) (tree.Restrict x.from (slice_range z x.from name_to) rel (piece z c) (option_map (piece z) upper))
    words : (x y : KLexeme) (xs : List KLexeme) (ps : List Piece) → x.kind ≡ kind.Words (length ps) → Lists z xs ps → y.kind ≡ kind.WordsEnd
        → SpellsBasic z (x ∷ (xs ++ y ∷ [])) (tree.Words x.from ps)
    group : (x y : KLexeme) (xs : List KLexeme) (t : KRaw) → x.kind ≡ kind.LeftParen → Spells z xs t → y.kind ≡ kind.RightParen
        → SpellsBasic z (x ∷ (xs ++ y ∷ [])) (tree.Group x.from t)

  -- proximity groups to the left
  pub data SpellsChain (z : TextBytes) : List KLexeme → KRaw → Type 0 where
    basic : (xs : List KLexeme) (t : KRaw) → SpellsBasic z xs t → SpellsChain z xs t
    near : (x : KLexeme) (xs ys : List KLexeme) (t u : KRaw) (n : ℕ) (ordered : Bool) → SpellsChain z xs t → IsProximity x.kind n ordered → SpellsBasic z ys u
        → SpellsChain z (xs ++ x ∷ ys) (tree.Near (first_at xs) t u n ordered)

  -- an operand behind a sign
  pub data SpellsSigned (z : TextBytes) : List KLexeme → KRawOperand → Type 0 where
    signed : (x : KLexeme) (xs : List KLexeme) (s : RawSign) (t : KRaw) → IsSign x.kind s → SpellsChain z xs t → SpellsSigned z (x ∷ xs) (operand_of s x.from t)

  -- an operand, behind a sign or not
  pub data SpellsOperand (z : TextBytes) : List KLexeme → KRawOperand → Type 0 where
    plain : (xs : List KLexeme) (t : KRaw) → SpellsChain z xs t → SpellsOperand z xs (operand_of sign.Plain (first_at xs) t)
    behind_sign : (xs : List KLexeme) (o : KRawOperand) → SpellsSigned z xs o → SpellsOperand z xs o

  -- one or more operands side by side
  pub data SpellsOperands (z : TextBytes) : List KLexeme → List KRawOperand → Type 0 where
    one_operand : (xs : List KLexeme) (o : KRawOperand) → SpellsOperand z xs o → SpellsOperands z xs (o ∷ [])
    more_operands : (xs ys : List KLexeme) (os : List KRawOperand) (o : KRawOperand) → SpellsOperands z xs os → SpellsOperand z ys o
        → SpellsOperands z (xs ++ ys) (os ++ o ∷ [])

  -- a run; one plain operand stands for itself
  pub data SpellsRun (z : TextBytes) : List KLexeme → KRaw → Type 0 where
    lone : (xs : List KLexeme) (t : KRaw) → SpellsChain z xs t → SpellsRun z xs t
    lone_signed : (xs : List KLexeme) (o : KRawOperand) → SpellsSigned z xs o → SpellsRun z xs (tree.Run (first_at xs) (o ∷ []))
    run : (xs : List KLexeme) (os : List KRawOperand) → SpellsOperands z xs os → 2 ≤ length os → SpellsRun z xs (tree.Run (first_at xs) os)

  -- one or more runs with AND between
  pub data SpellsRuns (z : TextBytes) : List KLexeme → List KRaw → Type 0 where
    one_run : (xs : List KLexeme) (t : KRaw) → SpellsRun z xs t → SpellsRuns z xs (t ∷ [])
    more_runs : (x : KLexeme) (xs ys : List KLexeme) (ts : List KRaw) (t : KRaw) → SpellsRuns z xs ts → x.kind ≡ kind.And → SpellsRun z ys t
        → SpellsRuns z (xs ++ x ∷ ys) (ts ++ t ∷ [])

  -- AND; one part stands for itself
  pub data SpellsAnd (z : TextBytes) : List KLexeme → KRaw → Type 0 where
    lone_run : (xs : List KLexeme) (t : KRaw) → SpellsRun z xs t → SpellsAnd z xs t
    and : (xs : List KLexeme) (ts : List KRaw) → SpellsRuns z xs ts → 2 ≤ length ts → SpellsAnd z xs (tree.And (first_at xs) ts)

  -- one or more of these with OR between
  pub data SpellsAnds (z : TextBytes) : List KLexeme → List KRaw → Type 0 where
    one_and : (xs : List KLexeme) (t : KRaw) → SpellsAnd z xs t → SpellsAnds z xs (t ∷ [])
    more_ands : (x : KLexeme) (xs ys : List KLexeme) (ts : List KRaw) (t : KRaw) → SpellsAnds z xs ts → x.kind ≡ kind.Or → SpellsAnd z ys t
        → SpellsAnds z (xs ++ x ∷ ys) (ts ++ t ∷ [])

  -- OR; one part stands for itself
  pub data SpellsOr (z : TextBytes) : List KLexeme → KRaw → Type 0 where
    lone_and : (xs : List KLexeme) (t : KRaw) → SpellsAnd z xs t → SpellsOr z xs t
    or : (xs : List KLexeme) (ts : List KRaw) → SpellsAnds z xs ts → 2 ≤ length ts → SpellsOr z xs (tree.Or (first_at xs) ts)

  -- XRANK groups to the left
  pub data Spells (z : TextBytes) : List KLexeme → KRaw → Type 0 where
    unranked : (xs : List KLexeme) (t : KRaw) → SpellsOr z xs t → Spells z xs t
    xrank : (x : KLexeme) (xs ys : List KLexeme) (t u : KRaw) (cb : ℤ) → Spells z xs t → x.kind ≡ kind.Xrank cb → SpellsOr z ys u
        → Spells z (xs ++ x ∷ ys) (tree.Xrank (first_at xs) t u cb)
