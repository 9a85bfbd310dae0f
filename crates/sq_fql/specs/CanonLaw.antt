-- Canonical texts are read as their trees.
use Rattle.std.specs.Prelude.{◌≡◌, ℕ, suc, ◌≤◌, List, [], ◌∷◌, length, max, Ok}
use Rattle.std.specs.Str.{IsUtf8}
use Rattle.sq_lex.specs.Limits.{most_text_bytes, most_levels}
use Rattle.sq_fql.specs.declared.raw.FRaw.{FRaw, All, Literal, Scope', Apply', Row_of-FRaw, end_of-FRaw, more_of-FRaw}
use Rattle.sq_fql.specs.declared.raw.FRaw.TheVariants as tree
use Rattle.sq_fql.specs.Canon.{canon}
use Rattle.sq_fql.specs.Read.{read_of}
use Rattle.sq_fql.specs.WellFormed.{IsWellFormed}

abbrev mutual
  -- the most parentheses and scopes that are open at once
  pub levels : FRaw → ℕ
  levels (All at) = 0
  levels (Literal p) = 0
  levels (Scope' at name s inside) = suc (levels_each inside)
  levels (Apply' at op s operands) = suc (levels_each operands)

  pub levels_each : {m : _} → Row_of-FRaw m → ℕ
  levels_each end_of-FRaw = 0
  levels_each (more_of-FRaw part rest) = max (levels part) (levels_each rest)

abbrev mutual
  -- each literal is a text
  pub AreTexts : FRaw → Type 0
  AreTexts (All at) = Unit {0}
  AreTexts (Literal p) = IsUtf8 p.text
  AreTexts (Scope' at name s inside) = EachTexts inside
  AreTexts (Apply' at op s operands) = EachTexts operands

  pub EachTexts : {m : _} → Row_of-FRaw m → Type 0
  EachTexts end_of-FRaw = Unit {0}
  EachTexts (more_of-FRaw part rest) = AreTexts part × EachTexts rest

abbrev mutual
  -- the tree with each place 0
  pub unplaced : FRaw → FRaw
  unplaced (All at) = tree.All 0
  unplaced (Literal p) = tree.Literal (record { at = 0; text = p.text })
  unplaced (Scope' at name s (more_of-FRaw inner end_of-FRaw)) = tree.Scope 0 name (unplaced inner)
  unplaced (Apply' at op s operands) = tree.Apply 0 op (unplaced_each operands)

  pub unplaced_each : {m : _} → Row_of-FRaw m → List FRaw
  unplaced_each end_of-FRaw = []
  unplaced_each (more_of-FRaw part rest) = unplaced part ∷ unplaced_each rest

-- the text is read as the tree, places aside
pub record IsReadAs (z : List ℕ) (t : FRaw) : Type 0 where
  pub found : FRaw
  pub read : read_of z ≡ Ok found
  pub same : unplaced found ≡ unplaced t

-- The canonical text of a well-formed tree is read as the tree, unless it is too long or the tree too deep.
abbrev pub CanonReadsBack : Type 0
CanonReadsBack = (t : FRaw) → IsWellFormed t → AreTexts t → levels t ≤ most_levels → length (canon t) ≤ most_text_bytes → IsReadAs (canon t) t

-- A text is read as a tree that is well formed, unless it is too long or the tree too deep.
abbrev pub ReadsBack : List ℕ → FRaw → Type 0
ReadsBack z t = IsWellFormed t → levels t ≤ most_levels → length z ≤ most_text_bytes → IsReadAs z t
