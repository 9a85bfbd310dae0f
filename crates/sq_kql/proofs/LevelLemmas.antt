-- What lexemes do to what is read so far.
use Rattle.std.proofs.Common.{◌≡◌, ℕ, List, [], fold, Option, Some, None, refl, sym, ap, ap₂}
use Rattle.sq_lex.specs.declared.lexeme.KLexeme.{KLexeme}
use Rattle.sq_lex.specs.Bytes.{TextBytes}
use Rattle.sq_kql.specs.declared.raw.KRawOperand.{KRawOperand}
use Rattle.sq_kql.specs.declared.raw.KRaw.{KRaw}
use Rattle.sq_kql.specs.declared.level.Sign.{Sign}
use Rattle.sq_kql.specs.declared.level.Placed.{Placed}
use Rattle.sq_kql.specs.declared.level.Operand.{Operand}
use Rattle.sq_kql.specs.declared.level.Parts.{Parts}
use Rattle.sq_kql.specs.declared.level.Ranking.{Ranking}
use Rattle.sq_kql.specs.declared.level.Level.{Level}
use Rattle.sq_kql.specs.declared.level.Outer.{Outer}
use Rattle.sq_kql.specs.declared.level.Reading.{Reading}
use Rattle.sq_kql.specs.Tree.{join_run, closed_by, closed, with_operand_by, with_operand, shift}

-- ---- what is read, with no list open

abbrev pub reading : Level → List Outer → Reading
reading l outer = record { level = l; outer = outer; listing = None }

abbrev pub reads : TextBytes → Reading → List KLexeme → Reading
reads z r xs = fold (shift z) r xs

-- ---- a level

-- a level where a run begins
abbrev pub start : Option Ranking → Parts → Parts → Level
start ranking ors ands = record { ranking = ranking; ors = ors; ands = ands; first = None; others = []; sign = None; nearing = None; last = None }

-- a level whose run has operands
abbrev pub running : Option Ranking → Parts → Parts → Operand → List KRawOperand → Level
running ranking ors ands first others =
    record { ranking = ranking; ors = ors; ands = ands; first = Some first; others = others; sign = None; nearing = None; last = None }

abbrev pub parts : ℕ → List KRaw → Parts
parts at ts = record { at = at; trees = ts }

-- ---- the operand that was had joins the run

pub join_last : (f : Option Operand) (o : Operand) (l : Level) (p : Option Placed) → join_run f o (record l { last = p }) ≡ join_run f o l
join_last None o l p = refl
join_last (Some f) o l p = refl

pub join_sign : (f : Option Operand) (o : Operand) (l : Level) (s : Option Sign) → join_run f o (record l { sign = s }) ≡ join_run f o l
join_sign None o l s = refl
join_sign (Some f) o l s = refl

pub join_nearing : (f : Option Operand) (o : Operand) (l : Level) → (join_run f o l).nearing ≡ l.nearing
join_nearing None o l = refl
join_nearing (Some f) o l = refl

pub join_no_last : (f : Option Operand) (o : Operand) (l : Level) → (join_run f o l).last ≡ None
join_no_last None o l = refl
join_no_last (Some f) o l = refl

pub join_no_sign : (f : Option Operand) (o : Operand) (l : Level) → (join_run f o l).sign ≡ None
join_no_sign None o l = refl
join_no_sign (Some f) o l = refl

by_nearing : (p : Option Placed) (l : Level) → (closed_by p l).nearing ≡ l.nearing
by_nearing None l = refl
by_nearing (Some p) l = join_nearing l.first _ l

pub closed_nearing : (l : Level) → (closed l).nearing ≡ l.nearing
unfolding closed
closed_nearing l = by_nearing l.last l

by_last : (p : Option Placed) (l : Level) → l.last ≡ p → (closed_by p l).last ≡ None
by_last None l is = is
by_last (Some p) l is = join_no_last l.first _ l

pub closed_last : (l : Level) → (closed l).last ≡ None
unfolding closed
closed_last l = by_last l.last l refl

-- a level without an operand that was had
pub closed_none : (l : Level) → l.last ≡ None → closed l ≡ l
unfolding closed
closed_none l is = ap (λ p. closed_by p l) is

pub closed_some : (l : Level) (p : Placed) → l.last ≡ Some p → closed l ≡ closed_by (Some p) l
unfolding closed
closed_some l p is = ap (λ q. closed_by q l) is

-- without a proximity operator before it an operand is a new one of the run
pub new_operand : (l : Level) (p : Placed) → l.nearing ≡ None → with_operand l p ≡ with_operand_by None l p
unfolding with_operand
new_operand l p is = ap₂ (λ n m. with_operand_by n (record l { nearing = m }) p) is (sym is)
