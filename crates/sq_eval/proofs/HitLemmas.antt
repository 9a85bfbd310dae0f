-- How a plan moves along the admitted rows.
use Rattle.std.proofs.Common.{◌≡◌, ℕ, ◌<◌, ◌≤◌, Bool, true, false, cond, List, [], ◌∷◌, length, Option, Some, None, refl, sym, ap, ap₂, ◌∙◌, arith}
use Rattle.std.specs.List.{cons_option}
use Rattle.std.specs.Prelude.{ℤ, nat_le, option_map}
use Rattle.std.proofs.lemmas.Bool.Decides.{nat_tests}
use Rattle.sq_cursor.specs.Rows.{AllAbove, IsRising, first_row, without_first as without_row, rows_from}
use Rattle.sq_eval.specs.Meaning.{scored_rows}

-- one row, where it has a score
abbrev pub hit : ℕ → Option ℤ → Option (ℕ × ℤ)
hit row score = option_map (λ boost. (row, boost)) score

-- scores that agree on rows above one give the same
pub same_above : (f g : ℕ → Option ℤ) (low : ℕ) (rows : List ℕ) → AllAbove low rows → ((r : ℕ) → low < r → g r ≡ f r) → scored_rows g rows ≡ scored_rows f rows
same_above f g low [] above same = refl
same_above f g low (row ∷ rows) above same = ap₂ cons_option (ap (hit row) (same row above.0)) (same_above f g low rows above.1 same)

-- scores that agree everywhere
pub same_rows : (f g : ℕ → Option ℤ) (rows : List ℕ) → ((r : ℕ) → g r ≡ f r) → scored_rows g rows ≡ scored_rows f rows
same_rows f g [] same = refl
same_rows f g (row ∷ rows) same = ap₂ cons_option (ap (hit row) (same row)) (same_rows f g rows same)

-- no row has a score
pub scored_none : (f : ℕ → Option ℤ) (rows : List ℕ) → ((r : ℕ) → f r ≡ None) → scored_rows f rows ≡ []
scored_none f [] none = refl
scored_none f (row ∷ rows) none = ap (λ score. cons_option (hit row score) (scored_rows f rows)) (none row) ∙ scored_none f rows none

-- the first row is passed, and those behind it score as before
pub later_rows : (f g : ℕ → Option ℤ) (rows : List ℕ) (row : ℕ) → IsRising rows → first_row rows ≡ Some row → ((r : ℕ) → row < r → g r ≡ f r) →
    scored_rows g (without_row rows) ≡ scored_rows f (without_row rows)
later_rows f g [] row rises is same = refl
later_rows f g (x ∷ rows) row rises is same =
    let at : x ≡ row = cc in
    same_above f g x rows rises.0 (λ r l. same r (omega arith))

pub first_scored : (f : ℕ → Option ℤ) (rows : List ℕ) (row : ℕ) (boost : ℤ) → first_row rows ≡ Some row → f row ≡ Some boost →
    scored_rows f rows ≡ (row, boost) ∷ scored_rows f (without_row rows)
first_scored f [] row boost is has = cc
first_scored f (x ∷ rows) row boost is has =
    let at : x ≡ row = cc in
    ap (λ r. cons_option (hit r (f r)) (scored_rows f rows)) at ∙ ap (λ score. cons_option (hit row score) (scored_rows f rows)) has

pub first_unscored : (f : ℕ → Option ℤ) (rows : List ℕ) (row : ℕ) → first_row rows ≡ Some row → f row ≡ None →
    scored_rows f rows ≡ scored_rows f (without_row rows)
first_unscored f [] row is has = refl
first_unscored f (x ∷ rows) row is has =
    let at : x ≡ row = cc in
    ap (λ r. cons_option (hit r (f r)) (scored_rows f rows)) at ∙ ap (λ score. cons_option (hit row score) (scored_rows f rows)) has

-- ---- passing rows that have no score

-- rows not below one
abbrev pub AllFrom : ℕ → List ℕ → Type 0
AllFrom low [] = Unit {0}
AllFrom low (row ∷ rows) = (low ≤ row) × AllFrom low rows

from_above : (low x : ℕ) (rows : List ℕ) → low ≤ x → AllAbove x rows → AllFrom low rows
from_above low x [] l above = tt
from_above low x (row ∷ rows) l above = let a = above.0 in (omega arith, from_above low x rows l above.1)

pub from_first : (rows : List ℕ) (row : ℕ) → IsRising rows → first_row rows ≡ Some row → AllFrom row rows
from_first [] row rises is = tt
from_first (x ∷ rows) row rises is = let at : x ≡ row = cc in (omega arith, from_above row x rows (omega arith) rises.0)

pub none_scored : (f : ℕ → Option ℤ) (low : ℕ) (rows : List ℕ) → AllFrom low rows → ((r : ℕ) → low ≤ r → f r ≡ None) → scored_rows f rows ≡ []
none_scored f low [] from none = refl
none_scored f low (row ∷ rows) from none =
    ap (λ score. cons_option (hit row score) (scored_rows f rows)) (none row from.0) ∙ none_scored f low rows from.1 none

-- rows before `to` have no score, and the others score as before
pub skipped_rows : (f g : ℕ → Option ℤ) (low to : ℕ) (rows : List ℕ) → AllFrom low rows → ((r : ℕ) → low ≤ r → r < to → f r ≡ None) → ((r : ℕ) → low ≤ r → g r ≡ f r) →
    scored_rows g (rows_from to rows) ≡ scored_rows f rows
skipped_rows f g low to [] from none same = refl
skipped_rows f g low to (row ∷ rows) from none same = at (nat_le to row) refl (skipped_rows f g low to rows from.1 none same)
  where
    at : (b : Bool) → nat_le to row ≡ b → scored_rows g (rows_from to rows) ≡ scored_rows f rows →
        scored_rows g (cond b (row ∷ rows_from to rows) (rows_from to rows)) ≡ cons_option (hit row (f row)) (scored_rows f rows)
    at true e more = ap₂ cons_option (ap (hit row) (same row from.0)) more
    at false e more =
        let below : row < to = grind (arith, nat_tests) in
        more ∙ sym (ap (λ score. cons_option (hit row score) (scored_rows f rows)) (none row from.0 below))

pub same_from : (f g : ℕ → Option ℤ) (low : ℕ) (rows : List ℕ) → AllFrom low rows → ((r : ℕ) → low ≤ r → g r ≡ f r) → scored_rows g rows ≡ scored_rows f rows
same_from f g low [] from same = refl
same_from f g low (row ∷ rows) from same = ap₂ cons_option (ap (hit row) (same row from.0)) (same_from f g low rows from.1 same)

-- ---- the rows get fewer

no_more : (to : ℕ) (rows : List ℕ) → length (rows_from to rows) ≤ length rows
no_more to [] = omega arith
no_more to (row ∷ rows) = at (nat_le to row) (no_more to rows)
  where
    at : (b : Bool) → length (rows_from to rows) ≤ length rows → length (cond b (row ∷ rows_from to rows) (rows_from to rows)) ≤ length (row ∷ rows)
    at true l = omega arith
    at false l = omega arith

pub fewer_from : (to row : ℕ) (rows : List ℕ) → first_row rows ≡ Some row → row < to → length (rows_from to rows) < length rows
fewer_from to row [] is l = cc
fewer_from to row (x ∷ rows) is l =
    let at : x ≡ row = cc in
    let no : nat_le to x ≡ false = grind (arith, nat_tests) in
    let more = no_more to rows in
    rw no (omega arith)
