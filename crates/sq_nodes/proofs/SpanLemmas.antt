-- The spans of a row, when a stream moves to the row and takes them.
use Rattle.std.proofs.Common.{◌≡◌, ℕ, ◌+◌, ◌<◌, ◌≤◌, Bool, true, false, not, cond, ◌&&◌, ◌||◌, List, [], ◌∷◌, length, Option, Some, None, refl, sym, ap, ◌∙◌, subst, arith}
use Rattle.std.specs.Prelude.{eqb, nat_lt, nat_le, IfSome, is_some}
use Rattle.std.proofs.lemmas.Bool.Decides.{nat_tests}
use Rattle.sq_cursor.specs.declared.span.Span.{Span}
use Rattle.sq_cursor.specs.Spans.{passage_of, is_passage_before, comes_after, all_come_after, are_ordered, first_passage, spans_from, without_first_span}
use Rattle.sq_near.specs.Rows.{spans_in, has_row}
use Rattle.sq_near.specs.Moves.{first_of}
use Rattle.sq_nodes.specs.Leaves.{IsBefore, first_in}
use Rattle.sq_nodes.proofs.RowLemmas as rows
use Rattle.sq_nodes.proofs.RowLemmas.{Sorted, Passes, row_first, first_entry, without_entry, entry_in, in_row}

abbrev from_row : ℕ → Span → Bool
from_row row s = not (is_passage_before (passage_of s) (row, 0))

passes : (row : ℕ) → Passes (λ (s : Span). s.row) row (from_row row)
passes row s = (to, of)
  where
    to : row ≤ s.row → not (nat_lt s.row row || (eqb s.row row && nat_lt s.part 0)) ≡ true
    to l = grind (arith, nat_tests)

    of : not (nat_lt s.row row || (eqb s.row row && nat_lt s.part 0)) ≡ true → row ≤ s.row
    of e = grind (arith, nat_tests)

and_left : (a b : Bool) → a && b ≡ true → a ≡ true
and_left true b e = refl
and_left false b e = e

and_right : (a b : Bool) → a && b ≡ true → b ≡ true
and_right true b e = e
and_right false b e = cc

row_after : (a b : Span) → comes_after a b ≡ true → a.row ≤ b.row
row_after a b e = at e
  where
    at : (nat_lt a.row b.row || (eqb a.row b.row && nat_lt a.part b.part)) || (eqb a.row b.row && (eqb a.part b.part && (nat_lt a.first b.first && nat_lt a.last b.last))) ≡ true → a.row ≤ b.row
    at e = grind (arith, nat_tests)

pub sorted : (low : ℕ) (spans : List Span) → are_ordered spans ≡ true → ((s : Span) (more : List Span) → spans ≡ s ∷ more → low ≤ s.row) → Sorted (λ (s : Span). s.row) low spans
sorted low [] e first = tt
sorted low (a ∷ spans) e first = (first a spans refl, sorted a.row spans ordered next)
  where
    ordered : are_ordered spans ≡ true
    ordered = and_right (all_come_after a spans) (are_ordered spans) (and_right (nat_le a.first a.last) _ e)

    next : (s : Span) (more : List Span) → spans ≡ s ∷ more → a.row ≤ s.row
    next s more is =
        let after : all_come_after a spans ≡ true = and_left (all_come_after a spans) (are_ordered spans) (and_right (nat_le a.first a.last) _ e) in
        row_after a s (and_left (comes_after a s) (all_come_after a more) (sym (ap (all_come_after a) is) ∙ after))

pub ordered_rows : (spans : List Span) → are_ordered spans ≡ true → Sorted (λ (s : Span). s.row) 0 spans
ordered_rows spans e = sorted 0 spans e (λ s more is. omega arith)

-- ---- a move to a row

pub spans_kept : (row : ℕ) (old new : List Span) (r : ℕ) → new ≡ spans_from (row, 0) old → row ≤ r → spans_in r new ≡ spans_in r old
spans_kept row old new r e l = ap (spans_in r) e ∙ rows.kept_row (λ (s : Span). s.row) row (from_row row) (passes row) old r l

pub spans_fewer : (row : ℕ) (old new : List Span) → new ≡ spans_from (row, 0) old → length new ≤ length old
spans_fewer row old new e = subst (λ spans. length spans ≤ length old) (sym e) (rows.length_filter (from_row row) old)

sorted_new : (row : ℕ) (old new : List Span) → are_ordered old ≡ true → new ≡ spans_from (row, 0) old → Sorted (λ (s : Span). s.row) row new
sorted_new row old new o e =
    subst (Sorted (λ (s : Span). s.row) row) (sym e) (rows.sorted_from (λ (s : Span). s.row) row (from_row row) old (passes row) (ordered_rows old o))

abbrev row_in : Option (ℕ × ℕ) → Option ℕ
row_in None = None
row_in (Some p) = Some p.0

first_row_is : (spans : List Span) → row_first (λ (s : Span). s.row) spans ≡ row_in (first_passage spans)
first_row_is [] = refl
first_row_is (s ∷ spans) = refl

pub none_before : (row : ℕ) (old new : List Span) (to part : ℕ) → are_ordered old ≡ true → new ≡ spans_from (row, 0) old → first_passage new ≡ Some (to, part) →
    (r : ℕ) → row ≤ r → r < to → spans_in r old ≡ []
none_before row old new to part o e f r l b =
    sym (spans_kept row old new r e l)
    ∙ rows.none_before (λ (s : Span). s.row) row new r (sorted_new row old new o e) (subst (IsBefore r) (sym (first_row_is new ∙ ap row_in f)) b)

pub none_left : (row : ℕ) (old new : List Span) → new ≡ spans_from (row, 0) old → first_passage new ≡ None → (r : ℕ) → row ≤ r → spans_in r old ≡ []
none_left row old new e f r l = sym (spans_kept row old new r e l) ∙ at new f
  where
    at : (spans : List Span) → first_passage spans ≡ None → spans_in r spans ≡ []
    at [] f = refl
    at (s ∷ spans) f = cc

pub forward : (row : ℕ) (old new : List Span) (to part : ℕ) → are_ordered old ≡ true → new ≡ spans_from (row, 0) old → first_passage new ≡ Some (to, part) → row ≤ to
forward row old new to part o e f =
    subst (λ at. IfSome at (λ to. row ≤ to)) (first_row_is new ∙ ap row_in f) (rows.first_from (λ (s : Span). s.row) row new (sorted_new row old new o e))

-- ---- the first span of a row, and what is left without it

entry_of : (row : ℕ) (spans : List Span) → first_in row spans ≡ entry_in (λ (s : Span). s.row) row spans
entry_of row [] = refl
entry_of row (s ∷ spans) = refl

first_entry_of : (spans : List Span) → first_of spans ≡ first_entry spans
first_entry_of [] = refl
first_entry_of (s ∷ spans) = refl

without_of : (spans : List Span) → without_first_span spans ≡ without_entry spans
without_of [] = refl
without_of (s ∷ spans) = refl

pub first_is : (row : ℕ) (old new : List Span) → are_ordered old ≡ true → new ≡ spans_from (row, 0) old → first_in row new ≡ first_of (spans_in row old)
first_is row old new o e =
    entry_of row new ∙ rows.entry_first (λ (s : Span). s.row) row new (sorted_new row old new o e)
    ∙ ap first_entry (spans_kept row old new row e (omega arith)) ∙ sym (first_entry_of (spans_in row old))

pub has_first : (row : ℕ) (spans : List Span) → is_some (first_of (spans_in row spans)) ≡ has_row row spans
has_first row [] = refl
has_first row (s ∷ spans) = at (eqb s.row row) (has_first row spans)
  where
    at : (b : Bool) → is_some (first_of (spans_in row spans)) ≡ has_row row spans →
        is_some (first_of (cond b (s ∷ spans_in row spans) (spans_in row spans))) ≡ b || has_row row spans
    at true more = refl
    at false more = more

-- where no span of the row is left
pub none_taken : (row : ℕ) (old new : List Span) → are_ordered old ≡ true → new ≡ spans_from (row, 0) old → first_in row new ≡ None →
    spans_in row new ≡ without_first_span (spans_in row old)
none_taken row old new o e f =
    let none : spans_in row old ≡ [] = rows.no_entry (spans_in row old) (sym (first_entry_of (spans_in row old)) ∙ sym (first_is row old new o e) ∙ f) in
    spans_kept row old new row e (omega arith) ∙ none ∙ sym (ap without_first_span none)

pub one_taken : (row : ℕ) (old new : List Span) (s : Span) → new ≡ spans_from (row, 0) old → first_in row new ≡ Some s →
    spans_in row (without_first_span new) ≡ without_first_span (spans_in row old)
one_taken row old new s e f =
    ap (spans_in row) (without_of new) ∙ rows.row_without (λ (s : Span). s.row) row new s (sym (entry_of row new) ∙ f)
    ∙ sym (without_of (spans_in row new)) ∙ ap without_first_span (spans_kept row old new row e (omega arith))

pub others_left : (row : ℕ) (old new : List Span) (s : Span) → new ≡ spans_from (row, 0) old → first_in row new ≡ Some s →
    (r : ℕ) → row < r → spans_in r (without_first_span new) ≡ spans_in r old
others_left row old new s e f r l =
    ap (spans_in r) (without_of new) ∙ rows.others_without (λ (s : Span). s.row) row new s r (sym (entry_of row new) ∙ f) l
    ∙ spans_kept row old new r e (omega arith)

pub one_fewer : (row : ℕ) (old new : List Span) (s : Span) → new ≡ spans_from (row, 0) old → first_in row new ≡ Some s →
    length (without_first_span new) + 1 ≤ length old
one_fewer row old new s e f =
    let less = rows.fewer_without (λ (s : Span). s.row) row new s (sym (entry_of row new) ∙ f) in
    omega (arith, less, spans_fewer row old new e, ap length (without_of new))
