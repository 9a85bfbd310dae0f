-- The spans of one row.
use Rattle.std.specs.Prelude.{ℕ, Bool, eqb, List, filter}
use Rattle.std.specs.List.{list_any}
use Rattle.sq_cursor.specs.declared.span.Span.{Span}

abbrev pub is_in_row : ℕ → Span → Bool
is_in_row row s = eqb s.row row

abbrev pub spans_in : ℕ → List Span → List Span
spans_in row spans = filter (is_in_row row) spans

abbrev pub has_row : ℕ → List Span → Bool
has_row row spans = list_any (is_in_row row) spans
