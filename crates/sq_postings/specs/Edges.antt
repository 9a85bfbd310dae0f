-- Spans at the ends of their passages.
use Rattle.std.specs.Prelude.{ℕ, ◌+◌, ◌==◌, Bool, not, ◌&&◌, ◌||◌}
use Rattle.sq_cursor.specs.declared.span.Span.{Span}
use Rattle.sq_postings.specs.Indexed.{Indexed, length_of}

-- the span begins with its passage where `starts`, and ends with it where `ends`
abbrev pub is_at_edge : Indexed → Bool → Bool → Span → Bool
is_at_edge index starts ends s = (not starts || s.first == 0) && (not ends || s.last + 1 == length_of index s.row s.part)
