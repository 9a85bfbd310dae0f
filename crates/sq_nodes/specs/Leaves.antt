-- The scores and rests of the leaves of a plan.
use Rattle.std.specs.Prelude.{ℕ, ◌+◌, ◌<◌, ℤ, pos, Bool, eqb, if◌then◌else◌, List, [], ◌∷◌, length, map, filter, sum_by, min, Option, Some, None, ⊤}
use Rattle.std.specs.List.{list_any}
use Rattle.sq_cursor.specs.declared.span.Span.{Span}
use Rattle.sq_cursor.specs.Entries.{entries_behind}
use Rattle.sq_near.specs.declared.stream.Stream.{Stream}
use Rattle.sq_near.specs.Streams.{stream_left, stream_rest}
use Rattle.sq_near.specs.Rows.{spans_in, has_row}
use Rattle.sq_model.specs.Fql.{is_counted}
use Rattle.sq_model.specs.Passages.{some_within}
use Rattle.sq_postings.specs.declared.posts.PostCursor.{PostCursor}
use Rattle.sq_postings.specs.Indexed.{spans_of}
use Rattle.sq_postings.specs.Edges.{is_at_edge}
use Rattle.sq_nodes.specs.declared.node.Counted.{Counted}
use Rattle.sq_nodes.specs.declared.node.Edges.{Edges}
use Rattle.sq_nodes.specs.declared.node.Ranged.{Ranged}

-- a boost of 0 where it holds
abbrev pub plain : Bool → Option ℤ
plain holds = if holds then Some (pos 0) else None

-- ---- what is left

abbrev pub post_left : PostCursor → List Span
post_left c = spans_of c.property c.reader

abbrev pub post_rest : PostCursor → ℕ
post_rest c = entries_behind (post_left c)

abbrev pub spans_left : Stream PostCursor → List Span
spans_left stream = stream_left post_left stream

abbrev pub spans_rest : Stream PostCursor → ℕ
spans_rest stream = stream_rest post_rest stream

-- the first span, where it is in the row
abbrev pub first_in : ℕ → List Span → Option Span
first_in row [] = None
first_in row (s ∷ spans) = if eqb s.row row then Some s else None

abbrev pub first_number : List ℤ → Option ℤ
first_number [] = None
first_number (n ∷ numbers) = Some n

abbrev pub without_first_number : List ℤ → List ℤ
without_first_number [] = []
without_first_number (n ∷ numbers) = numbers

-- how many things there are: one or none
abbrev pub count_of : {X : Type 0} → Option X → ℕ
count_of None = 0
count_of (Some x) = 1

-- the numbers of one row among pairs of a row and a number, in order
abbrev pub numbers_in : ℕ → List (ℕ × ℤ) → List ℤ
numbers_in row pairs = map (λ pair. pair.1) (filter (λ pair. eqb pair.0 row) pairs)

-- ---- scores

abbrev pub spans_score : List (Stream PostCursor) → ℕ → Option ℤ
spans_score streams row = plain (list_any (has_row row) (map spans_left streams))

abbrev pub count_score : Counted → ℕ → Option ℤ
count_score c row = plain (is_counted c.from c.to (length (spans_in row (spans_left c.stream))))

abbrev pub edge_score : Edges → ℕ → Option ℤ
edge_score e row = plain (list_any (is_at_edge e.index.now e.starts e.ends) (spans_in row (spans_left e.stream)))

abbrev pub within_score : Ranged → ℕ → Option ℤ
within_score r row = plain (some_within r.first r.last (numbers_in row r.values))

-- ---- rests: no run of further calls counts more steps

abbrev pub streams_rest : List (Stream PostCursor) → ℕ
streams_rest streams = sum_by spans_rest streams

-- a length of a passage may be read for each span that is left
abbrev pub edge_rest : Edges → ℕ
edge_rest e = spans_rest e.stream + length (spans_left e.stream)

-- ---- rows from which on nothing holds

-- the row stands before what is next, and before the end where nothing is next
abbrev pub IsBefore : ℕ → Option ℕ → Type 0
IsBefore row None = ⊤
IsBefore row (Some to) = row < to

-- what comes first, where the end is after each row
abbrev pub earlier : Option ℕ → Option ℕ → Option ℕ
earlier None b = b
earlier (Some a) None = Some a
earlier (Some a) (Some b) = Some (min a b)
