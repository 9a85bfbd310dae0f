-- Streams over an index, and what a row has of them.
use Rattle.std.proofs.Common.{◌≡◌, ℕ, ◌≤◌, Bool, true, false, List, [], ◌∷◌, map, length, min, Option, Some, None, refl, sym, ap, ◌∙◌, arith}
use Rattle.std.specs.Prelude.{IfSome, is_some, nat_le, nat_lt, ◌&&◌}
use Rattle.std.specs.List.{list_any}
use Rattle.std.proofs.lemmas.Bool.Decides.{nat_tests}
use Rattle.sq_cursor.specs.declared.span.Span.{Span}
use Rattle.sq_cursor.specs.Spans.{are_ordered}
use Rattle.sq_near.specs.declared.stream.Stream.{Stream}
use Rattle.sq_near.specs.Streams.{stream_ordered}
use Rattle.sq_near.specs.Moves.{first_of}
use Rattle.sq_near.specs.Rows.{spans_in, has_row}
use Rattle.sq_model.specs.Fql.{is_counted}
use Rattle.sq_postings.specs.declared.posts.PostCursor.{PostCursor}
use Rattle.sq_nodes.specs.Leaves.{post_left, spans_left, spans_score, plain}
use Rattle.sq_nodes.proofs.PartLemmas.{any_map, any_same}
use Rattle.sq_nodes.proofs.SpanLemmas.{has_first}

pub ordered : (stream : Stream PostCursor) → are_ordered (spans_left stream) ≡ true
ordered stream = stream_ordered post_left (λ c. c.entries.spans) stream

pub row_same : (row : ℕ) (a b : List Span) → spans_in row a ≡ spans_in row b → has_row row a ≡ has_row row b
row_same row a b e = sym (has_first row a) ∙ ap (λ spans. is_some (first_of spans)) e ∙ has_first row b

pub no_row : (row : ℕ) (a : List Span) → spans_in row a ≡ [] → has_row row a ≡ false
no_row row a e = sym (has_first row a) ∙ ap (λ spans. is_some (first_of spans)) e

pub spans_some : (streams : List (Stream PostCursor)) (row : ℕ) (b : Bool) → list_any (λ stream. has_row row (spans_left stream)) streams ≡ b → spans_score streams row ≡ plain b
spans_some streams row b e = ap plain (any_map (has_row row) spans_left streams ∙ e)

pub spans_same : (xs ys : List (Stream PostCursor)) (row : ℕ) → map (λ stream. has_row row (spans_left stream)) xs ≡ map (λ stream. has_row row (spans_left stream)) ys →
    spans_score xs row ≡ spans_score ys row
spans_same xs ys row e =
    ap plain (any_map (has_row row) spans_left xs ∙ any_same (λ stream. has_row row (spans_left stream)) xs ys e ∙ sym (any_map (has_row row) spans_left ys))

pub length_end : (spans : List Span) → first_of spans ≡ None → length spans ≡ 0
length_end [] e = refl
length_end (a ∷ spans) e = cc

-- ---- a count up to the greatest `u32` is as good as the count

pub counted_most : (from : ℕ) (to : Option ℕ) (count most : ℕ) → from ≤ most → IfSome to (λ n. n ≤ most) → is_counted from to (min count most) ≡ is_counted from to count
counted_most from None count most l m = at
  where
    at : nat_le from (min count most) && true ≡ nat_le from count && true
    at = grind (arith, nat_tests)
counted_most from (Some n) count most l m = at
  where
    at : nat_le from (min count most) && nat_lt (min count most) n ≡ nat_le from count && nat_lt count n
    at = grind (arith, nat_tests)
