-- Texts in one buffer.
use Rattle.std.specs.Prelude.{ℕ, ◌≤◌, List, map, slice_range}
use Rattle.std.specs.Str.{IsCharBoundary}
use Rattle.sq_stored.specs.declared.texts.Span.{Span}

-- the text at a span
abbrev pub text_at : List ℕ → Span → List ℕ
text_at buffer span = slice_range buffer span.start span.end

-- the texts at these spans
abbrev pub texts_at : List ℕ → List Span → List (List ℕ)
texts_at buffer spans = map (text_at buffer) spans

-- a text of the buffer may be read at the span
pub record IsSpanOf (buffer : List ℕ) (span : Span) : Type 0 where
  pub ordered : span.start ≤ span.end
  pub start : IsCharBoundary buffer span.start
  pub end : IsCharBoundary buffer span.end
