-- The spans of a proximity expression.
use Rattle.std.specs.Prelude.{◌≡◌, ℕ, ◌+◌, ◌*◌, ◌≤◌, not, List}
use Rattle.std.specs.List.{list_any}
use Rattle.sq_cursor.specs.declared.span.Span.{Span}
use Rattle.sq_model.specs.Copies.{copies}
use Rattle.sq_model.specs.Cost.{spans_count}
use Rattle.sq_model.specs.FqlSound.{SpansSound}
use Rattle.sq_model.specs.Lists.{is_empty}
use Rattle.sq_model.specs.Looked.{looked}
use Rattle.sq_model.specs.Spans.{triples}
use Rattle.sq_model.specs.Valid.{IsValid}
use Rattle.sq_model.specs.declared.corpus.Corpus.{Corpus}
use Rattle.sq_model.specs.declared.fql.Look.{Look}
use Rattle.sq_model.specs.declared.fql.SpanTree.{SpanTree}
use Rattle.sq_near.specs.Rows.{has_row}
use Rattle.sq_postings.specs.Indexed.{Indexed}
use Rattle.sq_postings.specs.Occurrences.{values_at}
use Rattle.sq_postings.specs.StandsFor.{StandsFor}

-- For each valid corpus that the index stands for, a row has a match exactly where one of the lists has a span there.
abbrev pub HaveMatches : Indexed → Look → SpanTree → List (List Span) → Type 0
HaveMatches index look tree lists = (corpus : Corpus) → IsValid corpus → StandsFor index corpus → SpansSound tree → (row : ℕ) →
    list_any (has_row row) lists ≡ list_any (λ passage. not (is_empty (triples passage tree))) (looked look corpus.schema (values_at corpus.items row))

-- at most the tokens that the literals ask for are read, once for each copy
abbrev pub IsWithinCopies : Indexed → Look → SpanTree → ℕ → ℕ → Type 0
IsWithinCopies index look tree before after = (corpus : Corpus) → IsValid corpus → StandsFor index corpus → SpansSound tree →
    after ≤ before + copies tree * spans_count corpus look tree
