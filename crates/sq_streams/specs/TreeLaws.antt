-- Laws of the streams of expressions.
use Rattle.std.specs.Prelude.{◌≡◌, ℕ, ◌+◌, Bool, not, List, map, sum}
use Rattle.std.specs.List.{list_any}
use Rattle.sq_cursor.specs.declared.span.Span.{Span}
use Rattle.sq_model.specs.Copies.{weights}
use Rattle.sq_model.specs.Lists.{is_empty}
use Rattle.sq_model.specs.Looked.{looked}
use Rattle.sq_model.specs.Spans.{triples}
use Rattle.sq_model.specs.Valid.{IsValid}
use Rattle.sq_model.specs.declared.corpus.Corpus.{Corpus}
use Rattle.sq_model.specs.declared.fql.Look.{Look}
use Rattle.sq_model.specs.declared.fql.SpanTree.{SpanTree, Union, Near}
use Rattle.sq_model.proofs.Members.{IsIn}
use Rattle.sq_near.specs.Covers.{joined_spans, merged_spans}
use Rattle.sq_near.specs.Laws.{AllOrdered}
use Rattle.sq_near.specs.Rows.{has_row}
use Rattle.sq_least.specs.Dense.{weights_of_sum}
use Rattle.sq_postings.specs.Occurrences.{values_at}
use Rattle.sq_streams.specs.TreeStreams.{IsStreamOf, EachStreamOf, IsJoinOf, EachJoinOf, EachWeightOf}

-- The merge of the parts' streams of one weight is the stream of their union.
abbrev pub UnionsAreStreams : Type 0
UnionsAreStreams = (corpus : Corpus) (look : Look) (v : ℕ) (parts : List SpanTree) (vs : List ℕ) (lists : List (List Span)) → ((w : ℕ) → IsIn w vs → w ≡ v) →
    EachStreamOf corpus look parts vs lists → AllOrdered lists → IsStreamOf corpus look (Union parts) v (merged_spans lists)

-- The join of the parts' streams of chosen weights counts these into its width.
abbrev pub JoinsAreStreams : Type 0
JoinsAreStreams = (corpus : Corpus) (look : Look) (parts : List SpanTree) (n : ℕ) (ordered : Bool) (vs : List ℕ) (lists : List (List Span)) →
    EachStreamOf corpus look parts vs lists → AllOrdered lists → IsJoinOf corpus look parts n ordered vs (joined_spans (n + sum vs) ordered lists)

-- The merge of the joins for all choices of weights that have the sum is the stream of a near.
abbrev pub NearsAreStreams : Type 0
NearsAreStreams = (corpus : Corpus) (look : Look) (parts : List SpanTree) (n : ℕ) (ordered : Bool) (v : ℕ) (joins : List (List Span)) →
    EachJoinOf corpus look parts n ordered (weights_of_sum v (map weights parts)) joins → AllOrdered joins → IsStreamOf corpus look (Near parts n ordered) v (merged_spans joins)

-- A row has a match exactly where the stream of one of the weights has a span there.
abbrev pub RowsHaveMatches : Type 0
RowsHaveMatches = (corpus : Corpus) (look : Look) (tree : SpanTree) (lists : List (List Span)) → IsValid corpus → EachWeightOf corpus look tree (weights tree) lists → (row : ℕ) →
    list_any (has_row row) lists ≡ list_any (λ passage. not (is_empty (triples passage tree))) (looked look corpus.schema (values_at corpus.items row))
