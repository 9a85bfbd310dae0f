-- The spans of a literal.
use Rattle.std.specs.Prelude.{◌≡◌, ℕ, ◌+◌, ◌≤◌, Bool, List, length, sum_by}
use Rattle.std.specs.List.{list_any}
use Rattle.sq_tokens.specs.Pattern.{Phrase}
use Rattle.sq_cursor.specs.declared.span.Span.{Span}
use Rattle.sq_model.specs.Cost.{phrase_count}
use Rattle.sq_model.specs.Looked.{looked}
use Rattle.sq_model.specs.Places.{places as places_of, fits_edge}
use Rattle.sq_model.specs.Triples.{of_phrase}
use Rattle.sq_model.specs.Valid.{IsValid}
use Rattle.sq_model.specs.declared.corpus.Corpus.{Corpus}
use Rattle.sq_model.specs.declared.fql.Look.{Look}
use Rattle.sq_near.specs.Covers.{matches_at}
use Rattle.sq_near.specs.Rows.{spans_in}
use Rattle.sq_postings.specs.Edges.{is_at_edge}
use Rattle.sq_postings.specs.Indexed.{Indexed}
use Rattle.sq_postings.specs.Occurrences.{values_at}
use Rattle.sq_postings.specs.StandsFor.{StandsFor}
use Rattle.sq_streams.specs.Looked.{passage_looked}

-- For each valid corpus that the index stands for, the spans are the places of the literal in the passages looked at.
pub record ArePlaces (index : Indexed) (look : Look) (phrase : Phrase) (spans : List Span) : Type 0 where
  pub places : (corpus : Corpus) → IsValid corpus → StandsFor index corpus → (row part : ℕ) →
      matches_at (length phrase.texts) (row, part) spans ≡ of_phrase phrase (passage_looked corpus look row part)
  -- by rows: as many spans as places, and an edge where the literal is at one
  pub counted : (corpus : Corpus) → IsValid corpus → StandsFor index corpus → (row : ℕ) →
      length (spans_in row spans) ≡ sum_by (λ passage. length (places_of phrase passage)) (looked look corpus.schema (values_at corpus.items row))
  pub edges : (corpus : Corpus) → IsValid corpus → StandsFor index corpus → (row : ℕ) (starts ends : Bool) →
      list_any (is_at_edge index starts ends) (spans_in row spans) ≡ list_any (fits_edge phrase starts ends) (looked look corpus.schema (values_at corpus.items row))

-- at most the tokens that the literal asks for are read
abbrev pub IsWithinCount : Indexed → Look → Phrase → ℕ → ℕ → Type 0
IsWithinCount index look phrase before after = (corpus : Corpus) → IsValid corpus → StandsFor index corpus → after ≤ before + phrase_count corpus look phrase
