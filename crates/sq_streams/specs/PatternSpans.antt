-- What the streams of a literal are made of, by the index alone, and what they may read.
use Rattle.std.specs.Prelude.{ℕ, ◌+◌, ◌≤◌, Bool, true, ◌&&◌, if◌then◌else◌, List, [], ◌∷◌, length, map, filter, flat_map, sum_by, slice_get}
use Rattle.sq_tokens.specs.Pattern.{Phrase}
use Rattle.sq_cursor.specs.declared.span.Span.{Span}
use Rattle.sq_model.specs.Cost.{posting_count}
use Rattle.sq_model.specs.Lists.{is_empty}
use Rattle.sq_model.specs.Looked.{looked_rows}
use Rattle.sq_model.specs.declared.corpus.Corpus.{Corpus}
use Rattle.sq_model.specs.declared.fql.Look.{Look}
use Rattle.sq_model.specs.declared.fql.Look.TheVariants.{Searchable, One}
use Rattle.sq_near.specs.Covers.{joined_spans, merged_spans}
use Rattle.sq_postings.specs.declared.parts.Shape.{Shape}
use Rattle.sq_postings.specs.Indexed.{Indexed, TermList, is_list_of, is_searchable_in, spans_of_list}
use Rattle.sq_postings.specs.StandsFor.{StandsFor}

-- ---- the spans

-- the numbers of the searchable properties among these, of which the first has this number
abbrev pub searched_from : ℕ → List Shape → List ℕ
searched_from at [] = []
searched_from at (shape ∷ shapes) = if shape.searchable then at ∷ searched_from (at + 1) shapes else searched_from (at + 1) shapes

-- the property where it is searchable
abbrev pub searched_at : Indexed → ℕ → List ℕ
searched_at index property = if is_searchable_in (slice_get index.shapes property) then property ∷ [] else []

abbrev pub properties_looked : Look → Indexed → List ℕ
properties_looked (One property) index = property ∷ []
properties_looked Searchable index = searched_from 0 index.shapes

-- the lists of a property whose token is asked for
abbrev pub lists_of : Indexed → List ℕ → Bool → ℕ → List TermList
lists_of index wanted prefixed property = filter (is_list_of property wanted prefixed) index.lists

abbrev pub lists_looked : Indexed → Look → List ℕ → Bool → List TermList
lists_looked index look wanted prefixed = flat_map (lists_of index wanted prefixed) (properties_looked look index)

-- the places of one token
abbrev pub token_spans : Indexed → Look → List ℕ → Bool → List Span
token_spans index look wanted prefixed = merged_spans (map spans_of_list (lists_looked index look wanted prefixed))

-- those of each text, of which the last may be only the beginning of a token
abbrev pub texts_spans : Indexed → Look → Bool → List (List ℕ) → List (List Span)
texts_spans index look prefixed [] = []
texts_spans index look prefixed (text ∷ more) = token_spans index look text (prefixed && is_empty more) ∷ texts_spans index look prefixed more

-- one list as it is; of several the spans that stand in a row, as many tokens as lists
abbrev pub in_a_row : List (List Span) → List Span
in_a_row [] = joined_spans 0 true []
in_a_row (spans ∷ []) = spans
in_a_row (spans ∷ next ∷ lists) = joined_spans (length (spans ∷ next ∷ lists)) true (spans ∷ next ∷ lists)

abbrev pub phrase_spans : Indexed → Look → Phrase → List Span
phrase_spans index look phrase = in_a_row (texts_spans index look phrase.prefixed phrase.texts)

-- ---- the price

-- from before to after lie at most so many steps, for each corpus that the index stands for
abbrev pub IsWithin : Indexed → (Corpus → ℕ) → ℕ → ℕ → Type 0
IsWithin index count before after = (corpus : Corpus) → StandsFor index corpus → after ≤ before + count corpus

abbrev pub property_count : List ℕ → Bool → ℕ → Corpus → ℕ
property_count wanted prefixed property corpus = posting_count corpus.items property wanted prefixed

-- the tokens asked for of these properties
abbrev pub properties_count : List ℕ → Bool → List ℕ → Corpus → ℕ
properties_count wanted prefixed properties corpus = sum_by (λ property. property_count wanted prefixed property corpus) properties

abbrev pub token_count : Look → List ℕ → Bool → Corpus → ℕ
token_count look wanted prefixed corpus = properties_count wanted prefixed (looked_rows look corpus.schema) corpus

abbrev pub texts_count : Look → Bool → List (List ℕ) → Corpus → ℕ
texts_count look prefixed [] corpus = 0
texts_count look prefixed (text ∷ more) corpus = token_count look text (prefixed && is_empty more) corpus + texts_count look prefixed more corpus
