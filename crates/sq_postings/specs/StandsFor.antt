-- When an index stands for a corpus.
use Rattle.std.specs.Prelude.{◌≡◌, ◌≢◌, ℕ, ◌<◌, List, [], map, length}
use Rattle.sq_schema.specs.declared.property.Property.{Property}
use Rattle.sq_model.specs.Access.{allows, denies}
use Rattle.sq_model.specs.declared.corpus.Item.{Item}
use Rattle.sq_model.specs.declared.corpus.Corpus.{Corpus}
use Rattle.sq_postings.specs.declared.parts.Row.{Row}
use Rattle.sq_postings.specs.declared.parts.Shape.{Shape}
use Rattle.sq_postings.specs.Indexed.{Indexed, list_at, values_in, rows_with, length_of}
use Rattle.sq_postings.specs.Occurrences.{postings_of, numbers_from, rows_from, passage_at}

abbrev pub shape_of : Property → Shape
shape_of property = record { kind = property.kind; searchable = property.searchable }

abbrev pub row_of : Item → Row
row_of item = record { number = item.number; rank = item.rank }

-- The list of each token has its places, and each token that stands somewhere has a list. The numbers, the
-- rows of claims and the lengths of passages are those of the corpus.
pub record StandsFor (index : Indexed) (corpus : Corpus) : Type 0 where
  pub shapes : index.shapes ≡ map shape_of corpus.schema
  pub rows : index.rows ≡ map row_of corpus.items
  pub lists : (list : ℕ) → list < length index.lists →
      (list_at index list).postings ≡ postings_of corpus.items (list_at index list).property (list_at index list).token
  pub whole : (property : ℕ) (token : List ℕ) → postings_of corpus.items property token ≢ [] →
      (list : ℕ) × (list < length index.lists) × ((list_at index list).property ≡ property) × ((list_at index list).token ≡ token)
  pub values : (property : ℕ) → property < length corpus.schema → values_in index property ≡ numbers_from 0 property corpus.items
  pub allow : (claim : List ℕ) → rows_with claim index.allow ≡ rows_from 0 (allows claim) corpus.items
  pub deny : (claim : List ℕ) → rows_with claim index.deny ≡ rows_from 0 (denies claim) corpus.items
  pub lengths : (row part : ℕ) → length_of index row part ≡ length (passage_at corpus.items row part)
