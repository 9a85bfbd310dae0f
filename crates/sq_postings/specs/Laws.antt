-- Laws of an index that stands for a corpus.
use Rattle.std.specs.Prelude.{◌≡◌, ◌≤◌, ◌<◌, ℕ, ◌+◌, ◌-◌, ◌*◌, Bool, false, ◌&&◌, eqb, List, length, map, filter, take, drop, sum_by, flat_map}
use Rattle.sq_base.specs.Limits.{most_values}
use Rattle.sq_coded.specs.declared.posting.Posting.{Posting}
use Rattle.sq_model.specs.declared.corpus.Corpus.{Corpus}
use Rattle.sq_model.specs.Cost.{posting_count}
use Rattle.sq_cursor.specs.declared.span.Span.{Span}
use Rattle.sq_postings.specs.Indexed.{Indexed, TermList, AreListsOf, list_at, spans_of_list}
use Rattle.sq_postings.specs.Occurrences.{postings_of, places_from, passage_at}

-- the lists from start to before end
abbrev pub lists_between : Indexed → ℕ → ℕ → List TermList
lists_between index start end = take (end - start) (drop start index.lists)

abbrev pub list_length : TermList → ℕ
list_length list = length list.postings

abbrev pub list_postings : TermList → List Posting
list_postings list = list.postings

-- The lists that fit a token have no more postings together than tokens of the corpus fit it.
abbrev pub ListsAreWithinCount : Indexed → Corpus → Type 0
ListsAreWithinCount index corpus = (property : ℕ) (wanted : List ℕ) (prefixed : Bool) (start end : ℕ) → AreListsOf index property wanted prefixed start end →
    sum_by list_length (lists_between index start end) ≤ posting_count corpus.items property wanted prefixed

-- The lists of a token of a property, one or none, have its places.
abbrev pub ListsHavePostings : Indexed → Corpus → Type 0
ListsHavePostings index corpus = (property : ℕ) (token : List ℕ) (start end : ℕ) → AreListsOf index property token false start end →
    flat_map list_postings (lists_between index start end) ≡ postings_of corpus.items property token

-- the place of a token in the passage of a row and a part, as a span
abbrev pub span_at : ℕ → ℕ → ℕ → Span
span_at row part place = record { row = row; part = part; first = place; last = place }

abbrev pub is_in_passage : ℕ → ℕ → Span → Bool
is_in_passage row part span = eqb span.row row && eqb span.part part

-- The spans of a list in each passage of its property are the places of its token there.
abbrev pub ListsHavePlaces : Indexed → Corpus → Type 0
ListsHavePlaces index corpus = (list row ordinal : ℕ) → list < length index.lists → ordinal < most_values →
    filter (is_in_passage row ((list_at index list).property * most_values + ordinal)) (spans_of_list (list_at index list))
    ≡ map (span_at row ((list_at index list).property * most_values + ordinal))
    (places_from 0 (list_at index list).token (passage_at corpus.items row ((list_at index list).property * most_values + ordinal)))
