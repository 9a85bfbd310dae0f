-- What a stream of a literal leaves, and what it may read.
use Rattle.std.proofs.Common.{◌≡◌, ℕ, ◌+◌, ◌<◌, Bool, ◌&&◌, List, [], ◌∷◌, length, refl, sym, subst, arith}
use Rattle.std.specs.Prelude.{sum_by}
use Rattle.std.proofs.lemmas.List.Sums.{sum_by-cons}
use Rattle.sq_tokens.specs.Pattern.{Phrase}
use Rattle.sq_cursor.specs.declared.span.Span.{Span}
use Rattle.sq_model.specs.Cost.{posting_count, pattern_count}
use Rattle.sq_model.specs.Lists.{is_empty}
use Rattle.sq_model.specs.Looked.{looked_rows}
use Rattle.sq_model.specs.declared.corpus.Item.{Item}
use Rattle.sq_model.specs.declared.corpus.Corpus.{Corpus}
use Rattle.sq_model.specs.declared.fql.Look.{Look}
use Rattle.sq_near.specs.Laws.{JoinedAreLeast}
use Rattle.sq_postings.specs.Indexed.{Indexed}
use Rattle.sq_postings.specs.Laws.{ListsHavePlaces}
use Rattle.sq_postings.specs.StandsFor.{StandsFor}
use Rattle.sq_streams.specs.Pattern.{ArePlaces, IsWithinCount}
use Rattle.sq_streams.specs.PatternSpans.{phrase_spans, texts_count, IsWithin}
use Rattle.sq_streams.proofs.PatternPlaces.{places_are}
use Rattle.sq_streams.proofs.PatternRows.{counted, edges}

pub are_places : (index : Indexed) → ((corpus : Corpus) → StandsFor index corpus → ListsHavePlaces index corpus) → JoinedAreLeast → (look : Look) (phrase : Phrase) → 0 < length phrase.texts → (spans : List Span) →
    spans ≡ phrase_spans index look phrase → ArePlaces index look phrase spans
are_places index have least look phrase some spans e = subst (ArePlaces index look phrase) (sym e) (record {
  places = λ corpus valid stands row part. places_are index corpus valid stands (have corpus stands) least look phrase row part some;
  counted = λ corpus valid stands row. counted index corpus valid stands (have corpus stands) least look phrase some row;
  edges = λ corpus valid stands row starts ends. edges index corpus valid stands (have corpus stands) least look phrase some row starts ends;
})

-- ---- the price

module _ (items : List Item) (prefixed : Bool) where
  no_text : (ps : List ℕ) → sum_by (λ property. pattern_count items property prefixed []) ps ≡ 0
  no_text [] = refl
  no_text (p ∷ ps) = omega (arith, sum_by-cons (λ property. pattern_count items property prefixed []) p ps, no_text ps)

  one_text : (text : List ℕ) (more : List (List ℕ)) (ps : List ℕ) →
      sum_by (λ property. pattern_count items property prefixed (text ∷ more)) ps
      ≡ sum_by (λ property. posting_count items property text (prefixed && is_empty more)) ps + sum_by (λ property. pattern_count items property prefixed more) ps
  one_text text more [] = refl
  one_text text more (p ∷ ps) =
      omega (
        arith,
        sum_by-cons (λ property. pattern_count items property prefixed (text ∷ more)) p ps,
        sum_by-cons (λ property. posting_count items property text (prefixed && is_empty more)) p ps,
        sum_by-cons (λ property. pattern_count items property prefixed more) p ps,
        one_text text more ps,
      )

same_count : (corpus : Corpus) (look : Look) (prefixed : Bool) (texts : List (List ℕ)) →
    texts_count look prefixed texts corpus ≡ sum_by (λ property. pattern_count corpus.items property prefixed texts) (looked_rows look corpus.schema)
same_count corpus look prefixed [] = sym (no_text corpus.items prefixed (looked_rows look corpus.schema))
same_count corpus look prefixed (text ∷ more) =
    let first : texts_count look prefixed (text ∷ more) corpus
    ≡ sum_by (λ property. posting_count corpus.items property text (prefixed && is_empty more)) (looked_rows look corpus.schema) + texts_count look prefixed more corpus = refl in
    omega (arith, first, same_count corpus look prefixed more, one_text corpus.items prefixed text more (looked_rows look corpus.schema))

pub within_count : (index : Indexed) (look : Look) (phrase : Phrase) (before after : ℕ) → IsWithin index (texts_count look phrase.prefixed phrase.texts) before after → IsWithinCount index look phrase before after
within_count index look phrase before after h = λ corpus valid stands. omega (arith, h corpus stands, same_count corpus look phrase.prefixed phrase.texts)
