-- The spans of a list in one passage.
use Rattle.std.proofs.Common.{◌≡◌, ◌≢◌, inl, inr, ℕ, zero, suc, ◌+◌, ◌*◌, ◌/◌, ◌%◌, ◌<◌, Bool, true, false, ◌&&◌, cond, List, [], ◌∷◌, ◌++◌, map, filter, get_or, refl, sym, ap, ◌∙◌, subst, arith}
use Rattle.std.specs.Prelude.{eqb, ◌==◌}
use Rattle.std.proofs.lemmas.Bool.{cases_lt}
use Rattle.std.proofs.lemmas.Bool.Decides.{nat_tests}
use Rattle.std.proofs.lemmas.List.{append-nil}
use Rattle.std.proofs.lemmas.List.Elements.{filter-append}
use Rattle.sq_model.specs.Passages.{Passage, passages}
use Rattle.sq_model.specs.declared.corpus.Item.{Item}
use Rattle.sq_model.specs.declared.corpus.Corpus.{Corpus}
use Rattle.sq_coded.specs.declared.posting.Posting.{Posting}
use Rattle.sq_postings.specs.Indexed.{Indexed, list_at, span_of, spans_of}
use Rattle.sq_postings.specs.Laws.{span_at, is_in_passage, ListsHavePlaces}
use Rattle.sq_postings.specs.Occurrences.{places_from, posting, passage_postings, postings_from, values_of, values_at, passage_at}
use Rattle.sq_postings.specs.StandsFor.{StandsFor}

-- the posting is in the passage of a row and an ordinal
abbrev is_at : ℕ → ℕ → Posting → Bool
is_at row ordinal e = (e.row == row) && (e.ordinal == ordinal)

-- ---- the postings of one passage

all_at : (row ordinal : ℕ) (places : List ℕ) → filter (is_at row ordinal) (map (posting row ordinal) places) ≡ map (posting row ordinal) places
all_at row ordinal [] = refl
all_at row ordinal (place ∷ places) =
    let here : (row == row) ≡ true = grind (arith, nat_tests) in
    let there : (ordinal == ordinal) ≡ true = grind (arith, nat_tests) in
    rw (here, there) (ap (λ es. posting row ordinal place ∷ es) (all_at row ordinal places))

none_at : (row ordinal r o : ℕ) → (r == row) && (o == ordinal) ≡ false → (places : List ℕ) → filter (is_at row ordinal) (map (posting r o) places) ≡ []
none_at row ordinal r o differs [] = refl
none_at row ordinal r o differs (place ∷ places) = rw differs (none_at row ordinal r o differs places)

other_row : (row ordinal r o : ℕ) → r ≢ row → (r == row) && (o == ordinal) ≡ false
other_row row ordinal r o n = grind (arith, nat_tests)

other_ordinal : (row ordinal r o : ℕ) → o ≢ ordinal → (r == row) && (o == ordinal) ≡ false
other_ordinal row ordinal r o n = grind (arith, nat_tests)

-- ---- those of the passages of an item

module _ (row ordinal : ℕ) (token : List ℕ) where
  in_front : (r o : ℕ) (passage : Passage) (more : List Passage) (first rest : List Posting)
      → filter (is_at row ordinal) (map (posting r o) (places_from 0 token passage)) ≡ first → filter (is_at row ordinal) (passage_postings r (o + 1) token more) ≡ rest
      → filter (is_at row ordinal) (passage_postings r o token (passage ∷ more)) ≡ first ++ rest
  in_front r o passage more first rest e f =
      filter-append (is_at row ordinal) (map (posting r o) (places_from 0 token passage)) (passage_postings r (o + 1) token more)
      ∙ ap (λ es. es ++ filter (is_at row ordinal) (passage_postings r (o + 1) token more)) e ∙ ap (λ es. first ++ es) f

  none_of_item : (r o : ℕ) (list : List Passage) → r ≢ row → filter (is_at row ordinal) (passage_postings r o token list) ≡ []
  none_of_item r o [] n = refl
  none_of_item r o (passage ∷ list) n =
      in_front r o passage list [] [] (none_at row ordinal r o (other_row row ordinal r o n) (places_from 0 token passage)) (none_of_item r (o + 1) list n)

  none_past : (r o : ℕ) (list : List Passage) → ordinal < o → filter (is_at row ordinal) (passage_postings r o token list) ≡ []
  none_past r o [] l = refl
  none_past r o (passage ∷ list) l =
      in_front r o passage list [] [] (none_at row ordinal r o (other_ordinal row ordinal r o (omega (arith, l))) (places_from 0 token passage)) (none_past r (o + 1) list (omega (arith, l)))

  of_item : (o k : ℕ) (list : List Passage) → ordinal ≡ o + k → filter (is_at row ordinal) (passage_postings row o token list) ≡ map (posting row ordinal) (places_from 0 token (get_or list k []))
  of_item o k [] e = refl
  of_item o zero (passage ∷ list) e =
      let same : o ≡ ordinal = omega (arith, e) in
      in_front row o passage list (map (posting row ordinal) (places_from 0 token passage)) []
      (subst (λ n. filter (is_at row ordinal) (map (posting row n) (places_from 0 token passage)) ≡ map (posting row ordinal) (places_from 0 token passage)) (sym same) (all_at row ordinal (places_from 0 token passage)))
      (none_past row (o + 1) list (omega (arith, e)))
      ∙ append-nil (map (posting row ordinal) (places_from 0 token passage))
  of_item o (suc k) (passage ∷ list) e =
      in_front row o passage list [] (map (posting row ordinal) (places_from 0 token (get_or list k [])))
      (none_at row ordinal row o (other_ordinal row ordinal row o (omega (arith, e))) (places_from 0 token passage)) (of_item (o + 1) k list (omega (arith, e)))

  -- ---- those of all items

  in_items : (property r : ℕ) (item : Item) (items : List Item) (first rest : List Posting)
      → filter (is_at row ordinal) (passage_postings r 0 token (passages item.values property)) ≡ first → filter (is_at row ordinal) (postings_from (r + 1) property token items) ≡ rest
      → filter (is_at row ordinal) (postings_from r property token (item ∷ items)) ≡ first ++ rest
  in_items property r item items first rest e f =
      filter-append (is_at row ordinal) (passage_postings r 0 token (passages item.values property)) (postings_from (r + 1) property token items)
      ∙ ap (λ es. es ++ filter (is_at row ordinal) (postings_from (r + 1) property token items)) e ∙ ap (λ es. first ++ es) f

  none_later : (property r : ℕ) (items : List Item) → row < r → filter (is_at row ordinal) (postings_from r property token items) ≡ []
  none_later property r [] l = refl
  none_later property r (item ∷ items) l =
      in_items property r item items [] [] (none_of_item r 0 (passages item.values property) (omega (arith, l))) (none_later property (r + 1) items (omega (arith, l)))

  of_items : (property r k : ℕ) (items : List Item) → row ≡ r + k
      → filter (is_at row ordinal) (postings_from r property token items) ≡ map (posting row ordinal) (places_from 0 token (get_or (passages (get_or (map values_of items) k []) property) ordinal []))
  of_items property r k [] e = refl
  of_items property r zero (item ∷ items) e =
      let same : r ≡ row = omega (arith, e) in
      let places = map (posting row ordinal) (places_from 0 token (get_or (passages item.values property) ordinal [])) in
      in_items property r item items places []
      (subst (λ n. filter (is_at row ordinal) (passage_postings n 0 token (passages item.values property)) ≡ places) (sym same) (of_item 0 ordinal (passages item.values property) (omega arith)))
      (none_later property (r + 1) items (omega (arith, e)))
      ∙ append-nil places
  of_items property r (suc k) (item ∷ items) e =
      in_items property r item items [] (map (posting row ordinal) (places_from 0 token (get_or (passages (get_or (map values_of items) k []) property) ordinal [])))
      (none_of_item r 0 (passages item.values property) (omega (arith, e))) (of_items property (r + 1) k items (omega (arith, e)))

-- ---- as spans

same_test : (property row ordinal : ℕ) (e : Posting) → is_in_passage row (property * 1_000 + ordinal) (span_of property e) ≡ is_at row ordinal e
same_test property row ordinal e = by (is_at row ordinal e) refl
  where
    by : (b : Bool) → is_at row ordinal e ≡ b → eqb e.row row && eqb (property * 1_000 + e.ordinal) (property * 1_000 + ordinal) ≡ b
    by true h =
        let r : eqb e.row row ≡ true = grind (arith, nat_tests) in
        let o : e.ordinal ≡ ordinal = grind (arith, nat_tests) in
        let p : eqb (property * 1_000 + e.ordinal) (property * 1_000 + ordinal) ≡ true = grind (arith, nat_tests) in
        rw (r, p) refl
    by false h = elim (cases_lt e.row row) [
      | inl less ↦ (let r : eqb e.row row ≡ false = grind (arith, nat_tests) in rw r refl)
      | inr more ↦ elim (cases_lt row e.row) [
        | inl less ↦ (let r : eqb e.row row ≡ false = grind (arith, nat_tests) in rw r refl)
        | inr same ↦ (
            let r : eqb e.row row ≡ true = grind (arith, nat_tests) in
            let o : e.ordinal ≢ ordinal = grind (arith, nat_tests) in
            let d : property * 1_000 + e.ordinal ≢ property * 1_000 + ordinal = λ q. o (omega (arith, q)) in
            let p : eqb (property * 1_000 + e.ordinal) (property * 1_000 + ordinal) ≡ false = grind (arith, nat_tests) in
            rw (r, p) refl
            )
      ]
    ]

filtered_spans : (property row ordinal : ℕ) (entries : List Posting) → filter (is_in_passage row (property * 1_000 + ordinal)) (spans_of property entries) ≡ spans_of property (filter (is_at row ordinal) entries)
filtered_spans property row ordinal [] = refl
filtered_spans property row ordinal (e ∷ entries) = by (is_at row ordinal e) (same_test property row ordinal e) (filtered_spans property row ordinal entries)
  where
    by : (b : Bool) → is_in_passage row (property * 1_000 + ordinal) (span_of property e) ≡ b → filter (is_in_passage row (property * 1_000 + ordinal)) (spans_of property entries) ≡ spans_of property (filter (is_at row ordinal) entries)
        → filter (is_in_passage row (property * 1_000 + ordinal)) (spans_of property (e ∷ entries)) ≡ spans_of property (cond b (e ∷ filter (is_at row ordinal) entries) (filter (is_at row ordinal) entries))
    by true h more = rw h (ap (λ spans. span_of property e ∷ spans) more)
    by false h more = rw h more

placed_spans : (property row ordinal : ℕ) (places : List ℕ) → spans_of property (map (posting row ordinal) places) ≡ map (span_at row (property * 1_000 + ordinal)) places
placed_spans property row ordinal [] = refl
placed_spans property row ordinal (place ∷ places) = ap (λ spans. span_at row (property * 1_000 + ordinal) place ∷ spans) (placed_spans property row ordinal places)

pub have_places : (index : Indexed) (corpus : Corpus) → StandsFor index corpus → ListsHavePlaces index corpus
have_places index corpus stands list row ordinal below few =
    let property = (list_at index list).property in
    let token = (list_at index list).token in
    let items = corpus.items in
    let part = property * 1_000 + ordinal in
    let of : part / 1_000 ≡ property = omega (arith, few) in
    let at : part % 1_000 ≡ ordinal = omega (arith, few) in
    let there : passage_at items row part ≡ get_or (passages (values_at items row) property) ordinal [] = ap (λ p. get_or (passages (values_at items row) p) (part % 1_000) []) of ∙ ap (λ k. get_or (passages (values_at items row) property) k []) at in
    filtered_spans property row ordinal (list_at index list).postings
    ∙ ap (λ es. spans_of property (filter (is_at row ordinal) es)) (stands.lists list below)
    ∙ ap (spans_of property) (of_items row ordinal token property 0 row items (omega arith))
    ∙ placed_spans property row ordinal (places_from 0 token (get_or (passages (values_at items row) property) ordinal []))
    ∙ ap (λ passage. map (span_at row part) (places_from 0 token passage)) (sym there)
