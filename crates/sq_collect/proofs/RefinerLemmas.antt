-- What a refiner knows of its rows, as a row comes and at the end.
use Rattle.std.proofs.Common.{◌≡◌, ℕ, ◌+◌, ◌^◌, ◌==◌, ◌≤◌, ◌<◌, ℤ, Bool, true, false, List, [], ◌∷◌, ◌++◌, length, map, get_or, drop, drop-cons, add-one, append_assoc, Option, Some, None, replicate, refl, sym, ◌∙◌, ap, subst, arith}
use Rattle.std.proofs.lemmas.Int.{ints}
use Rattle.std.proofs.lemmas.List.{get_or-replicate}
use Rattle.std.specs.List.{list_any, list_all}
use Rattle.std.specs.Prelude.{slice_index_or}
use Rattle.sq_model.specs.Valid as model
use Rattle.sq_packet.specs.Refiners.{are_rising}
use Rattle.sq_response.specs.declared.response.Entry.{Entry}
use Rattle.sq_response.specs.declared.response.Entry.TheVariants.{Bucket}
use Rattle.sq_postings.specs.Indexed.{Indexed, values_in}
use Rattle.sq_postings.specs.Left.{pairs_from}
use Rattle.sq_ranking.specs.Ranking.{has, values, buckets, entries}
use Rattle.sq_collect.specs.declared.refiner.Refiner.{Refiner}
use Rattle.sq_collect.specs.Counted.{number_of, numbers_at, numbers_in_row, marks_of, is_placed, count_at, once, count_in, single_of, counted_singles, counted_buckets}
use Rattle.sq_collect.specs.Refined.{IsRefinerOf}
use Rattle.sq_collect.proofs.PageLemmas.{few_rows}
use Rattle.sq_collect.proofs.CountLemmas.{count_more, count_within, last_below, from_twice, numbers_from_row}
use Rattle.sq_collect.proofs.PlaceLemmas.{values_rise}
use Rattle.sq_collect.proofs.EntryLemmas.{CountsFrom, buckets_counted, singles_counted}

-- ---- a row comes

pub taken : (index : Indexed) (property : ℕ) (bounds : List ℤ) (old new : Refiner) (seeked : List (ℕ × ℤ)) (marks : List ℤ) (counts raised : List ℕ) (rows : List ℕ) (row : ℕ) → IsRefinerOf index property bounds old rows → model.are_rising (rows ++ row ∷ []) ≡ true → row < 2 ^ 32
    → new.bare ≡ old.bare → new.marks.items ≡ old.marks.items → seeked ≡ pairs_from row old.cursor → marks ≡ old.marks.items → counts ≡ old.counts.items → new.counts.items ≡ raised
    → ((place : ℕ) → place ≤ length marks → slice_index_or counts place 0 < 2 ^ 32 → slice_index_or raised place 0 ≡ slice_index_or counts place 0 + once (list_any (is_placed marks place) (numbers_at row seeked)))
    → ((later : ℕ) → row < later → pairs_from later new.cursor ≡ pairs_from later seeked)
    → IsRefinerOf index property bounds new (rows ++ row ∷ [])
taken index property bounds old new seeked marks counts raised rows row is up few bare same_marks seek marks_are counts_are raised_are counted later =
    let column = values_in index property in
    let here : seeked ≡ pairs_from row column = seek ∙ is.later row up in
    let own : numbers_at row seeked ≡ numbers_in_row index property row = ap (numbers_at row) here ∙ numbers_from_row row column in
    record {
      bare = bare ∙ is.bare;
      marked = same_marks ∙ is.marked;
      counted = λ place within.
          let inside : place ≤ length old.marks.items = subst (λ ms. place ≤ length ms) same_marks within in
          let before : slice_index_or counts place 0 ≡ count_at old.marks.items (map (numbers_in_row index property) rows) place = ap (λ cs. slice_index_or cs place 0) counts_are ∙ is.counted place inside in
          let most = count_within old.marks.items (numbers_in_row index property) rows place in
          let below = few_rows rows row up in
          ap (λ cs. slice_index_or cs place 0) raised_are
          ∙ counted place (subst (λ ms. place ≤ length ms) (sym marks_are) inside) (omega (arith, before, most, below, few))
          ∙ ap (λ n. n + once (list_any (is_placed marks place) (numbers_at row seeked))) before
          ∙ ap (λ ns. count_at old.marks.items (map (numbers_in_row index property) rows) place + once (list_any (is_placed marks place) ns)) own
          ∙ ap (λ ms. count_at old.marks.items (map (numbers_in_row index property) rows) place + once (list_any (is_placed ms place) (numbers_in_row index property row))) marks_are
          ∙ sym (count_more old.marks.items (numbers_in_row index property) rows row place)
          ∙ ap (λ ms. count_at ms (map (numbers_in_row index property) (rows ++ row ∷ [])) place) (sym same_marks);
      later = λ next further.
          let less = last_below rows row next further in
          later next less ∙ ap (pairs_from next) here ∙ from_twice row next column (omega (arith, less));
    }

-- ---- marks

pub marks_rise : (bounds numbers : List ℤ) → are_rising bounds ≡ true → are_rising (marks_of bounds numbers) ≡ true
marks_rise [] numbers up = values_rise numbers
marks_rise (bound ∷ bounds) numbers up = up

pub marks_bare : (bounds numbers : List ℤ) → length bounds ≡ 0 → values numbers ≡ marks_of bounds numbers
marks_bare [] numbers none = refl
marks_bare (bound ∷ bounds) numbers none = absurd (omega (arith, none))

pub no_rows : (index : Indexed) (property : ℕ) (bounds : List ℤ) (refiner : Refiner) (count : ℕ) → refiner.bare ≡ (length bounds == 0) → refiner.marks.items ≡ marks_of bounds (map number_of (values_in index property)) → count ≡ length refiner.marks.items + 1 → refiner.counts.items ≡ replicate count 0 → refiner.cursor ≡ values_in index property → IsRefinerOf index property bounds refiner []
no_rows index property bounds refiner count bare marks many zeros cursor = record {
  bare = bare;
  marked = marks;
  counted = λ place within. ap (λ cs. get_or cs place 0) zeros ∙ get_or-replicate count place 0 0 (omega (arith, within, many));
  later = λ row up. ap (pairs_from row) cursor;
}

-- ---- the entries

pub singles_step : (count : ℕ → ℕ) (found all : List Entry) (marks : List ℤ) (i : ℕ) (d : ℤ) → i < length marks → found ++ counted_singles count i (drop i marks) ≡ all → (found ++ single_of (get_or marks i d) (count (i + 1))) ++ counted_singles count (i + 1) (drop (i + 1) marks) ≡ all
singles_step count found all marks i d within sofar =
    let split : drop i marks ≡ get_or marks i d ∷ drop (i + 1) marks = rw (add-one, drop-cons marks i d) in
    append_assoc found (single_of (get_or marks i d) (count (i + 1))) (counted_singles count (i + 1) (drop (i + 1) marks))
    ∙ ap (λ rest. found ++ counted_singles count i rest) (sym split)
    ∙ sofar

pub buckets_step : (count : ℕ → ℕ) (found all : List Entry) (from : Option ℤ) (marks : List ℤ) (i : ℕ) (d : ℤ) → i < length marks → found ++ counted_buckets count i from (drop i marks) ≡ all → (found ++ Bucket from (Some (get_or marks i d)) (count i) ∷ []) ++ counted_buckets count (i + 1) (Some (get_or marks i d)) (drop (i + 1) marks) ≡ all
buckets_step count found all from marks i d within sofar =
    let split : drop i marks ≡ get_or marks i d ∷ drop (i + 1) marks = rw (add-one, drop-cons marks i d) in
    append_assoc found (Bucket from (Some (get_or marks i d)) (count i) ∷ []) (counted_buckets count (i + 1) (Some (get_or marks i d)) (drop (i + 1) marks))
    ∙ ap (λ rest. found ++ counted_buckets count i from rest) (sym split)
    ∙ sofar

all_own : (row : ℕ) (pairs : List (ℕ × ℤ)) (p : ℤ → Bool) → list_all p (map number_of pairs) ≡ true → list_all p (numbers_at row pairs) ≡ true
all_own row [] p all = refl
all_own row (pair ∷ pairs) p all = let behind = all_own row pairs p (grind (arith, all)) in grind (arith, all, behind)

all_among : (xs ys : List ℤ) → ((n : ℤ) → has n xs ≡ true → has n ys ≡ true) → list_all (λ n. has n ys) xs ≡ true
all_among [] ys within = refl
all_among (x ∷ xs) ys within =
    let self : has x (x ∷ xs) ≡ true = first x xs in
    let here = within x self in
    let behind = all_among xs ys (λ n there. within n (further n x xs there)) in
    grind (arith, here, behind)
  where
    first : (x : ℤ) (xs : List ℤ) → has x (x ∷ xs) ≡ true
    first x xs = grind (arith, ints)

    further : (n x : ℤ) (xs : List ℤ) → has n xs ≡ true → has n (x ∷ xs) ≡ true
    further n x xs there = grind (arith, there)

all_known : (pairs : List (ℕ × ℤ)) (rows : List ℕ) → list_all (list_all (λ n. has n (map number_of pairs))) (map (λ row. numbers_at row pairs) rows) ≡ true
all_known pairs [] = refl
all_known pairs (row ∷ rows) =
    let here = all_own row pairs (λ n. has n (map number_of pairs)) (all_among (map number_of pairs) (map number_of pairs) (λ n there. there)) in
    let behind = all_known pairs rows in
    grind (arith, here, behind)

counts_all : (counts : List ℕ) (marks : List ℤ) (hits : List (List ℤ)) → ((place : ℕ) → place ≤ length marks → slice_index_or counts place 0 ≡ count_at marks hits place) → CountsFrom (count_in counts) 0 None marks hits
counts_all counts marks hits are place within = ap (count_in counts) (omega arith) ∙ are place within

pub singles_are : (index : Indexed) (property : ℕ) (bounds : List ℤ) (refiner : Refiner) (rows : List ℕ) → IsRefinerOf index property bounds refiner rows → refiner.bare ≡ true → counted_singles (count_in refiner.counts.items) 0 refiner.marks.items ≡ entries bounds (map (numbers_in_row index property) rows)
singles_are index property [] refiner rows is bare =
    let column = values_in index property in
    let numbers = map number_of column in
    let hits = map (numbers_in_row index property) rows in
    let counts = subst (λ ms. CountsFrom (count_in refiner.counts.items) 0 None ms hits) is.marked (counts_all refiner.counts.items refiner.marks.items hits is.counted) in
    ap (counted_singles (count_in refiner.counts.items) 0) is.marked
    ∙ singles_counted (count_in refiner.counts.items) numbers hits (all_known column rows) counts
singles_are index property (bound ∷ bounds) refiner rows is bare = absurd (let other = is.bare in grind (arith, bare, other))

pub buckets_are : (index : Indexed) (property : ℕ) (bounds : List ℤ) (refiner : Refiner) (rows : List ℕ) → IsRefinerOf index property bounds refiner rows → refiner.bare ≡ false → are_rising refiner.marks.items ≡ true → counted_buckets (count_in refiner.counts.items) 0 None refiner.marks.items ≡ entries bounds (map (numbers_in_row index property) rows)
buckets_are index property [] refiner rows is bare up = absurd (let other = is.bare in grind (arith, bare, other))
buckets_are index property (bound ∷ bounds) refiner rows is bare up =
    let hits = map (numbers_in_row index property) rows in
    buckets_counted (count_in refiner.counts.items) 0 None refiner.marks.items hits up (counts_all refiner.counts.items refiner.marks.items hits is.counted)
    ∙ ap (buckets hits None) is.marked
