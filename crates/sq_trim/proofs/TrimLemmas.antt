-- The rows of the items that claims admit, by their flags.
use Rattle.std.proofs.Common.{◌≡◌, ℕ, zero, suc, ◌+◌, ◌-◌, ◌<◌, ◌≤◌, Bool, true, false, not, ◌&&◌, ◌||◌, cond, List, [], ◌∷◌, length, map, filter, drop, replicate, refl, sym, ap, ◌∙◌, subst, arith}
use Rattle.std.specs.Prelude.{nat_le, nat_lt, sum_by, slice_set, Option, Some, None}
use Rattle.std.specs.List.{list_any}
use Rattle.std.proofs.lemmas.Bool.Decides.{nat_tests}
use native.Mathlib.Numerals.{unary_clauses}
use Rattle.std.proofs.lemmas.List.{drop-drop}
use Rattle.std.proofs.lemmas.List.Sums.{sum_by-cons}
use Rattle.sq_cursor.specs.Rows.{rows_from as rows_not_below, without_first}
use Rattle.sq_model.specs.Access.{names_one, admits, allows, denies}
use Rattle.sq_model.specs.Cost.{claim_cost}
use Rattle.sq_model.specs.declared.corpus.Item.{Item}
use Rattle.sq_model.specs.declared.corpus.Corpus.{Corpus}
use Rattle.sq_postings.specs.declared.parts.Row.{Row}
use Rattle.sq_postings.specs.Indexed.{Indexed}
use Rattle.sq_postings.specs.Occurrences.{rows_from}
use Rattle.sq_postings.specs.StandsFor.{StandsFor, row_of}
use Rattle.sq_trim.specs.Flags.{flagged, left_of, marked, marked_all}
use Rattle.sq_trim.specs.Trimmed.{claim_rows, claim_entries, flags_by, AreAdmitted}

-- ---- moves

-- none of the rows from a row on is below it
all_not_below : (low row : ℕ) (flags : List Bool) → low ≤ row → rows_not_below low (flagged row flags) ≡ flagged row flags
all_not_below low row [] l = refl
all_not_below low row (flag ∷ flags) l = at flag (all_not_below low (row + 1) flags (omega (arith, l)))
  where
    yes : nat_le low row ≡ true
    yes = grind (arith, nat_tests, l)

    at : (b : Bool) → rows_not_below low (flagged (row + 1) flags) ≡ flagged (row + 1) flags
        → rows_not_below low (cond b (row ∷ flagged (row + 1) flags) (flagged (row + 1) flags)) ≡ cond b (row ∷ flagged (row + 1) flags) (flagged (row + 1) flags)
    at true h = rw yes (ap (λ rows. row ∷ rows) h)
    at false h = h

-- the rows that are not below one some places on
dropped : (k row : ℕ) (flags : List Bool) → rows_not_below (row + k) (flagged row flags) ≡ flagged (row + k) (drop k flags)
dropped zero row flags = let e : row + 0 ≡ row = omega arith in rw e (all_not_below row row flags (omega arith))
dropped (suc k) row [] = refl
dropped (suc k) row (flag ∷ flags) =
    let e : row + suc k ≡ (row + 1) + k = omega arith in
    rw e (at flag (dropped k (row + 1) flags))
  where
    no : nat_le ((row + 1) + k) row ≡ false
    no = grind (arith, nat_tests)

    at : (b : Bool) → rows_not_below ((row + 1) + k) (flagged (row + 1) flags) ≡ flagged ((row + 1) + k) (drop k flags)
        → rows_not_below ((row + 1) + k) (cond b (row ∷ flagged (row + 1) flags) (flagged (row + 1) flags)) ≡ flagged ((row + 1) + k) (drop k flags)
    at true h = rw no h
    at false h = h

-- a row is flagged, and it is the first that is left
pub sought : (row here : ℕ) (flags : List Bool) → here < row → rows_not_below row (left_of (Some here) flags) ≡ flagged row (drop row flags)
sought row here flags l =
    let no : nat_le row here ≡ false = grind (arith, nat_tests, l) in
    let e : (here + 1) + (row - (here + 1)) ≡ row = omega (arith, l) in
    rw no
    (subst (λ n. rows_not_below n (flagged (here + 1) (drop (here + 1) flags)) ≡ flagged n (drop n flags)) e
    (dropped (row - (here + 1)) (here + 1) (drop (here + 1) flags) ∙ ap (flagged ((here + 1) + (row - (here + 1)))) (drop-drop (row - (here + 1)) (here + 1) flags)))

pub stays : (row here : ℕ) (flags : List Bool) → row ≤ here → rows_not_below row (left_of (Some here) flags) ≡ left_of (Some here) flags
stays row here flags l = let yes : nat_le row here ≡ true = grind (arith, nat_tests, l) in rw yes (ap (λ rows. here ∷ rows) (all_not_below row (here + 1) (drop (here + 1) flags) (omega (arith, l))))

-- ---- marks

set_behind : (flag b : Bool) (row : ℕ) (flags : List Bool) → slice_set (flag ∷ flags) (row + 1) b ≡ flag ∷ slice_set flags row b
set_behind flag b row flags = simp unary_clauses refl

-- marks behind the first flag leave it
behind_first : (flag b : Bool) (p : Item → Bool) (row : ℕ) (items : List Item) (flags : List Bool)
    → marked b (rows_from (row + 1) p items) (flag ∷ flags) ≡ flag ∷ marked b (rows_from row p items) flags
behind_first flag b p row [] flags = refl
behind_first flag b p row (item ∷ items) flags = at (p item) (behind_first flag b p (row + 1) items flags) (behind_first flag b p (row + 1) items (slice_set flags row b))
  where
    at : (t : Bool) → marked b (rows_from ((row + 1) + 1) p items) (flag ∷ flags) ≡ flag ∷ marked b (rows_from (row + 1) p items) flags
        → marked b (rows_from ((row + 1) + 1) p items) (flag ∷ slice_set flags row b) ≡ flag ∷ marked b (rows_from (row + 1) p items) (slice_set flags row b)
        → marked b (cond t ((row + 1) ∷ rows_from ((row + 1) + 1) p items) (rows_from ((row + 1) + 1) p items)) (flag ∷ flags) ≡ flag ∷ marked b (cond t (row ∷ rows_from (row + 1) p items) (rows_from (row + 1) p items)) flags
    at true plain set = subst (λ some. marked b (rows_from ((row + 1) + 1) p items) some ≡ flag ∷ marked b (rows_from (row + 1) p items) (slice_set flags row b)) (sym (set_behind flag b row flags)) set
    at false plain set = plain

-- the marks of the items that pass a test
marked_items : (b : Bool) (p g : Item → Bool) (items : List Item) → marked b (rows_from 0 p items) (map g items) ≡ map (λ item. cond (p item) b (g item)) items
marked_items b p g [] = refl
marked_items b p g (item ∷ items) = at (p item) (marked_items b p g items)
  where
    at : (t : Bool) → marked b (rows_from 0 p items) (map g items) ≡ map (λ i. cond (p i) b (g i)) items
        → marked b (cond t (0 ∷ rows_from 1 p items) (rows_from 1 p items)) (g item ∷ map g items) ≡ cond t b (g item) ∷ map (λ i. cond (p i) b (g i)) items
    at true h = behind_first b b p 0 items (map g items) ∙ ap (λ flags. b ∷ flags) h
    at false h = behind_first (g item) b p 0 items (map g items) ∙ ap (λ flags. g item ∷ flags) h

-- ---- what is admitted

same_map : {A B : Type 0} (f g : A → B) → ((x : A) → f x ≡ g x) → (xs : List A) → map f xs ≡ map g xs
same_map f g same [] = refl
same_map f g same (x ∷ xs) = λ i. same x i ∷ same_map f g same xs i

-- the marks of the items that pass one of the tests
marked_tests : {C : Type 0} (b : Bool) (test : C → Item → Bool) (items : List Item) (claims : List C) (g : Item → Bool)
    → marked_all b (map (λ claim. rows_from 0 (test claim) items) claims) (map g items) ≡ map (λ item. cond (list_any (λ claim. test claim item) claims) b (g item)) items
marked_tests b test items [] g = refl
marked_tests b test items (claim ∷ claims) g =
    ap (marked_all b (map (λ c. rows_from 0 (test c) items) claims)) (marked_items b (test claim) g items)
    ∙ (marked_tests b test items claims (λ item. cond (test claim item) b (g item))
    ∙ same_map (λ item. cond (list_any (λ c. test c item) claims) b (cond (test claim item) b (g item))) (λ item. cond (list_any (λ c. test c item) (claim ∷ claims)) b (g item))
    (λ item. either (test claim item) (list_any (λ c. test c item) claims) (g item)) items)
  where
    either : (s t u : Bool) → cond t b (cond s b u) ≡ cond (s || t) b u
    either true true u = refl
    either true false u = refl
    either false t u = refl

-- without marks no row is flagged
no_flags : (items : List Item) → replicate (length (map row_of items)) false ≡ map (λ item. false) items
no_flags [] = refl
no_flags (item ∷ items) = ap (λ flags. false ∷ flags) (no_flags items)

-- flags by a test are the rows that pass it
flagged_items : (row : ℕ) (p : Item → Bool) (items : List Item) → flagged row (map p items) ≡ rows_from row p items
flagged_items row p [] = refl
flagged_items row p (item ∷ items) = ap (λ rows. cond (p item) (row ∷ rows) rows) (flagged_items (row + 1) p items)

pub admitted : (index : Indexed) (claims : List (List ℕ)) → AreAdmitted index claims (flagged 0 (flags_by index claims))
admitted index claims corpus valid stands =
    let items = corpus.items in
    let denies_of = map (claim_rows index true) claims in
    let allowed : map (claim_rows index false) claims ≡ map (λ claim. rows_from 0 (allows claim) items) claims =
    same_map (claim_rows index false) (λ claim. rows_from 0 (allows claim) items) stands.allow claims in
    let denied : map (claim_rows index true) claims ≡ map (λ claim. rows_from 0 (denies claim) items) claims =
    same_map (claim_rows index true) (λ claim. rows_from 0 (denies claim) items) stands.deny claims in
    let none : replicate (length index.rows) false ≡ map (λ item. false) items = ap (λ rows. replicate (length rows) false) stands.rows ∙ no_flags items in
    let some : marked_all true (map (claim_rows index false) claims) (replicate (length index.rows) false) ≡ map (λ item. cond (names_one item.allow claims) true false) items =
    ap (λ lists. marked_all true lists (replicate (length index.rows) false)) allowed
    ∙ (ap (marked_all true (map (λ claim. rows_from 0 (allows claim) items) claims)) none ∙ marked_tests true allows items claims (λ item. false)) in
    let all : flags_by index claims ≡ map (λ item. cond (names_one item.deny claims) false (cond (names_one item.allow claims) true false)) items =
    ap (marked_all false denies_of) some
    ∙ (ap (λ lists. marked_all false lists (map (λ item. cond (names_one item.allow claims) true false) items)) denied
    ∙ marked_tests false denies items claims (λ item. cond (names_one item.allow claims) true false)) in
    ap (flagged 0) (all ∙ same_map (λ item. cond (names_one item.deny claims) false (cond (names_one item.allow claims) true false)) (admits claims) (λ item. both (names_one item.allow claims) (names_one item.deny claims)) items)
    ∙ flagged_items 0 (admits claims) items
  where
    both : (a d : Bool) → cond d false (cond a true false) ≡ a && not d
    both true true = refl
    both true false = refl
    both false true = refl
    both false false = refl

-- ---- the cost

rows_long : (row : ℕ) (p : Item → Bool) (items : List Item) → length (rows_from row p items) ≡ length (filter p items)
rows_long row p [] = refl
rows_long row p (item ∷ items) = at (rows_long (row + 1) p items) (p item)
  where
    at : length (rows_from (row + 1) p items) ≡ length (filter p items) → (b : Bool) → length (cond b (row ∷ rows_from (row + 1) p items) (rows_from (row + 1) p items)) ≡ length (cond b (item ∷ filter p items) (filter p items))
    at more true = ap suc more
    at more false = more

sum_of_both : (f g h : List ℕ → ℕ) → ((c : List ℕ) → f c + g c ≡ h c) → (claims : List (List ℕ)) → sum_by f claims + sum_by g claims ≡ sum_by h claims
sum_of_both f g h same [] = refl
sum_of_both f g h same (c ∷ claims) =
    let a : sum_by f (c ∷ claims) ≡ f c + sum_by f claims = sum_by-cons f c claims in
    let b : sum_by g (c ∷ claims) ≡ g c + sum_by g claims = sum_by-cons g c claims in
    let d : sum_by h (c ∷ claims) ≡ h c + sum_by h claims = sum_by-cons h c claims in
    let e : f c + g c ≡ h c = same c in
    let more = sum_of_both f g h same claims in
    omega (arith, a, b, d, e, more)

pub entries_cost : (index : Indexed) (claims : List (List ℕ)) (corpus : Corpus) → StandsFor index corpus → claim_entries index false claims + claim_entries index true claims ≡ claim_cost corpus claims
entries_cost index claims corpus stands =
    sum_of_both (λ claim. length (claim_rows index false claim)) (λ claim. length (claim_rows index true claim))
    (λ claim. length (filter (allows claim) corpus.items) + length (filter (denies claim) corpus.items))
    (λ claim.
    let a : length (claim_rows index false claim) ≡ length (filter (allows claim) corpus.items) = ap length (stands.allow claim) ∙ rows_long 0 (allows claim) corpus.items in
    let b : length (claim_rows index true claim) ≡ length (filter (denies claim) corpus.items) = ap length (stands.deny claim) ∙ rows_long 0 (denies claim) corpus.items in
    omega (arith, a, b))
    claims

pub within : (index : Indexed) (claims : List (List ℕ)) (corpus : Corpus) → StandsFor index corpus → (before after : ℕ)
    → after ≤ before + (claim_entries index false claims + claim_entries index true claims) → after ≤ before + claim_cost corpus claims
within index claims corpus stands before after h = subst (λ n. after ≤ before + n) (entries_cost index claims corpus stands) h
