-- The rows of claims: row by row, claim by claim and item by item, and the claims in order.
use Rattle.std.proofs.Common.{◌≡◌, ℕ, ◌+◌, ◌-◌, ◌<◌, ◌≤◌, ◌==◌, ◌&&◌, ◌||◌, nat_lt, Bool, true, false, cond, true≢false, List, [], ◌∷◌, ◌++◌, length, map, take, get_or, refl, sym, ap, ap₂, subst, ◌∙◌, arith, Option, Some, String, string_bytes}
use Rattle.std.specs.Global.{Global}
use Rattle.std.specs.HashMap.{HashMap, get_by_text, IsUnique}
use Rattle.std.specs.List.{All, flat_map, filter, list_any, list_all}
use Rattle.std.specs.List.Sorted.{IsPermutation, IsSortedBy}
use Rattle.std.specs.Str.{bytes_eq}
use Rattle.std.specs.String.{string_eq, string_eq_equiv}
use Rattle.std.proofs.lemmas.Bool.Decides.{nat_tests}
use Rattle.std.proofs.lemmas.List.{append-nil, get_or_push, length_push, length-take-le, take_all, take_more}
use Rattle.std.proofs.lemmas.List.Elements.{All-cons, All-head, All-map, All-nil, All-tail, All-weaker}
use Rattle.std.proofs.lemmas.List.Folds.{list_any_more}
use Rattle.std.proofs.lemmas.List.Sorted.{All-permutation, sum_by-IsPermutation}
use Rattle.std.proofs.lemmas.List.Sums.{sum_by-cons, list_all-from_AllPass}
use Rattle.std.proofs.lemmas.Map.Entries.{hash_map_get_place}
use Rattle.std.proofs.lemmas.Option.{slice_get-get_or}
use Rattle.std.proofs.lemmas.Slice.Eq.{bytes_eq-Decides}
use Rattle.sq_model.specs.declared.corpus.Item.{Item}
use Rattle.sq_postings.specs.declared.parts.Claim.{Claim}
use Rattle.sq_postings.specs.Indexed.{rows_with}
use Rattle.sq_postings.specs.Kept.{has_rising_rows, are_claims}
use Rattle.sq_postings.specs.Occurrences.{rows_from}
use Rattle.sq_postings.specs.Rising.{rises, claim_before}
use Rattle.sq_build.specs.Claims.{ends_with, with_row, rows_under, claims_of, has_claim, claim_of, name_of}
use Rattle.sq_build.proofs.KeyLemmas.{has, times, once, none_there, keys_rise}
use Rattle.sq_build.proofs.TestLemmas.{both_true, from_lt}

-- ---- one row more

same_row : (b : Bool) (row : ℕ) → b ≡ true → (b && (row == row)) ≡ true
same_row b row p = grind (arith, nat_tests)

other_row : (b : Bool) (last row : ℕ) → last < row → (b && (last == row)) ≡ false
other_row true last row l = grind (arith, nat_tests)
other_row false last row l = refl

ends_there : (rows : List ℕ) (row : ℕ) → ends_with (rows ++ row ∷ []) row ≡ true
ends_there rows row =
    let some : nat_lt 0 (length (rows ++ row ∷ [])) ≡ true = grind (arith, nat_tests, length_push rows row) in
    let at : length (rows ++ row ∷ []) - 1 ≡ length rows = omega (arith, length_push rows row) in
    ap (λ i. nat_lt 0 (length (rows ++ row ∷ [])) && (get_or (rows ++ row ∷ []) i 0 == row)) at
    ∙ ap (λ last. nat_lt 0 (length (rows ++ row ∷ [])) && (last == row)) (get_or_push rows row 0 (length rows) refl)
    ∙ same_row (nat_lt 0 (length (rows ++ row ∷ []))) row some

ends_below : (rows : List ℕ) (row : ℕ) → All (λ r. r < row) rows → ends_with rows row ≡ false
ends_below [] row all = refl
ends_below (r ∷ rows) row all =
    let l : length (r ∷ rows) - 1 < length (r ∷ rows) = omega arith in
    other_row (nat_lt 0 (length (r ∷ rows))) (get_or (r ∷ rows) (length (r ∷ rows) - 1) 0) row (all (length (r ∷ rows) - 1) 0 l)

pub row_added : (old new : List ℕ → Option (List ℕ)) (claim rows : List ℕ) (row : ℕ) → rows ≡ with_row (rows_under (old claim)) row
    → ((t : List ℕ) → new t ≡ cond (bytes_eq claim t) (Some rows) (old t)) → (t : List ℕ)
    → rows_under (new t) ≡ cond (bytes_eq claim t) (with_row (rows_under (old t)) row) (rows_under (old t))
row_added old new claim rows row is updates t = ap rows_under (updates t) ∙ at (bytes_eq claim t) refl
  where
    at : (b : Bool) → bytes_eq claim t ≡ b → rows_under (cond b (Some rows) (old t)) ≡ cond b (with_row (rows_under (old t)) row) (rows_under (old t))
    at true p = is ∙ ap (λ s. with_row (rows_under (old s)) row) ((bytes_eq-Decides claim t).0 p)
    at false p = refl

-- ---- one claim of an item more

turned : (a b : List ℕ) → bytes_eq a b ≡ bytes_eq b a
turned a b = at (bytes_eq a b) (bytes_eq b a) refl refl
  where
    at : (x y : Bool) → bytes_eq a b ≡ x → bytes_eq b a ≡ y → x ≡ y
    at true true p q = refl
    at true false p q = absurd (true≢false (sym ((bytes_eq-Decides b a).1 (sym ((bytes_eq-Decides a b).0 p))) ∙ q))
    at false true p q = absurd (true≢false (sym ((bytes_eq-Decides a b).1 (sym ((bytes_eq-Decides b a).0 q))) ∙ p))
    at false false p q = refl

claim_at : (old now : List ℕ) (row : ℕ) (a b : Bool) → ends_with old row ≡ false → now ≡ old ++ cond a (row ∷ []) []
    → cond b (with_row now row) now ≡ old ++ cond (a || b) (row ∷ []) []
claim_at old now row true true fresh p = ap (λ r. with_row r row) p ∙ ap (λ b. cond b (old ++ row ∷ []) ((old ++ row ∷ []) ++ row ∷ [])) (ends_there old row)
claim_at old now row true false fresh p = p
claim_at old now row false true fresh p = ap (λ r. with_row r row) (p ∙ append-nil old) ∙ ap (λ b. cond b old (old ++ row ∷ [])) fresh
claim_at old now row false false fresh p = p

pub claim_more : (t text claim old now new : List ℕ) (row : ℕ) (claims : List (List ℕ)) (i : ℕ) → i < length claims → claim ≡ get_or claims i claim → text ≡ claim
    → ends_with old row ≡ false → now ≡ old ++ cond (list_any (bytes_eq t) (take i claims)) (row ∷ []) []
    → new ≡ cond (bytes_eq text t) (with_row now row) now
    → new ≡ old ++ cond (list_any (bytes_eq t) (take (i + 1) claims)) (row ∷ []) []
claim_more t text claim old now new row claims i l is same fresh held grows =
    grows
    ∙ ap (λ b. cond b (with_row now row) now) (turned text t ∙ ap (bytes_eq t) (same ∙ is))
    ∙ claim_at old now row (list_any (bytes_eq t) (take i claims)) (bytes_eq t (get_or claims i claim)) fresh held
    ∙ ap (λ b. old ++ cond b (row ∷ []) []) (sym (list_any_more (bytes_eq t) claims i claim l))

pub claims_end : (t old now : List ℕ) (row : ℕ) (claims : List (List ℕ)) (i : ℕ) → length claims ≤ i
    → now ≡ old ++ cond (list_any (bytes_eq t) (take i claims)) (row ∷ []) [] → now ≡ old ++ cond (list_any (bytes_eq t) claims) (row ∷ []) []
claims_end t old now row claims i past held = held ∙ ap (λ l. old ++ cond (list_any (bytes_eq t) l) (row ∷ []) []) (take_all i claims past)

-- ---- one item more

-- the rows are those from the first one on
below_from : (from : ℕ) (passes : Item → Bool) (items : List Item) → All (λ r. r < from + length items) (rows_from from passes items)
below_from from passes [] = All-nil (λ r. r < from + 0)
below_from from passes (item ∷ items) =
    at (passes item)
    (All-weaker (λ r. r < (from + 1) + length items) (λ r. r < from + length (item ∷ items)) (λ r l. omega (arith, l)) (rows_from (from + 1) passes items) (below_from (from + 1) passes items))
  where
    at : (b : Bool) → All (λ r. r < from + length (item ∷ items)) (rows_from (from + 1) passes items)
        → All (λ r. r < from + length (item ∷ items)) (cond b (from ∷ rows_from (from + 1) passes items) (rows_from (from + 1) passes items))
    at true rest = All-cons (λ r. r < from + length (item ∷ items)) from (rows_from (from + 1) passes items) (omega arith) rest
    at false rest = rest

pub ends_before : (passes : Item → Bool) (items : List Item) (i : ℕ) → i ≤ length items → ends_with (rows_from 0 passes (take i items)) i ≡ false
ends_before passes items i l =
    ends_below (rows_from 0 passes (take i items)) i
    (All-weaker (λ r. r < 0 + length (take i items)) (λ r. r < i) (λ r m. omega (arith, m, length-take-le i items l)) (rows_from 0 passes (take i items)) (below_from 0 passes (take i items)))

rows_push : (from : ℕ) (passes : Item → Bool) (items : List Item) (item : Item)
    → rows_from from passes (items ++ item ∷ []) ≡ rows_from from passes items ++ cond (passes item) ((from + length items) ∷ []) []
rows_push from passes [] item = let e : from ≡ from + 0 = omega arith in ap (λ r. cond (passes item) (r ∷ []) []) e
rows_push from passes (first ∷ items) item =
    let e : (from + 1) + length items ≡ from + length (first ∷ items) = omega arith in
    at (passes first) (rows_push (from + 1) passes items item ∙ ap (λ r. rows_from (from + 1) passes items ++ cond (passes item) (r ∷ []) []) e)
  where
    at : (b : Bool) → rows_from (from + 1) passes (items ++ item ∷ []) ≡ rows_from (from + 1) passes items ++ cond (passes item) ((from + length (first ∷ items)) ∷ []) []
        → cond b (from ∷ rows_from (from + 1) passes (items ++ item ∷ [])) (rows_from (from + 1) passes (items ++ item ∷ []))
        ≡ cond b (from ∷ rows_from (from + 1) passes items) (rows_from (from + 1) passes items) ++ cond (passes item) ((from + length (first ∷ items)) ∷ []) []
    at true rest = ap (λ l. from ∷ l) rest
    at false rest = rest

pub item_more : (denied : Bool) (t : List ℕ) (items : List Item) (i : ℕ) (item : Item) (claims : List (List ℕ)) (now new : List ℕ) → i < length items → item ≡ get_or items i item
    → claims ≡ claims_of denied item → new ≡ now ++ cond (list_any (bytes_eq t) claims) (i ∷ []) [] → now ≡ rows_from 0 (has_claim denied t) (take i items)
    → new ≡ rows_from 0 (has_claim denied t) (take (i + 1) items)
item_more denied t items i item claims now new l is from grows held =
    let n : 0 + length (take i items) ≡ i = omega (arith, length-take-le i items (omega (arith, l))) in
    grows
    ∙ ap₂ (λ r c. r ++ cond (list_any (bytes_eq t) c) (i ∷ []) []) held (from ∙ ap (claims_of denied) is)
    ∙ ap (λ r. rows_from 0 (has_claim denied t) (take i items) ++ cond (has_claim denied t (get_or items i item)) (r ∷ []) []) (sym n)
    ∙ sym (rows_push 0 (has_claim denied t) (take i items) (get_or items i item))
    ∙ ap (rows_from 0 (has_claim denied t)) (sym (take_more items i item l))

pub items_end : (denied : Bool) (t : List ℕ) (items : List Item) (i : ℕ) (now : List ℕ) → length items ≤ i → now ≡ rows_from 0 (has_claim denied t) (take i items)
    → now ≡ rows_from 0 (has_claim denied t) items
items_end denied t items i now past held = held ∙ ap (rows_from 0 (has_claim denied t)) (take_all i items past)

-- ---- the rows rise

rise_behind : (row from : ℕ) (passes : Item → Bool) (items : List Item) → row < from → rises nat_lt (row ∷ rows_from from passes items) ≡ true
rise_behind row from passes [] l = refl
rise_behind row from passes (item ∷ items) l =
    at (passes item) (rise_behind from (from + 1) passes items (omega arith)) (rise_behind row (from + 1) passes items (omega (arith, l)))
  where
    at : (b : Bool) → rises nat_lt (from ∷ rows_from (from + 1) passes items) ≡ true → rises nat_lt (row ∷ rows_from (from + 1) passes items) ≡ true
        → rises nat_lt (row ∷ cond b (from ∷ rows_from (from + 1) passes items) (rows_from (from + 1) passes items)) ≡ true
    at true up skip = both_true (nat_lt row from) _ (from_lt row from l) up
    at false up skip = skip

pub rows_rise : (from : ℕ) (passes : Item → Bool) (items : List Item) → rises nat_lt (rows_from from passes items) ≡ true
rows_rise from passes [] = refl
rows_rise from passes (item ∷ items) = at (passes item) (rise_behind from (from + 1) passes items (omega arith)) (rows_rise (from + 1) passes items)
  where
    at : (b : Bool) → rises nat_lt (from ∷ rows_from (from + 1) passes items) ≡ true → rises nat_lt (rows_from (from + 1) passes items) ≡ true
        → rises nat_lt (cond b (from ∷ rows_from (from + 1) passes items) (rows_from (from + 1) passes items)) ≡ true
    at true up skip = up
    at false up skip = skip

-- ---- the rows of one claim among claims that differ

rows_none : (t : List ℕ) (claims : List Claim) → times name_of t claims ≡ 0 → rows_with t claims ≡ []
rows_none t [] none = refl
rows_none t (claim ∷ claims) none = at (bytes_eq claim.claim t) refl (rows_none t claims (omega (arith, none, sum_by-cons (has name_of t) claim claims)))
  where
    at : (b : Bool) → bytes_eq claim.claim t ≡ b → rows_with t claims ≡ []
        → flat_map (λ list. list.rows) (cond b (claim ∷ filter (λ list. bytes_eq list.claim t) claims) (filter (λ list. bytes_eq list.claim t) claims)) ≡ []
    at true p rest =
        let first : has name_of t claim ≡ 1 = ap (λ b. cond b 1 0) p in
        absurd (omega (arith, none, sum_by-cons (has name_of t) claim claims, first))
    at false p rest = rest

rows_one : (wanted : List ℕ → List ℕ) (t : List ℕ) (claims : List Claim) → times name_of t claims ≤ 1 → All (λ claim. claim.rows ≡ wanted claim.claim) claims
    → (times name_of t claims ≡ 0 → wanted t ≡ []) → rows_with t claims ≡ wanted t
rows_one wanted t [] few own none = sym (none refl)
rows_one wanted t (claim ∷ claims) few own none =
    at (bytes_eq claim.claim t) refl
    (λ p. rows_one wanted t claims (omega (arith, few, sum_by-cons (has name_of t) claim claims)) (All-tail (λ claim. claim.rows ≡ wanted claim.claim) claim claims own)
    (λ z. none (sum_by-cons (has name_of t) claim claims ∙ ap₂ (λ b n. cond b 1 0 + n) p z)))
  where
    at : (b : Bool) → bytes_eq claim.claim t ≡ b → (bytes_eq claim.claim t ≡ false → rows_with t claims ≡ wanted t)
        → flat_map (λ list. list.rows) (cond b (claim ∷ filter (λ list. bytes_eq list.claim t) claims) (filter (λ list. bytes_eq list.claim t) claims)) ≡ wanted t
    at true p more =
        let first : has name_of t claim ≡ 1 = ap (λ b. cond b 1 0) p in
        ap₂ (λ a b. a ++ b)
        (All-head (λ claim. claim.rows ≡ wanted claim.claim) claim claims own ∙ ap wanted ((bytes_eq-Decides claim.claim t).0 p))
        (rows_none t claims (omega (arith, few, sum_by-cons (has name_of t) claim claims, first)))
        ∙ append-nil (wanted t)
    at false p more = more p

-- ---- the claims of a map in order

module _ {S : Type 0} (rows : HashMap (String Global) (List ℕ) S) (wanted : List ℕ → List ℕ) (claims sorted : List Claim) (unique : IsUnique string_eq rows)
    (is : claims ≡ map claim_of rows.entries) (moved : IsPermutation claims sorted) (held : (t : List ℕ) → rows_under (get_by_text rows t) ≡ wanted t) where
  same_times : (t : List ℕ) → times name_of t sorted ≡ times name_of t (map claim_of rows.entries)
  same_times t = sum_by-IsPermutation (has name_of t) claims sorted moved ∙ ap (times name_of t) is

  few : (t : List ℕ) → times name_of t sorted ≤ 1
  few t = omega (arith, same_times t, once claim_of name_of (λ e. refl) t rows.entries unique)

  own : All (λ claim. claim.rows ≡ wanted claim.claim) sorted
  own =
      All-permutation (λ claim. claim.rows ≡ wanted claim.claim) claims sorted moved
      (subst (All (λ claim. claim.rows ≡ wanted claim.claim)) (sym is) (All-map (λ claim. claim.rows ≡ wanted claim.claim) claim_of rows.entries (λ k d l.
      sym (ap rows_under (hash_map_get_place string_eq_equiv rows k (get_or rows.entries k d).0 (get_or rows.entries k d).1 unique (slice_get-get_or rows.entries k d l)))
      ∙ held (string_bytes (get_or rows.entries k d).0))))

  pub sorted_kept : IsSortedBy claim_before sorted → ((t : List ℕ) → rises nat_lt (wanted t) ≡ true) → are_claims sorted ≡ true
  sorted_kept up all =
      both_true (rises claim_before sorted) (list_all has_rising_rows sorted) (keys_rise name_of sorted few up)
      (list_all-from_AllPass has_rising_rows sorted (λ k d l. ap (rises nat_lt) (own k d l) ∙ all (get_or sorted k d).claim))

  pub sorted_rows : (t : List ℕ) → rows_with t sorted ≡ wanted t
  sorted_rows t =
      rows_one wanted t sorted (few t) own
      (λ none. sym (held t) ∙ ap rows_under (none_there claim_of name_of (λ e. refl) t rows.entries (sym (same_times t) ∙ none)))
