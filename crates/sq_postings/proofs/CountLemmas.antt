-- Each token is counted by at most one list.
use Rattle.std.proofs.Common.{◌≡◌, ◌⊎◌, inl, inr, ℕ, zero, suc, ◌+◌, ◌-◌, ◌<◌, ◌≤◌, Bool, true, false, ◌&&◌, cond, List, [], ◌∷◌, length, map, filter, take, drop, get_or, refl, sym, ap, ◌∙◌, subst, arith, length-append}
use Rattle.std.specs.Prelude.{sum_by, ◌==◌, flat_map}
use Rattle.std.specs.List.{list_all}
use Rattle.std.specs.Str.{bytes_eq}
use Rattle.std.proofs.lemmas.List.{length-map, drop_more, append-nil, length-take-le}
use Rattle.std.proofs.Common.{length-drop}
use Rattle.std.proofs.lemmas.Slice.Eq.{bytes_eq-Decides}
use Rattle.std.proofs.lemmas.List.Sums.{sum_by-cons}
use Rattle.std.proofs.lemmas.Bool.Decides.{nat_tests}
use Rattle.sq_tokens.specs.Token.{Token, token_text}
use Rattle.sq_model.specs.Passages.{Passage, passages}
use Rattle.sq_model.specs.declared.corpus.Item.{Item}
use Rattle.sq_model.specs.declared.corpus.Corpus.{Corpus}
use Rattle.sq_coded.specs.declared.posting.Posting.{Posting}
use Rattle.sq_model.specs.Cost.{passage_count, posting_count}
use Rattle.sq_tokens.specs.Pattern.{is_token_asked}
use Rattle.sq_postings.specs.Indexed.{Indexed, TermList, is_list_of, list_at, list_of, AreListsOf}
use Rattle.sq_postings.specs.Laws.{lists_between, list_length, list_postings, ListsAreWithinCount, ListsHavePostings}
use Rattle.sq_postings.specs.Occurrences.{places_from, posting, passage_postings, postings_from, postings_of}
use Rattle.sq_postings.specs.Rising.{rises, text_before, token_before, term_before}
use Rattle.sq_postings.specs.StandsFor.{StandsFor}
use Rattle.sq_postings.specs.declared.parts.Term.{Term}
use Rattle.sq_postings.proofs.OrderLemmas.{and_left, and_right, not_both, text_chain, equal_isnt_before, same_text, by_number}
use Rattle.sq_postings.proofs.RisingLemmas.{rises_tail}
use Rattle.sq_postings.proofs.ValueLemmas.{rises-drop}

-- ---- sums

sum_zero : (f : List ℕ → ℕ) → ((t : List ℕ) → f t ≡ 0) → (ts : List (List ℕ)) → sum_by f ts ≤ 0
sum_zero f none [] = omega arith
sum_zero f none (t ∷ ts) = omega (arith, sum_by-cons f t ts, none t, sum_zero f none ts)

add_up : (f g h : List ℕ → ℕ) → ((t : List ℕ) → f t ≡ g t + h t) → (ts : List (List ℕ)) → sum_by f ts ≡ sum_by g ts + sum_by h ts
add_up f g h same [] = refl
add_up f g h same (t ∷ ts) =
    let a : sum_by f (t ∷ ts) ≡ f t + sum_by f ts = sum_by-cons f t ts in
    let b : sum_by g (t ∷ ts) ≡ g t + sum_by g ts = sum_by-cons g t ts in
    let d : sum_by h (t ∷ ts) ≡ h t + sum_by h ts = sum_by-cons h t ts in
    let e : f t ≡ g t + h t = same t in
    let more : sum_by f ts ≡ sum_by g ts + sum_by h ts = add_up f g h same ts in
    omega (arith, a, b, d, e, more)

-- ---- one token

abbrev one_if : Bool → ℕ
one_if true = 1
one_if false = 0

abbrev is_text : List ℕ → List ℕ → ℕ
is_text text t = one_if (bytes_eq text t)

skip_second : (t u : List ℕ) (ts : List (List ℕ)) → rises text_before (t ∷ u ∷ ts) ≡ true → rises text_before (t ∷ ts) ≡ true
skip_second t u [] h = refl
skip_second t u (v ∷ ts) h =
    let first = and_left (text_before t u) (rises text_before (u ∷ v ∷ ts)) h in
    let more = and_right (text_before t u) (rises text_before (u ∷ v ∷ ts)) h in
    rw (text_chain t u v first (and_left (text_before u v) (rises text_before (v ∷ ts)) more)) (and_right (text_before u v) (rises text_before (v ∷ ts)) more)

none_behind : (text t : List ℕ) (ts : List (List ℕ)) → bytes_eq text t ≡ true → rises text_before (t ∷ ts) ≡ true → sum_by (is_text text) ts ≤ 0
none_behind text t [] same h = omega arith
none_behind text t (u ∷ ts) same h = omega (arith, sum_by-cons (is_text text) u ts, differs (bytes_eq text u) refl, none_behind text t ts same (skip_second t u ts h))
  where
    differs : (b : Bool) → bytes_eq text u ≡ b → one_if (bytes_eq text u) ≡ 0
    differs false e = ap one_if e
    differs true e =
        let before : text_before t u ≡ true = and_left (text_before t u) (rises text_before (u ∷ ts)) h in
        let equal : t ≡ u = sym (same_text text t same) ∙ same_text text u e in
        absurd (not_both (text_before t u) before (ap (λ x. text_before x u) equal ∙ equal_isnt_before u u (subst (λ x. bytes_eq x u ≡ true) (same_text text u e) e)))

at_most_one : (text : List ℕ) (ts : List (List ℕ)) → rises text_before ts ≡ true → sum_by (is_text text) ts ≤ 1
at_most_one text [] h = omega arith
at_most_one text (t ∷ ts) h = by (bytes_eq text t) refl (at_most_one text ts (rises_tail text_before t ts h))
  where
    by : (b : Bool) → bytes_eq text t ≡ b → sum_by (is_text text) ts ≤ 1 → sum_by (is_text text) (t ∷ ts) ≤ 1
    by true e more = let one : is_text text t ≡ 1 = ap one_if e in omega (arith, sum_by-cons (is_text text) t ts, one, none_behind text t ts e h)
    by false e more = let none : is_text text t ≡ 0 = ap one_if e in omega (arith, sum_by-cons (is_text text) t ts, none, more)

none_fits : (prefixed : Bool) (wanted text : List ℕ) (ts : List (List ℕ)) → is_token_asked prefixed wanted text ≡ false → list_all (is_token_asked prefixed wanted) ts ≡ true → sum_by (is_text text) ts ≤ 0
none_fits prefixed wanted text [] other all = omega arith
none_fits prefixed wanted text (t ∷ ts) other all =
    omega (arith, sum_by-cons (is_text text) t ts, differs (bytes_eq text t) refl, none_fits prefixed wanted text ts other (and_right (is_token_asked prefixed wanted t) (list_all (is_token_asked prefixed wanted) ts) all))
  where
    differs : (b : Bool) → bytes_eq text t ≡ b → is_text text t ≡ 0
    differs false e = ap one_if e
    differs true e = absurd (not_both (is_token_asked prefixed wanted text)
        (ap (is_token_asked prefixed wanted) (same_text text t e) ∙ and_left (is_token_asked prefixed wanted t) (list_all (is_token_asked prefixed wanted) ts) all) other)

one_token : (prefixed : Bool) (wanted text : List ℕ) (ts : List (List ℕ)) → rises text_before ts ≡ true → list_all (is_token_asked prefixed wanted) ts ≡ true
    → sum_by (is_text text) ts ≤ one_if (is_token_asked prefixed wanted text)
one_token prefixed wanted text ts up all = by (is_token_asked prefixed wanted text) refl
  where
    by : (b : Bool) → is_token_asked prefixed wanted text ≡ b → sum_by (is_text text) ts ≤ one_if b
    by true e = at_most_one text ts up
    by false e = none_fits prefixed wanted text ts e all

-- ---- passages and items

places_long : (i : ℕ) (t : List ℕ) (passage : Passage) → length (places_from (i + 1) t passage) ≡ length (places_from i t passage)
places_long i t [] = refl
places_long i t (token ∷ tokens) = by (places_long (i + 1) t tokens) (bytes_eq (token_text token) t)
  where
    by : length (places_from (i + 1 + 1) t tokens) ≡ length (places_from (i + 1) t tokens) → (b : Bool) → length (cond b ((i + 1) ∷ places_from (i + 1 + 1) t tokens) (places_from (i + 1 + 1) t tokens)) ≡ length (cond b (i ∷ places_from (i + 1) t tokens) (places_from (i + 1) t tokens))
    by more true = ap suc more
    by more false = more

abbrev place_count : Passage → List ℕ → ℕ
place_count passage t = length (places_from 0 t passage)

first_place : (token : Token) (tokens : Passage) (t : List ℕ) → place_count (token ∷ tokens) t ≡ is_text (token_text token) t + place_count tokens t
first_place token tokens t = by (bytes_eq (token_text token) t)
  where
    by : (b : Bool) → length (cond b (0 ∷ places_from (0 + 1) t tokens) (places_from (0 + 1) t tokens)) ≡ one_if b + place_count tokens t
    by true = let same = places_long 0 t tokens in omega (arith, same)
    by false = let same = places_long 0 t tokens in omega (arith, same)

first_wanted : (prefixed : Bool) (wanted : List ℕ) (token : Token) (tokens : Passage) → passage_count prefixed wanted (token ∷ tokens) ≡ one_if (is_token_asked prefixed wanted (token_text token)) + passage_count prefixed wanted tokens
first_wanted prefixed wanted token tokens = by (is_token_asked prefixed wanted (token_text token))
  where
    rest : Passage
    rest = filter (λ (x : Token). is_token_asked prefixed wanted (token_text x)) tokens

    by : (b : Bool) → length (cond b (token ∷ rest) rest) ≡ one_if b + length rest
    by true = omega arith
    by false = omega arith

abbrev passages_count : ℕ → ℕ → List Passage → List ℕ → ℕ
passages_count row ordinal list t = length (passage_postings row ordinal t list)

first_passage : (row ordinal : ℕ) (passage : Passage) (list : List Passage) (t : List ℕ) → passages_count row ordinal (passage ∷ list) t ≡ place_count passage t + passages_count row (ordinal + 1) list t
first_passage row ordinal passage list t =
    length-append (map (posting row ordinal) (places_from 0 t passage)) (passage_postings row (ordinal + 1) t list)
    ∙ ap (λ n. n + passages_count row (ordinal + 1) list t) (length-map (places_from 0 t passage) (posting row ordinal))

abbrev items_count : ℕ → ℕ → List Item → List ℕ → ℕ
items_count row property items t = length (postings_from row property t items)

first_item : (row property : ℕ) (item : Item) (items : List Item) (t : List ℕ) → items_count row property (item ∷ items) t ≡ passages_count row 0 (passages item.values property) t + items_count (row + 1) property items t
first_item row property item items t = length-append (passage_postings row 0 t (passages item.values property)) (postings_from (row + 1) property t items)

abbrev item_count : Bool → List ℕ → ℕ → Item → ℕ
item_count prefixed wanted property item = sum_by (passage_count prefixed wanted) (passages item.values property)

module _ (prefixed : Bool) (wanted : List ℕ) (ts : List (List ℕ)) (up : rises text_before ts ≡ true) (all : list_all (is_token_asked prefixed wanted) ts ≡ true) where
  in_passage : (passage : Passage) → sum_by (place_count passage) ts ≤ passage_count prefixed wanted passage
  in_passage [] = sum_zero (place_count []) (λ t. refl) ts
  in_passage (token ∷ tokens) =
      omega (
        arith,
        add_up (place_count (token ∷ tokens)) (is_text (token_text token)) (place_count tokens) (first_place token tokens) ts,
        one_token prefixed wanted (token_text token) ts up all,
        in_passage tokens,
        first_wanted prefixed wanted token tokens,
      )

  in_passages : (row ordinal : ℕ) (list : List Passage) → sum_by (passages_count row ordinal list) ts ≤ sum_by (passage_count prefixed wanted) list
  in_passages row ordinal [] = sum_zero (passages_count row ordinal []) (λ t. refl) ts
  in_passages row ordinal (passage ∷ list) =
      omega (
        arith,
        add_up (passages_count row ordinal (passage ∷ list)) (place_count passage) (passages_count row (ordinal + 1) list) (first_passage row ordinal passage list) ts,
        in_passage passage,
        in_passages row (ordinal + 1) list,
        sum_by-cons (passage_count prefixed wanted) passage list,
      )

  in_items : (row property : ℕ) (items : List Item) → sum_by (items_count row property items) ts ≤ posting_count items property wanted prefixed
  in_items row property [] = sum_zero (items_count row property []) (λ t. refl) ts
  in_items row property (item ∷ items) =
      omega (
        arith,
        add_up (items_count row property (item ∷ items)) (passages_count row 0 (passages item.values property)) (items_count (row + 1) property items) (first_item row property item items) ts,
        in_passages row 0 (passages item.values property),
        in_items (row + 1) property items,
        sum_by-cons (item_count prefixed wanted property) item items,
      )

-- ---- lists

abbrev pub list_before : TermList → TermList → Bool
list_before a b = token_before a.property a.token b.property b.token

pub lists_rise : (lists : List (List Posting)) (terms : List Term) → rises term_before terms ≡ true → rises list_before (map (list_of lists) terms) ≡ true
lists_rise lists [] h = refl
lists_rise lists (t ∷ []) h = refl
lists_rise lists (t ∷ u ∷ terms) h = rw (and_left (term_before t u) (rises term_before (u ∷ terms)) h) (lists_rise lists (u ∷ terms) (and_right (term_before t u) (rises term_before (u ∷ terms)) h))

rises-take : {X : Type 0} (comes_before : X → X → Bool) (n : ℕ) (xs : List X) → rises comes_before xs ≡ true → rises comes_before (take n xs) ≡ true
rises-take comes_before zero xs h = refl
rises-take comes_before (suc n) [] h = refl
rises-take comes_before (suc n) (x ∷ []) h = by n
  where
    by : (n : ℕ) → rises comes_before (x ∷ take n []) ≡ true
    by zero = refl
    by (suc n) = refl
rises-take comes_before (suc zero) (x ∷ y ∷ xs) h = refl
rises-take comes_before (suc (suc n)) (x ∷ y ∷ xs) h =
    rw (and_left (comes_before x y) (rises comes_before (y ∷ xs)) h) (rises-take comes_before (suc n) (y ∷ xs) (and_right (comes_before x y) (rises comes_before (y ∷ xs)) h))

abbrev AllAre : (TermList → Type 0) → List TermList → Type 0
AllAre P [] = Unit {0}
AllAre P (l ∷ ls) = P l × AllAre P ls

abbrev no_list : TermList
no_list = record { property = 0; token = []; postings = [] }

segment : (lists : List TermList) (P : TermList → Type 0) (n s : ℕ) → s + n ≤ length lists → ((i : ℕ) → s ≤ i → i < s + n → P (get_or lists i no_list)) → AllAre P (take n (drop s lists))
segment lists P zero s within all = tt
segment lists P (suc n) s within all =
    let below : s < length lists = omega (arith, within) in
    subst (λ ls. AllAre P (take (suc n) ls)) (sym (drop_more lists s no_list below))
    (all s (omega arith) (omega arith), segment lists P n (s + 1) (omega (arith, within)) (λ i l m. all i (omega (arith, l)) (omega (arith, m))))

abbrev token_of : TermList → List ℕ
token_of list = list.token

-- the list is one of those that fit, and has its postings
abbrev pub Fitting : Corpus → ℕ → List ℕ → Bool → TermList → Type 0
Fitting corpus property wanted prefixed list = (is_list_of property wanted prefixed list ≡ true) × (list.postings ≡ postings_of corpus.items list.property list.token)

module _ (corpus : Corpus) (property : ℕ) (wanted : List ℕ) (prefixed : Bool) where
  of_property : (list : TermList) → Fitting corpus property wanted prefixed list → list.property ≡ property
  of_property list fit = let e : (list.property == property) ≡ true = and_left (list.property == property) (is_token_asked prefixed wanted list.token) fit.0 in grind (arith, nat_tests)

  all_fit : (ls : List TermList) → AllAre (Fitting corpus property wanted prefixed) ls → list_all (is_token_asked prefixed wanted) (map token_of ls) ≡ true
  all_fit [] all = refl
  all_fit (l ∷ ls) all = rw (and_right (l.property == property) (is_token_asked prefixed wanted l.token) all.0.0) (all_fit ls all.1)

  tokens_rise : (ls : List TermList) → AllAre (Fitting corpus property wanted prefixed) ls → rises list_before ls ≡ true → rises text_before (map token_of ls) ≡ true
  tokens_rise [] all h = refl
  tokens_rise (l ∷ []) all h = refl
  tokens_rise (l ∷ m ∷ ls) all h =
      rw (by (by_number l.property m.property (text_before l.token m.token) (and_left (list_before l m) (rises list_before (m ∷ ls)) h)))
      (tokens_rise (m ∷ ls) all.1 (and_right (list_before l m) (rises list_before (m ∷ ls)) h))
    where
      by : (l.property < m.property) ⊎ ((l.property ≡ m.property) × (text_before l.token m.token ≡ true)) → text_before l.token m.token ≡ true
      by (inl less) = absurd (omega (arith, less, of_property l all.0, of_property m all.1.0))
      by (inr same) = same.1

  lengths_are : (ls : List TermList) → AllAre (Fitting corpus property wanted prefixed) ls → sum_by list_length ls ≡ sum_by (λ t. length (postings_of corpus.items property t)) (map token_of ls)
  lengths_are [] all = refl
  lengths_are (l ∷ ls) all =
      let here : list_length l ≡ length (postings_of corpus.items property l.token) = ap length all.0.1 ∙ ap (λ p. length (postings_of corpus.items p l.token)) (of_property l all.0) in
      omega (arith, here, lengths_are ls all.1, sum_by-cons list_length l ls, sum_by-cons (λ t. length (postings_of corpus.items property t)) l.token (map token_of ls))

pub fitting : (index : Indexed) (corpus : Corpus) → StandsFor index corpus → (property : ℕ) (wanted : List ℕ) (prefixed : Bool) (start end : ℕ) → AreListsOf index property wanted prefixed start end
    → AllAre (Fitting corpus property wanted prefixed) (lists_between index start end)
fitting index corpus stands property wanted prefixed start end are =
    segment index.lists (Fitting corpus property wanted prefixed) (end - start) start (omega (arith, are.ordered, are.within)) (λ i l m.
    let below : i < length index.lists = omega (arith, m, are.ordered, are.within) in
    (are.inside i l (omega (arith, m, are.ordered)), stands.lists i below))

pub within_count : (index : Indexed) (corpus : Corpus) → rises list_before index.lists ≡ true → StandsFor index corpus → ListsAreWithinCount index corpus
within_count index corpus up stands property wanted prefixed start end are =
    let ls = lists_between index start end in
    let all = fitting index corpus stands property wanted prefixed start end are in
    let rise = rises-take list_before (end - start) (drop start index.lists) (rises-drop list_before start index.lists up) in
    let most = in_items prefixed wanted (map token_of ls) (tokens_rise corpus property wanted prefixed ls all rise) (all_fit corpus property wanted prefixed ls all) 0 property corpus.items in
    omega (arith, lengths_are corpus property wanted prefixed ls all, most)

-- a list of a token has its places
its_postings : (corpus : Corpus) (property : ℕ) (token : List ℕ) (l : TermList) → Fitting corpus property token false l → l.postings ≡ postings_of corpus.items property token
its_postings corpus property token l fit =
    fit.1 ∙ ap (λ p. postings_of corpus.items p l.token) (of_property corpus property token false l fit)
    ∙ ap (postings_of corpus.items property) (same_text l.token token (and_right (l.property == property) (bytes_eq l.token token) fit.0))

is_list : (property p : ℕ) (token t : List ℕ) → p ≡ property → t ≡ token → (p == property) && bytes_eq t token ≡ true
is_list property p token t e f =
    let number : (p == property) ≡ true = grind (arith, nat_tests) in
    rw (number, (bytes_eq-Decides t token).1 f) refl

two_differ : (corpus : Corpus) (property : ℕ) (token : List ℕ) (l m : TermList) → Fitting corpus property token false l → Fitting corpus property token false m → list_before l m ≡ true → ⊥
two_differ corpus property token l m fit other before = by (by_number l.property m.property (text_before l.token m.token) before)
  where
    here : bytes_eq l.token token ≡ true
    here = and_right (l.property == property) (bytes_eq l.token token) fit.0

    there : m.token ≡ token
    there = same_text m.token token (and_right (m.property == property) (bytes_eq m.token token) other.0)

    by : (l.property < m.property) ⊎ ((l.property ≡ m.property) × (text_before l.token m.token ≡ true)) → ⊥
    by (inl less) = omega (arith, less, of_property corpus property token false l fit, of_property corpus property token false m other)
    by (inr same) = not_both (text_before l.token m.token) same.1 (ap (text_before l.token) there ∙ equal_isnt_before l.token token here)

pub have_postings : (index : Indexed) (corpus : Corpus) → rises list_before index.lists ≡ true → StandsFor index corpus → ListsHavePostings index corpus
have_postings index corpus up stands property token start end are =
    by (lists_between index start end) refl (fitting index corpus stands property token false start end are)
    (rises-take list_before (end - start) (drop start index.lists) (rises-drop list_before start index.lists up))
  where
    many : length (lists_between index start end) ≡ end - start
    many = length-take-le (end - start) (drop start index.lists) (omega (arith, are.ordered, are.within, length-drop start index.lists))

    nowhere : (ps : List Posting) → postings_of corpus.items property token ≡ ps → lists_between index start end ≡ [] → [] ≡ ps
    nowhere [] f e = refl
    nowhere (p ∷ ps) f e =
        let w = stands.whole property token (λ g. let empty : p ∷ ps ≡ [] = sym f ∙ g in cc) in
        let place = are.outside w.0 w.1 (is_list property (list_at index w.0).property token (list_at index w.0).token w.2 w.3) in
        let none : length (lists_between index start end) ≡ 0 = ap length e in
        absurd (omega (arith, place.0, place.1, many, none))

    by : (ls : List TermList) → lists_between index start end ≡ ls → AllAre (Fitting corpus property token false) ls → rises list_before ls ≡ true → flat_map list_postings ls ≡ postings_of corpus.items property token
    by [] e all h = nowhere (postings_of corpus.items property token) refl e
    by (l ∷ []) e all h = append-nil l.postings ∙ its_postings corpus property token l all.0
    by (l ∷ m ∷ ls) e all h = absurd (two_differ corpus property token l m all.0 all.1.0 (and_left (list_before l m) (rises list_before (m ∷ ls)) h))
