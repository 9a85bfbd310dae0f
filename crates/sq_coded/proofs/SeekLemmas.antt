-- What a seek passes, and where it stops.
use Rattle.std.proofs.Common.{◌≡◌, ℕ, ◌+◌, ◌<◌, ◌≤◌, true, false, cond, List, [], ◌∷◌, ◌++◌, length, take, drop, Option, Some, None, refl, sym, ap, ◌∙◌, subst, arith, zero, suc}
use Rattle.std.proofs.lemmas.Bool.Decides.{nat_tests}
use Rattle.std.proofs.lemmas.List.{drop-drop, drop_all, take-append-drop}
use Rattle.std.proofs.lemmas.List.Elements.{filter-append}
use Rattle.std.specs.Prelude.{slice_get}
use Rattle.sq_coded.specs.Coded.{Follows, AllFollow, is_list, origin, last_row}
use Rattle.sq_coded.specs.Reading.{IsAtEntry, HasEntry, without_first, first_count, count_behind, is_from, entries_from}
use Rattle.sq_coded.specs.declared.posting.Posting.{Posting}
use Rattle.sq_coded.proofs.BlockLemmas.{AllFollow-take}
use Rattle.sq_coded.proofs.ReadLemmas.{follow_origin, drop_get}

-- rows rise up to the last
first_row_le : (e : Posting) (entries : List Posting) → AllFollow e entries → e.row ≤ last_row (e ∷ entries)
first_row_le e [] all = omega arith
first_row_le e (f ∷ entries) all = let step = all.0.row in omega (arith, step, first_row_le f entries all.1)

not_from : (row ordinal : ℕ) (e : Posting) → e.row < row → is_from row ordinal e ≡ false
not_from row ordinal e below = grind (arith, nat_tests)

-- none of a block whose last row is below
none_from : (row ordinal : ℕ) (before : Posting) (entries : List Posting) → AllFollow before entries → last_row entries < row → entries_from row ordinal entries ≡ []
none_from row ordinal before [] all below = refl
none_from row ordinal before (e ∷ []) all below = rw (not_from row ordinal e below) refl
none_from row ordinal before (e ∷ f ∷ entries) all below =
    let low : e.row < row = omega (arith, first_row_le e (f ∷ entries) all.1, below) in
    ap (λ b. cond b (e ∷ entries_from row ordinal (f ∷ entries)) (entries_from row ordinal (f ∷ entries))) (not_from row ordinal e low)
    ∙ none_from row ordinal e (f ∷ entries) all.1 below

-- a run of entries whose last row is below may be passed
pub passed : (entries : List Posting) (n more row ordinal : ℕ) → is_list entries ≡ true → (0 < more → last_row (take more (drop n entries)) < row)
    → entries_from row ordinal (drop (n + more) entries) ≡ entries_from row ordinal (drop n entries)
passed entries n zero row ordinal list below = let same : n + 0 ≡ n = omega arith in ap (λ k. entries_from row ordinal (drop k entries)) same
passed entries n (suc m) row ordinal list below =
    let front = take (suc m) (drop n entries) in
    let back = drop (suc m) (drop n entries) in
    let none : entries_from row ordinal front ≡ [] = none_from row ordinal origin front (AllFollow-take (suc m) origin (drop n entries) (follow_origin entries n list)) (below (omega arith)) in
    sym (ap (entries_from row ordinal) (sym (take-append-drop (suc m) (drop n entries)))
    ∙ filter-append (is_from row ordinal) front back ∙ ap (λ xs. xs ++ entries_from row ordinal back) none
    ∙ ap (entries_from row ordinal) (drop-drop (suc m) n entries))

-- the first entry is passed
pub first_passed : (row ordinal : ℕ) (left : List Posting) (e : Posting) → slice_get left 0 ≡ Some e → is_from row ordinal e ≡ false → entries_from row ordinal (without_first left) ≡ entries_from row ordinal left
first_passed row ordinal [] e here fails = cc
first_passed row ordinal (x ∷ left) e here fails =
    let same : e ≡ x = cc in
    sym (ap (λ b. cond b (x ∷ entries_from row ordinal left) (entries_from row ordinal left)) (subst (λ (y : Posting). is_from row ordinal y ≡ false) same fails))

still_from : (row ordinal : ℕ) (e f : Posting) → Follows e f → is_from row ordinal e ≡ true → is_from row ordinal f ≡ true
still_from row ordinal e f follows holds = grind (arith, nat_tests)

all_from : (row ordinal : ℕ) (e : Posting) (entries : List Posting) → AllFollow e entries → is_from row ordinal e ≡ true → entries_from row ordinal entries ≡ entries
all_from row ordinal e [] all holds = refl
all_from row ordinal e (f ∷ entries) all holds =
    let next = still_from row ordinal e f all.0 holds in
    ap (λ b. cond b (f ∷ entries_from row ordinal entries) (entries_from row ordinal entries)) next ∙ ap (λ xs. f ∷ xs) (all_from row ordinal f entries all.1 next)

-- the seek stops at an entry of the passage or a later one
pub stops : (row ordinal : ℕ) (left : List Posting) (e : Posting) → AllFollow origin left → slice_get left 0 ≡ Some e → is_from row ordinal e ≡ true → entries_from row ordinal left ≡ left
stops row ordinal [] e all here holds = refl
stops row ordinal (x ∷ left) e all here holds =
    let same : e ≡ x = cc in
    let mine : is_from row ordinal x ≡ true = subst (λ (y : Posting). is_from row ordinal y ≡ true) same holds in
    ap (λ b. cond b (x ∷ entries_from row ordinal left) (entries_from row ordinal left)) mine ∙ ap (λ xs. x ∷ xs) (all_from row ordinal x left all.1 mine)

pub stops_at_end : (row ordinal : ℕ) (left : List Posting) → slice_get left 0 ≡ None → entries_from row ordinal left ≡ left
stops_at_end row ordinal [] none = refl
stops_at_end row ordinal (x ∷ left) none = cc

pub has_entry : (left : List Posting) (e : Posting) → slice_get left 0 ≡ Some e → HasEntry left
has_entry [] e here = cc
has_entry (x ∷ left) e here = tt

pub counted_all : (left : List Posting) → first_count left + count_behind left ≡ length left
counted_all [] = omega arith
counted_all (x ∷ left) = omega arith

pub counted_behind : (left : List Posting) → HasEntry left → count_behind left + 1 ≡ length left
counted_behind [] h = absurd h
counted_behind (x ∷ left) h = omega arith

pub length-without_first : (left : List Posting) → HasEntry left → length (without_first left) + 1 ≡ length left
length-without_first [] h = absurd h
length-without_first (x ∷ left) h = omega arith

-- the rest of the block at hand is passed, where its last row is below
pub block_passed : (entries : List Posting) (at : ℕ) (here : Option Posting) (more : ℕ) (bytes : List ℕ) (last end row ordinal : ℕ) → is_list entries ≡ true → IsAtEntry entries at here more bytes last end
    → HasEntry (drop at entries) → last < row → entries_from row ordinal (drop (at + 1 + more) entries) ≡ entries_from row ordinal (without_first (drop at entries))
block_passed entries at None more bytes last end row ordinal list entry some below = absurd (subst HasEntry (drop_all at entries entry) some)
block_passed entries at (Some e) more bytes last end row ordinal list entry some below =
    passed entries (at + 1) more row ordinal list (λ left. subst (λ k. k < row) (sym (entry.1.last_is left)) below)
    ∙ ap (entries_from row ordinal) (sym (ap without_first (drop_get entries at e entry.0)))

-- what a step counts it takes from the entries behind
pub step_paid : (before left : List Posting) (old new : ℕ) → HasEntry before → left ≡ without_first before → new ≡ old + first_count left → new + count_behind left ≤ old + count_behind before
step_paid before left old new some is counted =
    omega (arith, counted, counted_all left, counted_behind before some, length-without_first before some, ap length is)
