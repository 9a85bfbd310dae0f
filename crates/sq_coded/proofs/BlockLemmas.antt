-- Entries are read back from the bytes of their block.
use Rattle.std.proofs.Common.{◌≡◌, ℕ, ◌+◌, ◌-◌, ◌*◌, ◌≤◌, Bool, true, false, eqb, List, [], ◌∷◌, ◌++◌, length, take, drop, refl, sym, ap, ◌∙◌, arith, zero, suc, cond, ◌&&◌, append_assoc, length-append}
use Rattle.std.proofs.lemmas.Bool.Decides.{nat_tests}
use Rattle.std.proofs.lemmas.Bool.{and_parts}
use Rattle.sq_coded.specs.Coded.{AreWords, Follows, AllFollow, origin, comes_before, is_small, rises_behind, is_list, numbers_bytes, numbers_of, difference, later_of, bytes_behind, entries_behind, block_code}
use Rattle.sq_coded.specs.declared.posting.Posting.{Posting}
use Rattle.sq_coded.proofs.NumberLemmas.{numbers_back, AreBytes, AreBytes-append, AreBytes-numbers, length-numbers, length-packed}

Follows-from_test : (before e : Posting) → (comes_before before e) ≡ true → is_small e ≡ true → Follows before e
Follows-from_test before e p q = record {
  row = grind (arith, nat_tests);
  ordinal = λ same. grind (arith, nat_tests);
  place = λ same too. grind (arith, nat_tests);
  small_row = grind (arith, nat_tests);
  small_ordinal = grind (arith, nat_tests);
  small_place = grind (arith, nat_tests);
}

Follows-origin : (e : Posting) → is_small e ≡ true → Follows origin e
Follows-origin e q = record {
  row = omega arith;
  ordinal = λ same. omega arith;
  place = λ same too. omega arith;
  small_row = grind (arith, nat_tests);
  small_ordinal = grind (arith, nat_tests);
  small_place = grind (arith, nat_tests);
}

-- an entry can begin a block
pub Follows-first : (before e : Posting) → Follows before e → Follows origin e
Follows-first before e f = record {
  row = omega arith;
  ordinal = λ same. omega arith;
  place = λ same too. omega arith;
  small_row = f.small_row;
  small_ordinal = f.small_ordinal;
  small_place = f.small_place;
}

pub AreWords-difference : (before e : Posting) → Follows before e → AreWords (difference before e)
AreWords-difference before e f = at (eqb e.row before.row) (eqb e.ordinal before.ordinal)
  where
    at : (b c : Bool) → AreWords (cond b (cond c (record { row = 0; ordinal = 0; place = e.place - before.place }) (record { row = 0; ordinal = e.ordinal - before.ordinal; place = e.place }))
        (record { row = e.row - before.row; ordinal = e.ordinal; place = e.place }))
    at true true = record { row = omega arith; ordinal = omega arith; place = omega (arith, f.small_place) }
    at true false = record { row = omega arith; ordinal = omega (arith, f.small_ordinal); place = omega (arith, f.small_place) }
    at false c = record { row = omega (arith, f.small_row); ordinal = omega (arith, f.small_ordinal); place = omega (arith, f.small_place) }

pub difference_back : (before e : Posting) → Follows before e → later_of before (difference before e) ≡ e
difference_back before e f = at (eqb e.row before.row) refl (eqb e.ordinal before.ordinal) refl
  where
    at : (b : Bool) → eqb e.row before.row ≡ b → (c : Bool) → eqb e.ordinal before.ordinal ≡ c →
        later_of before (cond b (cond c (record { row = 0; ordinal = 0; place = e.place - before.place }) (record { row = 0; ordinal = e.ordinal - before.ordinal; place = e.place }))
        (record { row = e.row - before.row; ordinal = e.ordinal; place = e.place })) ≡ e
    at true p true q =
        let row : e.row ≡ before.row = grind (arith, nat_tests) in
        let ordinal : e.ordinal ≡ before.ordinal = grind (arith, nat_tests) in
        let place : before.place + (e.place - before.place) ≡ e.place = omega (arith, f.place row ordinal) in
        rw (place, ← row, ← ordinal) refl
    at true p false q =
        let row : e.row ≡ before.row = grind (arith, nat_tests) in
        let differ : eqb (e.ordinal - before.ordinal) 0 ≡ false = let above = f.ordinal row in grind (arith, nat_tests) in
        let ordinal : before.ordinal + (e.ordinal - before.ordinal) ≡ e.ordinal = omega (arith, f.ordinal row) in
        rw (differ, ordinal, ← row) refl
    at false p c q =
        let differ : eqb (e.row - before.row) 0 ≡ false = let above = f.row in grind (arith, nat_tests) in
        let row : before.row + (e.row - before.row) ≡ e.row = omega (arith, f.row) in
        rw (differ, row) refl

-- the entry behind another one is read from the bytes
pub entry_back : (before e : Posting) (bytes : List ℕ) → Follows before e → numbers_of (numbers_bytes (difference before e) ++ bytes) ≡ (difference before e, bytes)
entry_back before e bytes f = numbers_back (difference before e) bytes (AreWords-difference before e f)

pub entries_back : (before : Posting) (entries : List Posting) (bytes : List ℕ) → AllFollow before entries →
    entries_behind (length entries) before (bytes_behind before entries ++ bytes) ≡ entries
entries_back before [] bytes all = refl
entries_back before (e ∷ entries) bytes all =
    ap (λ (r : Posting × List ℕ). later_of before r.0 ∷ entries_behind (length entries) (later_of before r.0) r.1)
    (ap numbers_of (append_assoc (numbers_bytes (difference before e)) (bytes_behind e entries) bytes) ∙ entry_back before e (bytes_behind e entries ++ bytes) all.0)
    ∙ ap (λ (x : Posting). x ∷ entries_behind (length entries) x (bytes_behind e entries ++ bytes)) (difference_back before e all.0)
    ∙ ap (λ (more : List Posting). e ∷ more) (entries_back e entries bytes all.1)

pub AreBytes-behind : (before : Posting) (entries : List Posting) → AllFollow before entries → AreBytes (bytes_behind before entries)
AreBytes-behind before [] all = tt
AreBytes-behind before (e ∷ entries) all =
    AreBytes-append _ _ (AreBytes-numbers (difference before e) (AreWords-difference before e all.0)) (AreBytes-behind e entries all.1)

pub length-bytes_behind : (before : Posting) (entries : List Posting) → length (bytes_behind before entries) ≤ 15 * length entries
length-bytes_behind before [] = omega arith
length-bytes_behind before (e ∷ entries) =
    omega (arith, length-append (numbers_bytes (difference before e)) (bytes_behind e entries), length-numbers (difference before e), length-bytes_behind e entries)

-- a block of at most 128 entries has at most 480 words behind its first two
pub length-block_code : (entries : List Posting) → length entries ≤ 128 → length (block_code entries) ≤ 480
length-block_code entries l = omega (arith, length-packed (bytes_behind origin entries), length-bytes_behind origin entries)

pub AllFollow-first : (before : Posting) (entries : List Posting) → AllFollow before entries → AllFollow origin entries
AllFollow-first before [] all = tt
AllFollow-first before (e ∷ entries) all = (Follows-first before e all.0, all.1)

pub AllFollow-take : (n : ℕ) (before : Posting) (entries : List Posting) → AllFollow before entries → AllFollow before (take n entries)
AllFollow-take zero before entries all = tt
AllFollow-take (suc n) before [] all = tt
AllFollow-take (suc n) before (e ∷ entries) all = (all.0, AllFollow-take n e entries all.1)

pub AllFollow-drop : (n : ℕ) (before : Posting) (entries : List Posting) → AllFollow before entries → AllFollow origin (drop n entries)
AllFollow-drop zero before entries all = AllFollow-first before entries all
AllFollow-drop (suc n) before [] all = tt
AllFollow-drop (suc n) before (e ∷ entries) all = AllFollow-drop n e entries all.1

AllFollow-from_test : (before : Posting) (entries : List Posting) → rises_behind before entries ≡ true → AllFollow before entries
AllFollow-from_test before [] p = tt
AllFollow-from_test before (e ∷ entries) p =
    let parts = and_parts (comes_before before e && is_small e) (rises_behind e entries) p in
    let first = and_parts (comes_before before e) (is_small e) parts.0 in
    (Follows-from_test before e first.0 first.1, AllFollow-from_test e entries parts.1)

pub AllFollow-list : (entries : List Posting) → is_list entries ≡ true → AllFollow origin entries
AllFollow-list [] p = tt
AllFollow-list (e ∷ entries) p =
    let parts = and_parts (is_small e) (rises_behind e entries) p in
    (Follows-origin e parts.0, AllFollow-from_test e entries parts.1)

-- the numbers of a block's first entry are its own
difference-origin : (e : Posting) → difference origin e ≡ e
difference-origin e = at (eqb e.row 0) refl (eqb e.ordinal 0) refl
  where
    at : (b : Bool) → eqb e.row 0 ≡ b → (c : Bool) → eqb e.ordinal 0 ≡ c →
        (cond b (cond c (record { row = 0; ordinal = 0; place = e.place - 0 }) (record { row = 0; ordinal = e.ordinal - 0; place = e.place }))
        (record { row = e.row - 0; ordinal = e.ordinal; place = e.place })) ≡ e
    at true p true q =
        let row : e.row ≡ 0 = grind (arith, nat_tests) in
        let ordinal : e.ordinal ≡ 0 = grind (arith, nat_tests) in
        let place : e.place - 0 ≡ e.place = omega arith in
        ap (λ n. let d : Posting = record { row = 0; ordinal = 0; place = n } in d) place
        ∙ ap (λ n. let d : Posting = record { row = n; ordinal = 0; place = e.place } in d) (sym row)
        ∙ ap (λ n. let d : Posting = record { row = e.row; ordinal = n; place = e.place } in d) (sym ordinal)
    at true p false q =
        let row : e.row ≡ 0 = grind (arith, nat_tests) in
        let ordinal : e.ordinal - 0 ≡ e.ordinal = omega arith in
        ap (λ n. let d : Posting = record { row = 0; ordinal = n; place = e.place } in d) ordinal
        ∙ ap (λ n. let d : Posting = record { row = n; ordinal = e.ordinal; place = e.place } in d) (sym row)
    at false p c q = let row : e.row - 0 ≡ e.row = omega arith in rw row refl
