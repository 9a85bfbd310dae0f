-- The items of a rehearsal are items of its properties, and few bytes long.
use Rattle.std.proofs.Common.{arith, ◌≡◌, ℕ, ◌+◌, ◌*◌, ◌%◌, ◌<◌, ◌^◌, ◌≤◌, ◌++◌, Bool, true, false, nat_le, pos, int_le, [], ◌∷◌, length, refl}
use Rattle.std.specs.Prelude.{codes, decimal, sum_by, flat_map, ◌==◌, if◌then◌else◌}
use Rattle.std.specs.List.{list_all, range_with_len}
use Rattle.std.proofs.lemmas.Int.{ints}
use Rattle.sq_schema.specs.Bounds.{is_from_to, is_integer_value, least_number, greatest_number}
use Rattle.sq_model.specs.Limits.{least_rank, greatest_rank, greatest_item_number}
use Rattle.sq_model.specs.Valid.{is_text, is_claim_list, is_value, is_item, has_few, item_bytes}
use Rattle.sq_rehearsal.specs.Rehearsal.{properties, word, body_word, opening, body, title, allow, deny, values, item}
use Rattle.sq_rehearsal.proofs.PlainLemmas.{both, below, Plain, letters, plain_append, plain_each, plain_decimal, plain_text}
use Rattle.sq_rehearsal.proofs.SchemaLemmas.{staff, board, temp}

remainder : (n m : ℕ) → 0 < m → n % m < m
remainder n m some = grind arith

plain_word : (most n : ℕ) → 0 < most → n < 10 ^ most → n < 2 ^ 64 → Plain (word n) (1 + most)
plain_word most n some fits small = plain_append (codes "w") (decimal n) 1 most (letters (codes "w") 1 refl (omega arith)) (plain_decimal most n some fits small)

plain_body_word : (i j : ℕ) → Plain (body_word i j) 3
plain_body_word i j = let low = remainder (i * (j + 1) + j * j) 50 (omega arith) in plain_word 2 ((i * (j + 1) + j * j) % 50) (omega arith) (omega (arith, low)) (omega (arith, low))

plain_further : (i j : ℕ) → Plain (codes " " ++ body_word i j) 4
plain_further i j = plain_append (codes " ") (body_word i j) 1 3 (letters (codes " ") 1 refl (omega arith)) (plain_body_word i j)

plain_body : (i : ℕ) → Plain (body i) 79
unfolding opening
plain_body i = plain_append (body_word i 0) (flat_map (λ j. codes " " ++ body_word i j) (range_with_len 1 19)) 3 76 (plain_body_word i 0)
    (plain_each (λ j. codes " " ++ body_word i j) 4 (plain_further i) (range_with_len 1 19) 76 refl)

plain_title : (i : ℕ) → Plain (title i) 7
plain_title i =
    let low = remainder i 7 (omega arith) in
    plain_append (codes "note ") (word (i % 7)) 5 2 (letters (codes "note ") 5 refl (omega arith)) (plain_word 1 (i % 7) (omega arith) (omega (arith, low)) (omega (arith, low)))

plain_url : (i : ℕ) → i ≤ 2000 → Plain (codes "u" ++ decimal i) 5
plain_url i few = plain_append (codes "u") (decimal i) 1 4 (letters (codes "u") 1 refl (omega arith)) (plain_decimal 4 i (omega arith) (omega (arith, few)) (omega (arith, few)))

-- what stands in the access lists
allow_good : (third : Bool) → is_claim_list ((if third then codes "board" else codes "staff") ∷ []) ≡ true
allow_good true = rw board refl
allow_good false = rw staff refl

deny_good : (tenth : Bool) → is_claim_list (if tenth then codes "temp" ∷ [] else []) ≡ true
deny_good true = rw temp refl
deny_good false = refl

allow_short : (third : Bool) → sum_by length ((if third then codes "board" else codes "staff") ∷ []) ≤ 5
allow_short true = omega arith
allow_short false = omega arith

deny_short : (tenth : Bool) → sum_by length (if tenth then codes "temp" ∷ [] else []) ≤ 4
deny_short true = omega arith
deny_short false = omega arith

rank_good : (n : ℕ) → n < 101 → is_from_to least_rank greatest_rank (pos n) ≡ true
rank_good n h = both (int_le least_rank (pos n)) (int_le (pos n) greatest_rank) (grind (arith, ints)) (grind (arith, ints, h))

size_good : (n : ℕ) → n < 13 → is_integer_value (pos n) ≡ true
size_good n h = both (int_le least_number (pos n)) (int_le (pos n) greatest_number) (grind (arith, ints)) (grind (arith, ints, h))

values_good : (i : ℕ) → list_all (is_value properties) (values i) ≡ true
values_good i = both (is_text (title i)) _ (plain_text (title i) 7 (plain_title i) (omega arith))
    (both (is_text (body i)) _ (plain_text (body i) 79 (plain_body i) (omega arith))
    (both (is_integer_value (pos (i % 13))) true (size_good (i % 13) (remainder i 13 (omega arith))) refl))

few_values : (i : ℕ) → has_few (values i) 0 properties ≡ true
few_values i = refl

pub item_good : (i : ℕ) → 1 ≤ i → i ≤ 2000 → is_item properties (item i) ≡ true
item_good i some few =
    both _ (has_few (values i) 0 properties)
    (both _ (list_all (is_value properties) (values i))
    (both _ (is_claim_list (deny i))
    (both _ (is_claim_list (allow i))
    (both _ (is_text (codes "u" ++ decimal i))
    (both _ (is_from_to least_rank greatest_rank (pos ((i * 37) % 101)))
    (both (nat_le 1 i) (nat_le i greatest_item_number) (below 1 i some) (below i greatest_item_number (omega (arith, few))))
    (rank_good ((i * 37) % 101) (remainder (i * 37) 101 (omega arith))))
    (plain_text (codes "u" ++ decimal i) 5 (plain_url i few) (omega arith)))
    (allow_good (i % 3 == 0)))
    (deny_good (i % 10 == 0)))
    (values_good i))
    (few_values i)

pub item_short : (i : ℕ) → i ≤ 2000 → item_bytes (item i) ≤ 100
item_short i few = omega (arith, (plain_url i few).short, allow_short (i % 3 == 0), deny_short (i % 10 == 0), (plain_title i).short, (plain_body i).short)
