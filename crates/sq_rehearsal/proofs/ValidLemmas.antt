-- The corpus of a rehearsal is valid.
use Rattle.std.proofs.Common.{arith, ◌≡◌, ℕ, zero, suc, ◌+◌, ◌*◌, ◌≤◌, nat_lt, true, map, refl}
use Rattle.std.specs.Prelude.{sum_by}
use Rattle.std.specs.List.{list_all, range_with_len}
use Rattle.std.proofs.lemmas.List.FromFn.{length-map-range_with_len}
use Rattle.std.proofs.lemmas.List.Sums.{sum_by-cons}
use Rattle.sq_model.specs.Valid.{IsValid, is_item, are_rising, item_bytes}
use Rattle.sq_rehearsal.specs.Rehearsal.{properties, item, rehearsal}
use Rattle.sq_rehearsal.proofs.PlainLemmas.{both, under}
use Rattle.sq_rehearsal.proofs.SchemaLemmas.{is_schema, are_callers, names_differ}
use Rattle.sq_rehearsal.proofs.ItemLemmas.{item_good, item_short}

items_good : (first count : ℕ) → 1 ≤ first → first + count ≤ 2001 → list_all (is_item properties) (map item (range_with_len first count)) ≡ true
items_good first zero some few = refl
items_good first (suc count) some few =
    both (is_item properties (item first)) (list_all (is_item properties) (map item (range_with_len (first + 1) count)))
    (item_good first some (omega (arith, few))) (items_good (first + 1) count (omega arith) (omega (arith, few)))

rising : (first count : ℕ) → are_rising (map (λ made. made.number) (map item (range_with_len first count))) ≡ true
rising first zero = refl
rising first (suc zero) = refl
rising first (suc (suc count)) =
    both (nat_lt first (first + 1)) (are_rising (map (λ made. made.number) (map item (range_with_len (first + 1) (suc count)))))
    (under first (first + 1) (omega arith)) (rising (first + 1) (suc count))

bytes : (first count : ℕ) → first + count ≤ 2001 → sum_by item_bytes (map item (range_with_len first count)) ≤ count * 100
bytes first zero few = omega arith
bytes first (suc count) few =
    omega (arith, sum_by-cons item_bytes (item first) (map item (range_with_len (first + 1) count)), item_short first (omega (arith, few)), bytes (first + 1) count (omega (arith, few)))

pub rehearsal_is_valid : (count : ℕ) → count ≤ 2000 → IsValid (rehearsal count)
unfolding rehearsal
rehearsal_is_valid count few = record {
  schema = is_schema;
  few_callers = omega arith;
  callers = are_callers;
  names = names_differ;
  few_items = omega (arith, few, length-map-range_with_len item 1 count);
  items = items_good 1 count (omega arith) (omega (arith, few));
  numbers = rising 1 count;
  bytes = omega (arith, few, bytes 1 count (omega (arith, few)));
}
