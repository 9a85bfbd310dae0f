use Rattle.std.proofs.Common.{◌≡◌, ℤ, false, int_lt, rules, arith}
use Rattle.std.proofs.lemmas.Int.{ints}
use Rattle.std.proofs.lemmas.List.Sorted.{answers_always}
use Rattle.std.specs.Cmp.{IsStrictWeakOrder}
use Rattle.sq_base.proofs.SortingLemmas.{in_order-sorted}
use Rattle.sq_build.proofs.numbers.sort.Goals as goal

int_lt-order : IsStrictWeakOrder int_lt
int_lt-order = record {
  one_way = λ x y first. grind (arith, ints, first);
  chain = λ x y z one two. grind (arith, ints, one, two);
}

same_int : (x y : ℤ) → int_lt x y ≡ false → int_lt y x ≡ false → x ≡ y
same_int x y one two = grind (arith, ints, one, two)

pub returns : goal.returns
returns c = in_order-sorted int_lt int_lt-order same_int _ _ c.sort_unstable_by.ensures.permutation
    (c.sort_unstable_by.ensures.sorted int_lt int_lt-order (answers_always _ _ _ (λ f a r g h. search rules)))
