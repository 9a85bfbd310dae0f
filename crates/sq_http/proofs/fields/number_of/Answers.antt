use Rattle.std.proofs.Common.{rules, ◌≡◌, get_or, sym, arith}
use Rattle.std.specs.Char.{is_ascii_digit, digit_value}
use Rattle.std.proofs.lemmas.Bool.Decides.{nat_tests}
use Rattle.std.proofs.lemmas.Int.Digits.{digits_value_more}
use Rattle.sq_http.proofs.DigitsLemmas.{few_digits, list_all_more}
use Rattle.sq_http.proofs.fields.number_of.Goals as goal

pub overflow_mul-number : goal.overflow_mul-number
overflow_mul-number c = omega (arith, c.loop-b.invariant.0, few_digits c.args.value.now c.loop-b.b-index c.loop-b-test.true (search rules) c.loop-b.invariant.1)

pub overflow_add-number : goal.overflow_add-number
overflow_add-number c =
    let digit : digit_value (get_or c.args.value.now c.loop-b.b-index 0) ≡ c.from.result = grind (arith, nat_tests) in
    omega (arith, c.loop-b.invariant.0, few_digits c.args.value.now c.loop-b.b-index c.loop-b-test.true (search rules) c.loop-b.invariant.1, digit)

pub loop-b-preserved : goal.loop-b-preserved
loop-b-preserved c =
    let digit : digit_value (get_or c.args.value.now c.loop-b.b-index 0) ≡ c.from.result = grind (arith, nat_tests) in (
      omega (arith, digits_value_more 10 c.args.value.now _ c.loop-b-test.true, c.loop-b.invariant.0, digit),
      list_all_more is_ascii_digit _ _ 0 c.loop-b-test.true c.loop-b.invariant.1 (sym c.if-not-is_ascii_digit.ensures.value),
    )
