use Rattle.std.proofs.Common.{rules, ◌≤◌, ◌<◌, ◌^◌, length, get_or, arith}
use Rattle.std.proofs.lemmas.Bool.Decides.{nat_tests}
use Rattle.sq_run.proofs.CountLemmas.{number_read, nothing_read}
use Rattle.sq_run.proofs.command.count_to.Goals as goal

pub returns-in-Ok-clause-value : goal.returns-in-Ok-clause-value
returns-in-Ok-clause-value c =
    let some : 1 ≤ length c.args.word.now = search rules in
    let low : 49 ≤ get_or c.args.word.now 0 0 = search (rules, arith, nat_tests) in
    let high : get_or c.args.word.now 0 0 ≤ 57 = search (rules, arith, nat_tests) in
    (number_read c.args.most c.args.word.now c.in-Ok.count _ some low high c.in-Ok.is c.parse.ensures.value.0 (search rules)).0

pub returns-in-Ok-clause-bounds : goal.returns-in-Ok-clause-bounds
returns-in-Ok-clause-bounds c =
    let some : 1 ≤ length c.args.word.now = search rules in
    let low : 49 ≤ get_or c.args.word.now 0 0 = search (rules, arith, nat_tests) in
    let high : get_or c.args.word.now 0 0 ≤ 57 = search (rules, arith, nat_tests) in
    let few : c.in-Ok.count ≤ c.args.most = search rules in
    ((number_read c.args.most c.args.word.now c.in-Ok.count _ some low high c.in-Ok.is c.parse.ensures.value.0 few).1, few)

pub returns-in_default-parse-2-clause-value : goal.returns-in_default-parse-2-clause-value
returns-in_default-parse-2-clause-value c =
    let some : 1 ≤ length c.args.word.now = search rules in
    let low : 49 ≤ get_or c.args.word.now 0 0 = search (rules, arith, nat_tests) in
    let high : get_or c.args.word.now 0 0 ≤ 57 = search (rules, arith, nat_tests) in
    let fits : c.args.most < 2 ^ 32 = search rules in
    nothing_read c.args.most c.args.word.now c.in_default-parse.field-0 _ some low high c.in_default-parse.is c.parse.ensures.value.0 fits
