use Rattle.std.proofs.Common.{◌≡◌, ◌<◌, ◌++◌, [], length, take, ap, sym, ◌∙◌, arith, append_assoc}
use Rattle.std.proofs.lemmas.Bool.Decides.{nat_tests}
use Rattle.std.proofs.lemmas.List.{append-nil, nil_from_length}
use Rattle.sq_coded.specs.Coded.{block_words, coded, decoded}
use Rattle.sq_coded.proofs.CodedLemmas.{coded_none, coded_front, decoded-coded, same_from_coded}
use Rattle.sq_coded.proofs.code.coded.Goals as goal

pub loop-rest-preserved : goal.loop-rest-preserved
loop-rest-preserved c =
    let rest = c.loop-rest.rest.now in
    let some : 0 < length rest = grind (arith, nat_tests, c.loop-rest-test.ensures) in
    let front = coded_front rest c.min.result some c.min.ensures in
    let block : c.deref.result.now ≡ block_words (take c.min.result rest) = c.deref.ensures.value ∙ c.in_ok-next.ensures ∙ ap block_words c.split_at.ensures.front in
    ap (λ words. words ++ coded c.split_at.result.1.now) (c.in_ok-extend_from_slice.ensures.items ∙ ap (λ words. c.loop-rest.words.items ++ words) block)
    ∙ append_assoc c.loop-rest.words.items _ _
    ∙ ap (λ words. c.loop-rest.words.items ++ words) (ap (λ more. block_words (take c.min.result rest) ++ coded more) c.split_at.ensures.back ∙ sym front)
    ∙ c.loop-rest.invariant

pub returns-clause-words : goal.returns-clause-words
returns-clause-words c =
    let none : c.loop-rest.rest.now ≡ [] = nil_from_length c.loop-rest.rest.now (grind (arith, nat_tests, c.loop-rest-test.ensures)) in
    sym (append-nil c.loop-rest.words.items) ∙ ap (λ words. c.loop-rest.words.items ++ words) (sym (ap coded none ∙ coded_none)) ∙ c.loop-rest.invariant

pub returns-clause-back : goal.returns-clause-back
returns-clause-back c =
    let none : c.loop-rest.rest.now ≡ [] = nil_from_length c.loop-rest.rest.now (grind (arith, nat_tests, c.loop-rest-test.ensures)) in
    let words : c.loop-rest.words.items ≡ coded c.args.entries.now =
    sym (append-nil c.loop-rest.words.items) ∙ ap (λ words. c.loop-rest.words.items ++ words) (sym (ap coded none ∙ coded_none)) ∙ c.loop-rest.invariant in
    ap decoded words ∙ decoded-coded c.args.entries.now c.requires

pub returns-clause-only : goal.returns-clause-only
returns-clause-only c =
    let none : c.loop-rest.rest.now ≡ [] = nil_from_length c.loop-rest.rest.now (grind (arith, nat_tests, c.loop-rest-test.ensures)) in
    let words : c.loop-rest.words.items ≡ coded c.args.entries.now =
    sym (append-nil c.loop-rest.words.items) ∙ ap (λ words. c.loop-rest.words.items ++ words) (sym (ap coded none ∙ coded_none)) ∙ c.loop-rest.invariant in
    λ other list same. same_from_coded other c.args.entries.now list c.requires (sym same ∙ words)
