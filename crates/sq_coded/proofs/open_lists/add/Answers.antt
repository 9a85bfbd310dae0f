use Rattle.std.proofs.Common.{◌≡◌, true, ◌++◌, ◌∷◌, [], length, ap, sym, ◌∙◌, subst, arith, rules}
use Rattle.std.proofs.lemmas.Bool.Decides.{nat_tests}
use Rattle.std.proofs.lemmas.List.{append-nil}
use Rattle.sq_pool.specs.Pool.{words_of}
use Rattle.sq_coded.specs.Coded.{decoded, is_list}
use Rattle.sq_coded.specs.Kept.{postings_of, IsOpen}
use Rattle.sq_coded.proofs.CodedLemmas.{decoded-coded}
use Rattle.sq_coded.proofs.OpenLemmas.{IsOpen-coded, length-full}
use Rattle.sq_coded.proofs.open_lists.add.Goals as goal

pub returns-in_err-push-clause-kept : goal.returns-in_err-push-clause-kept
returns-in_err-push-clause-kept c =
    let all = postings_of c.args.pool.now c.args.chain.now ++ c.args.block.now in
    let full : length c.args.block.now ≡ 128 = grind (arith, nat_tests, c.if-is_full.ensures.value, c.if-is_full.ensures.most) in
    subst (IsOpen (words_of c.flush.new.pool c.args.chain.now)) (sym (c.in_err-push.ensures.err ∙ c.in_ok-flush.ensures.block))
    (IsOpen-coded _ all [] c.in_ok-flush.ensures.words (length-full _ _ c.requires.kept.whole full) (subst (λ xs. is_list xs ≡ true) (sym (append-nil all)) c.requires.kept.list))

pub returns-in_err-push-clause-err : goal.returns-in_err-push-clause-err
returns-in_err-push-clause-err c =
    let all = postings_of c.args.pool.now c.args.chain.now ++ c.args.block.now in
    let back : postings_of c.flush.new.pool c.args.chain.now ≡ all = ap decoded c.in_ok-flush.ensures.words ∙ decoded-coded all c.requires.kept.list in
    let same : postings_of c.flush.new.pool c.args.chain.now ++ c.push.new.self ≡ all =
    ap (λ block. postings_of c.flush.new.pool c.args.chain.now ++ block) (c.in_err-push.ensures.err ∙ c.in_ok-flush.ensures.block)
    ∙ append-nil (postings_of c.flush.new.pool c.args.chain.now) ∙ back in
    search (rules, same)

pub returns-then-is_full-clause-kept : goal.returns-then-is_full-clause-kept
returns-then-is_full-clause-kept c =
    let all = postings_of c.args.pool.now c.args.chain.now ++ c.args.block.now in
    let full : length c.args.block.now ≡ 128 = grind (arith, nat_tests, c.if-is_full.ensures.value, c.if-is_full.ensures.most) in
    subst (IsOpen (words_of c.flush.new.pool c.args.chain.now))
    (sym (c.in_ok-push.ensures.ok ∙ ap (λ block. block ++ c.args.posting ∷ []) c.in_ok-flush.ensures.block))
    (IsOpen-coded _ all (c.args.posting ∷ []) c.in_ok-flush.ensures.words (length-full _ _ c.requires.kept.whole full) c.requires.list)

pub returns-then-is_full-clause-ok : goal.returns-then-is_full-clause-ok
returns-then-is_full-clause-ok c =
    let all = postings_of c.args.pool.now c.args.chain.now ++ c.args.block.now in
    let back : postings_of c.flush.new.pool c.args.chain.now ≡ all = ap decoded c.in_ok-flush.ensures.words ∙ decoded-coded all c.requires.kept.list in
    ap (λ block. postings_of c.flush.new.pool c.args.chain.now ++ block) (c.in_ok-push.ensures.ok ∙ ap (λ block. block ++ c.args.posting ∷ []) c.in_ok-flush.ensures.block)
    ∙ ap (λ entries. entries ++ c.args.posting ∷ []) back
