use Rattle.std.proofs.Common.{◌≡◌, ◌<◌, true, ◌++◌, ◌∷◌, [], length, get_or, set, ap, sym, ◌∙◌, subst, arith, rules}
use Rattle.std.proofs.lemmas.List.{get_or_default, set-get_or}
use Rattle.sq_pool.specs.Pool.{IsLive, words_of}
use Rattle.sq_coded.specs.Coded.{is_list, is_small, may_follow}
use Rattle.sq_coded.specs.Kept.{IsOpen, postings_of, lists_of}
use Rattle.sq_coded.proofs.OpenLemmas.{length-lists_of, list_there, is_list-push, AreOpen-pushed, lists_of-pushed}
use Rattle.sq_coded.proofs.open_lists.OpenLists.push.Goals as goal

pub index_mut-requires : goal.index_mut-requires
index_mut-requires c =
    let inside = c.self.inside in
    omega (arith, c.requires.list, inside.chains.ok.0, ap length c.self.view_is, length-lists_of inside.pool inside.chains.items inside.blocks.items)

pub index_mut-requires-2 : goal.index_mut-requires-2
index_mut-requires-2 c =
    let inside = c.self.inside in
    omega (arith, c.requires.list, inside.blocks.ok.0, c.self.invariant.enough, ap length c.self.view_is, length-lists_of inside.pool inside.chains.items inside.blocks.items)

pub add-requires-clause-live : goal.add-requires-clause-live
add-requires-clause-live c =
    let inside = c.self.inside in
    let below : c.args.list < length inside.chains.items = omega (arith, c.requires.list, ap length c.self.view_is, length-lists_of inside.pool inside.chains.items inside.blocks.items) in
    let is = c.index_mut.ensures.value ∙ get_or_default inside.chains.items c.args.list c.index_mut.result.now 0 below in
    subst (IsLive inside.pool) (sym is) (c.self.invariant.ready.live c.args.list below)

pub add-requires-clause-kept : goal.add-requires-clause-kept
add-requires-clause-kept c =
    let inside = c.self.inside in
    let below : c.args.list < length inside.chains.items = omega (arith, c.requires.list, ap length c.self.view_is, length-lists_of inside.pool inside.chains.items inside.blocks.items) in
    let is = c.index_mut.ensures.value ∙ get_or_default inside.chains.items c.args.list c.index_mut.result.now 0 below in
    let there = c.index_mut-2.ensures.value ∙ get_or_default inside.blocks.items c.args.list c.index_mut-2.result.now [] (omega (arith, below, c.self.invariant.enough)) in
    subst (λ n. IsOpen (words_of inside.pool n) c.index_mut-2.result.now) (sym is)
    (subst (IsOpen (words_of inside.pool (get_or inside.chains.items c.args.list 0))) (sym there) (c.self.invariant.kept c.args.list below))

pub add-requires-clause-list : goal.add-requires-clause-list
add-requires-clause-list c =
    let inside = c.self.inside in
    let below : c.args.list < length inside.chains.items = omega (arith, c.requires.list, ap length c.self.view_is, length-lists_of inside.pool inside.chains.items inside.blocks.items) in
    let is = c.index_mut.ensures.value ∙ get_or_default inside.chains.items c.args.list c.index_mut.result.now 0 below in
    let there = c.index_mut-2.ensures.value ∙ get_or_default inside.blocks.items c.args.list c.index_mut-2.result.now [] (omega (arith, below, c.self.invariant.enough)) in
    let list : postings_of inside.pool c.index_mut.result.now ++ c.index_mut-2.result.now ≡ get_or c.args.self.now c.args.list [] =
    list_there inside.pool inside.chains.items inside.blocks.items c.args.list _ _ below is there ∙ ap (λ lists. get_or lists c.args.list []) c.self.view_is in
    let kept : is_list (postings_of inside.pool c.index_mut.result.now ++ c.index_mut-2.result.now) ≡ true =
    subst (λ n. is_list (postings_of inside.pool n ++ c.index_mut-2.result.now) ≡ true) (sym is)
    (subst (λ block. is_list (postings_of inside.pool (get_or inside.chains.items c.args.list 0) ++ block) ≡ true) (sym there) (c.self.invariant.kept c.args.list below).list) in
    let small : is_small c.args.posting ≡ true = search rules in
    is_list-push (postings_of inside.pool c.index_mut.result.now ++ c.index_mut-2.result.now) c.args.posting kept
    (subst (λ xs. may_follow xs c.args.posting ≡ true) (sym list) c.requires.order) small

pub invariant_of-self : goal.invariant_of-self
invariant_of-self c =
    let inside = c.self.inside in
    let below : c.args.list < length inside.chains.items = omega (arith, c.requires.list, ap length c.self.view_is, length-lists_of inside.pool inside.chains.items inside.blocks.items) in
    let is = c.index_mut.ensures.value ∙ get_or_default inside.chains.items c.args.list c.index_mut.result.now 0 below in
    AreOpen-pushed inside.pool c.add.new.pool inside.chains.items inside.blocks.items c.args.list c.index_mut.result.now c.add.new.chain c.add.new.block c.self.invariant below is
    c.in_err-add.ensures.chain c.in_err-add.ensures.live c.in_err-add.ensures.others c.in_err-add.ensures.kept

pub invariant_of-self-2 : goal.invariant_of-self-2
invariant_of-self-2 c =
    let inside = c.self.inside in
    let below : c.args.list < length inside.chains.items = omega (arith, c.requires.list, ap length c.self.view_is, length-lists_of inside.pool inside.chains.items inside.blocks.items) in
    let is = c.index_mut.ensures.value ∙ get_or_default inside.chains.items c.args.list c.index_mut.result.now 0 below in
    AreOpen-pushed inside.pool c.add.new.pool inside.chains.items inside.blocks.items c.args.list c.index_mut.result.now c.add.new.chain c.add.new.block c.self.invariant below is
    c.in_ok-add.ensures.chain c.in_ok-add.ensures.live c.in_ok-add.ensures.others c.in_ok-add.ensures.kept

pub returns-in_err-add-clause-err : goal.returns-in_err-add-clause-err
returns-in_err-add-clause-err c =
    let inside = c.self.inside in
    let below : c.args.list < length inside.chains.items = omega (arith, c.requires.list, ap length c.self.view_is, length-lists_of inside.pool inside.chains.items inside.blocks.items) in
    let is = c.index_mut.ensures.value ∙ get_or_default inside.chains.items c.args.list c.index_mut.result.now 0 below in
    let there = c.index_mut-2.ensures.value ∙ get_or_default inside.blocks.items c.args.list c.index_mut-2.result.now [] (omega (arith, below, c.self.invariant.enough)) in
    let same : lists_of c.add.new.pool (set inside.chains.items c.args.list c.add.new.chain) (set inside.blocks.items c.args.list c.add.new.block) ≡ c.args.self.now =
    lists_of-pushed inside.pool c.add.new.pool inside.chains.items inside.blocks.items c.args.list c.index_mut.result.now c.add.new.chain c.add.new.block c.self.invariant below is
    c.in_err-add.ensures.chain c.in_err-add.ensures.others
    ∙ ap (set (lists_of inside.pool inside.chains.items inside.blocks.items) c.args.list)
    (c.in_err-add.ensures.err ∙ list_there inside.pool inside.chains.items inside.blocks.items c.args.list _ _ below is there)
    ∙ set-get_or (lists_of inside.pool inside.chains.items inside.blocks.items) c.args.list [] ∙ c.self.view_is in
    search (rules, same)

pub returns-clause-ok : goal.returns-clause-ok
returns-clause-ok c =
    let inside = c.self.inside in
    let below : c.args.list < length inside.chains.items = omega (arith, c.requires.list, ap length c.self.view_is, length-lists_of inside.pool inside.chains.items inside.blocks.items) in
    let is = c.index_mut.ensures.value ∙ get_or_default inside.chains.items c.args.list c.index_mut.result.now 0 below in
    let there = c.index_mut-2.ensures.value ∙ get_or_default inside.blocks.items c.args.list c.index_mut-2.result.now [] (omega (arith, below, c.self.invariant.enough)) in
    lists_of-pushed inside.pool c.add.new.pool inside.chains.items inside.blocks.items c.args.list c.index_mut.result.now c.add.new.chain c.add.new.block c.self.invariant below is
    c.in_ok-add.ensures.chain c.in_ok-add.ensures.others
    ∙ ap (set (lists_of inside.pool inside.chains.items inside.blocks.items) c.args.list)
    (c.in_ok-add.ensures.ok ∙ ap (λ xs. xs ++ c.args.posting ∷ []) (list_there inside.pool inside.chains.items inside.blocks.items c.args.list _ _ below is there))
    ∙ ap (λ lists. set lists c.args.list (get_or lists c.args.list [] ++ c.args.posting ∷ [])) c.self.view_is
