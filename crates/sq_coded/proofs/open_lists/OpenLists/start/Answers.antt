use Rattle.std.proofs.Common.{◌≡◌, ◌<◌, ◌++◌, ◌∷◌, [], length, ap, sym, ◌∙◌, subst, arith, rules}
use Rattle.sq_coded.specs.Kept.{lists_of, AreOpen}
use Rattle.sq_coded.proofs.StartLemmas.{AreOpen-blocks, lists_of-blocks, lists_of-others, AreOpen-started, lists_of-started}
use Rattle.sq_coded.proofs.open_lists.OpenLists.start.Goals as goal

pub returns-in_err-prepare-clause-err : goal.returns-in_err-prepare-clause-err
returns-in_err-prepare-clause-err c =
    let s = c.self.inside in
    let same : lists_of s.pool s.chains.items c.prepare.new.blocks.items ≡ c.args.self.now =
    lists_of-blocks s.pool s.chains.items s.blocks.items c.prepare.new.blocks.items c.in_err-prepare.ensures.same ∙ c.self.view_is in
    search (rules, same)

pub returns-in_err-chain-clause-err : goal.returns-in_err-chain-clause-err
returns-in_err-chain-clause-err c =
    let s = c.self.inside in
    let same : lists_of c.chain.new.self s.chains.items c.prepare.new.blocks.items ≡ c.args.self.now =
    ap (λ pool. lists_of pool s.chains.items c.prepare.new.blocks.items) c.in_err-chain.ensures.err
    ∙ lists_of-blocks s.pool s.chains.items s.blocks.items c.prepare.new.blocks.items c.in_ok-prepare.ensures.same ∙ c.self.view_is in
    search (rules, same)

pub returns-in_err-push-clause-err : goal.returns-in_err-push-clause-err
returns-in_err-push-clause-err c =
    let s = c.self.inside in
    let blocks = c.prepare.new.blocks.items in
    let lists = AreOpen-blocks s.pool s.chains.items s.blocks.items blocks c.self.invariant c.in_ok-prepare.ensures.longer c.in_ok-prepare.ensures.same in
    let same : lists_of c.chain.new.self c.push.new.self.items blocks ≡ c.args.self.now =
    ap (λ chains. lists_of c.chain.new.self chains blocks) c.in_err-push.ensures.items
    ∙ lists_of-others s.pool c.chain.new.self s.chains.items blocks c.in_ok-chain.chain lists c.in_ok-chain.ensures.fresh c.in_ok-chain.ensures.others
    ∙ lists_of-blocks s.pool s.chains.items s.blocks.items blocks c.in_ok-prepare.ensures.same ∙ c.self.view_is in
    search (rules, same)

pub invariant_of-self-2 : goal.invariant_of-self-2
invariant_of-self-2 c =
    let s = c.self.inside in
    let blocks = c.prepare.new.blocks.items in
    let lists = AreOpen-blocks s.pool s.chains.items s.blocks.items blocks c.self.invariant c.in_ok-prepare.ensures.longer c.in_ok-prepare.ensures.same in
    let room : length s.chains.items < length blocks = omega (arith, c.in_ok-prepare.ensures.ok, c.len.ensures, s.chains.ok.0) in
    subst (λ chains. AreOpen c.chain.new.self chains blocks) (sym c.in_ok-push.ensures.items)
    (AreOpen-started s.pool c.chain.new.self s.chains.items blocks c.in_ok-chain.chain lists room c.in_ok-chain.ensures.fresh c.in_ok-chain.ensures.ok c.in_ok-chain.ensures.others)

pub returns-clause-ok : goal.returns-clause-ok
returns-clause-ok c =
    let s = c.self.inside in
    let blocks = c.prepare.new.blocks.items in
    let lists = AreOpen-blocks s.pool s.chains.items s.blocks.items blocks c.self.invariant c.in_ok-prepare.ensures.longer c.in_ok-prepare.ensures.same in
    ap (λ chains. lists_of c.chain.new.self chains blocks) c.in_ok-push.ensures.items
    ∙ lists_of-started s.pool c.chain.new.self s.chains.items blocks c.in_ok-chain.chain lists c.in_ok-chain.ensures.fresh c.in_ok-chain.ensures.ok c.in_ok-chain.ensures.others
    ∙ ap (λ ls. ls ++ [] ∷ []) (lists_of-blocks s.pool s.chains.items s.blocks.items blocks c.in_ok-prepare.ensures.same ∙ c.self.view_is)
