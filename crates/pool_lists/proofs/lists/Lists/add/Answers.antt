use Rattle.std.proofs.Common.{◌≡◌, ◌≢◌, ◌∙◌, ℕ, ◌<◌, ◌++◌, ◌∷◌, [], Option, None, length, get_or, map, ap, subst}
use Rattle.std.proofs.lemmas.List.{map-append}
use Rattle.std.specs.Prelude.{unwrap_or, IsSome}
use Rattle.sq_pool.specs.Pool.{Held, chain_at, words_of}
use Rattle.pool_lists.proofs.MapLemmas.{map_same, words_stay}
use Rattle.pool_lists.proofs.lists.Lists.add.Goals as goal
use Rattle.pool_lists.proofs.lists.Lists.add.Goals.{In_ok-push}

-- the new chain is none of those that are live
other_chain : (c : In_ok-push) (i : ℕ) → i < length c.self.inside.chains.items → get_or c.self.inside.chains.items i 0 ≢ c.in_ok-chain.chain
other_chain c i less same =
    let live : IsSome (chain_at c.self.inside.pool c.in_ok-chain.chain) = subst (λ n. IsSome (chain_at c.self.inside.pool n)) same (c.self.invariant.live i less) in
    let none : chain_at c.self.inside.pool c.in_ok-chain.chain ≡ None = c.in_ok-chain.ensures.fresh in
    let no : IsSome {T = Held} None = subst IsSome none live in
    cc

pub returns-clause-ok : goal.returns-clause-ok
returns-clause-ok c =
    let lists : map (words_of c.chain.new.self) c.self.inside.chains.items ≡ map (words_of c.self.inside.pool) c.self.inside.chains.items =
    map_same (words_of c.chain.new.self) (words_of c.self.inside.pool) c.self.inside.chains.items
    (λ i less. words_stay c.self.inside.pool c.chain.new.self _ (c.in_ok-chain.ensures.others _ (other_chain c i less))) in
    let empty : words_of c.chain.new.self c.in_ok-chain.chain ≡ [] =
    ap (λ (slot : Option Held). (unwrap_or {T = Held} slot (record { words = []; slices = [] })).words) c.in_ok-chain.ensures.ok in
    ap (map (words_of c.chain.new.self)) c.in_ok-push.ensures.items
    ∙ map-append (words_of c.chain.new.self) c.self.inside.chains.items (c.in_ok-chain.chain ∷ [])
    ∙ ap (λ words. map (words_of c.chain.new.self) c.self.inside.chains.items ++ words ∷ []) empty
    ∙ ap (λ lists. lists ++ [] ∷ []) (lists ∙ c.self.view_is)
