use Rattle.std.proofs.Common.{rules, ◌≡◌, ◌≤◌, [], ◌∷◌, ◌++◌, length, sym, subst}
use Rattle.sq_collect.specs.Best.{IsEnough}
use Rattle.sq_collect.proofs.PageLemmas.{enough_more, enough_cut}
use Rattle.sq_collect.proofs.page.Page.keep.Goals as goal

pub returns-then-len-limit-clause-kept : goal.returns-then-len-limit-clause-kept
returns-then-len-limit-clause-kept c = λ hits up keeps.
    let page = c.args.self.now in
    let hit = c.args.hit in
    let pushed : c.push.new.self.items ≡ page.kept.items ++ hit ∷ [] = search rules in
    let many : page.limit ≤ length c.push.new.self.items = search rules in
    let more = enough_more page.order page.limit page.kept.items hits page.bar hit up keeps in
    enough_cut page.order page.limit c.push.new.self.items (hits ++ hit ∷ []) c.cut-self.new.kept.items page.bar c.cut-self.result up many
    (subst (λ items. IsEnough page.order page.limit items page.bar (hits ++ hit ∷ [])) (sym pushed) more)
    c.cut-self.ensures.cut

pub returns-else-len-limit-clause-kept : goal.returns-else-len-limit-clause-kept
returns-else-len-limit-clause-kept c = λ hits up keeps.
    let page = c.args.self.now in
    let hit = c.args.hit in
    let pushed : c.push.new.self.items ≡ page.kept.items ++ hit ∷ [] = search rules in
    subst (λ items. IsEnough page.order page.limit items page.bar (hits ++ hit ∷ [])) (sym pushed)
    (enough_more page.order page.limit page.kept.items hits page.bar hit up keeps)
