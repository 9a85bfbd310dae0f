use Rattle.std.proofs.Common.{rules, ◌≡◌, ◌<◌, ◌^◌, true, refl, sym, ◌∙◌, subst}
use Rattle.std.proofs.lemmas.List.{with_items_is}
use Rattle.sq_collect.specs.Counted.{are_from}
use Rattle.sq_collect.proofs.CountLemmas.{from_pairs}
use Rattle.sq_collect.proofs.RefinerLemmas.{taken}
use Rattle.sq_collect.proofs.refiner.Refiner.take.Goals as goal

pub count_row-requires-clause-from : goal.count_row-requires-clause-from
count_row-requires-clause-from g c = subst (λ ps. are_from c.args.row ps ≡ true) (sym c.seek.ensures.left) (from_pairs c.args.row c.args.self.now.cursor)

pub returns-clause-counts : goal.returns-clause-counts
returns-clause-counts g c = λ index property bounds rows is up.
    let few : c.args.row < 2 ^ 32 = search rules in
    taken index property bounds c.args.self.now _ c.seek.new.self c.deref.result.now c.deref_mut.result.now c.count_row.new.counts rows c.args.row is up few refl refl c.seek.ensures.left c.deref.ensures.value c.deref_mut.ensures.value
    (with_items_is c.args.self.now.counts c.count_row.new.counts (c.count_row.auto.counts ∙ c.deref_mut.ensures.len))
    c.count_row.ensures.counts c.count_row.ensures.later
