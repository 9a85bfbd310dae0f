use Rattle.std.proofs.Common.{rules, SFits, w64, sym, ap, ◌∙◌}
use Rattle.std.proofs.lemmas.Int.{to_z-of_z}
use Rattle.sq_postings.specs.Indexed.{Indexed}
use Rattle.sq_service.specs.Found.{score_of}
use Rattle.sq_service.proofs.CollectedLemmas.{takes}
use Rattle.sq_service.proofs.collected.Collected.take.Goals as goal

pub returns-clause-taken : goal.returns-clause-taken
returns-clause-taken g c = λ held sorts request hits same taken rising.
    let fits : SFits w64 c.in_ok-score.score = search rules in
    let boosts : SFits w64 c.args.boost = search rules in
    let scored = simp to_z-of_z at c.in_ok-score.ensures in
    let keyed = simp to_z-of_z at c.keys-keys.ensures.value in
    let offers = simp to_z-of_z at c.offer.ensures in
    takes held sorts request c.args.self.now _ hits c.args.row c.args.boost c.in_ok-score.score c.keys-keys.result taken rising
    (scored ∙ ap (λ (index : Indexed). score_of index (c.args.row, c.args.boost)) (sym same)) keyed c.keys-keys.ensures.later offers c.take_row.ensures.taken
