use Rattle.std.proofs.Common.{rules, ◌≡◌, ◌<◌, ◌^◌, true, sym, ◌∙◌}
use Rattle.sq_collect.specs.Best.{is_past}
use Rattle.sq_collect.proofs.PageLemmas.{enough_past, one_more}
use Rattle.sq_collect.proofs.page.Page.offer.Goals as goal

pub returns-then-is_past : goal.returns-then-is_past
returns-then-is_past c = λ order start count hits page up.
    let old = c.args.self.now in
    let few : c.args.hit.number < 2 ^ 32 = search rules in
    let past : is_past old.order old.bar c.args.hit ≡ true = sym c.is_past.ensures ∙ c.if-is_past.true in
    record {
      ordered = page.ordered;
      places = page.places;
      size = page.size;
      limited = page.limited;
      counted = c.saturating_add-self.ensures ∙ one_more hits c.args.hit old.total up few page.counted;
      kept = enough_past old.order old.limit old.kept.items hits old.bar c.args.hit up past page.kept;
    }

pub returns : goal.returns
returns c = λ order start count hits page up.
    let old = c.args.self.now in
    let few : c.args.hit.number < 2 ^ 32 = search rules in
    let same = c.keep.ensures.same in
    record {
      ordered = same.order ∙ page.ordered;
      places = same.before ∙ page.places;
      size = same.count ∙ page.size;
      limited = same.limit ∙ page.limited;
      counted = same.total ∙ c.saturating_add-self.ensures ∙ one_more hits c.args.hit old.total up few page.counted;
      kept = c.keep.ensures.kept hits up page.kept;
    }
