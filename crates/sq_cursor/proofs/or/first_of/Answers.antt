use Rattle.std.proofs.Common.{sym, ◌∙◌}
use Rattle.sq_cursor.proofs.TopLemmas.{top_is_first}
use Rattle.sq_cursor.proofs.or.first_of.Goals as goal

pub returns : goal.returns
returns g c =
    let part = c.in_ok-first.field-0.now in
    let item = c.in_ok-first.ensures.item in
    c.here.ensures ∙ sym (top_is_first g.C.ItemCursor.left g.met.C.ItemCursor.rising c.args.parts.now part item.3.0 (item.3.1 part) c.requires)
