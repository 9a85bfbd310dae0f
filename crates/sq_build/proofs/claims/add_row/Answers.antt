use Rattle.std.proofs.Common.{rules, [], ◌∷◌, ◌++◌, cond, Some, string_bytes, ap, ◌∙◌}
use Rattle.std.specs.HashMap.{get_by_text}
use Rattle.std.specs.Str.{bytes_eq}
use Rattle.std.proofs.lemmas.Map.Text.{hash_map_updates_text}
use Rattle.sq_build.specs.Claims.{with_row, rows_under}
use Rattle.sq_build.proofs.ClaimLemmas.{row_added}
use Rattle.sq_build.proofs.claims.add_row.Goals as goal

pub returns-in-Some : goal.returns-in-Some
returns-in-Some c =
    let rows = c.push_row.new.rows in
    row_added (get_by_text c.args.rows.now) (get_by_text (c.get_mut.follows.lender rows)) c.args.claim.now rows c.args.row
    (c.in_ok-push_row.ensures ∙ ap (λ o. with_row (rows_under o) c.args.row) c.in-Some.ensures.value)
    (hash_map_updates_text c.args.claim.now c.args.rows.now (c.get_mut.follows.lender rows) (Some rows) ((c.get_mut.follows.holds rows).3 (search rules)))

pub returns : goal.returns
returns c =
    row_added (get_by_text c.args.rows.now) (get_by_text c.insert.new.self) c.args.claim.now c.push.new.self c.args.row
    (c.in_ok-push.ensures.ok ∙ ap (λ l. l ++ c.args.row ∷ []) c.new-first.ensures ∙ ap (λ o. with_row (rows_under o) c.args.row) c.in_default.ensures.value)
    (λ t. rw c.in_ok-from_str.ensures.ok at
    (hash_map_updates_text (string_bytes c.in_ok-from_str.field-0) c.get_mut.follows.lender-at-none c.insert.new.self _ c.in_ok-insert.ensures.updates t)
    ∙ ap (λ m. cond (bytes_eq c.args.claim.now t) (Some c.push.new.self) (get_by_text m t)) c.get_mut.follows.holds-at-none)
