use Rattle.std.proofs.Common.{◌≡◌, ◌<◌, [], ◌∷◌, ◌++◌, length, ap, ◌∙◌, arith, length-append}
use Rattle.std.proofs.lemmas.Result.{err_from_is_err_and}
use Rattle.sq_stored.specs.declared.stored.Row.{Row}
use Rattle.std.specs.List.{flat_map, range_with_len}
use Rattle.sq_stored.specs.Shown.{shown_values}
use Rattle.sq_stored.specs.Runs.{runs_from}
use Rattle.sq_stored.proofs.GrownLemmas.{grown_by, grown_trans, grown_length}
use Rattle.sq_stored.proofs.RowLemmas.{items_grown, items_added, kept_added}
use Rattle.sq_stored.proofs.stored.push_row.Goals as goal

pub returns-in_err-push_runs-clause-err : goal.returns-in_err-push_runs-clause-err
returns-in_err-push_runs-clause-err c =
    let p = err_from_is_err_and c.from_residual-in_err-push_runs.result c.from_residual-in_err-push_runs.ensures.1 in
    let given = c.in_err-push_runs.ensures in
    rw p.1 (items_grown c.args.texts.now c.push_runs.new.texts c.args.runs.now.items c.push_runs.new.runs.items c.args.rows.now.items c.requires.kept
    (grown_trans c.args.texts.now c.push.new.self c.push_runs.new.texts (grown_by c.args.texts.now c.push.new.self _ c.in_ok-push.ensures.ok) given.grown_texts) given.grown_runs)

pub returns-in_err-end-clause-err : goal.returns-in_err-end-clause-err
returns-in_err-end-clause-err c =
    let p = err_from_is_err_and c.from_residual-in_err-end.result c.from_residual-in_err-end.ensures.1 in
    let given = c.in_ok-push_runs.ensures in
    rw p.1 (items_grown c.args.texts.now c.push_runs.new.texts c.args.runs.now.items c.push_runs.new.runs.items c.args.rows.now.items c.requires.kept
    (grown_trans c.args.texts.now c.push.new.self c.push_runs.new.texts (grown_by c.args.texts.now c.push.new.self _ c.in_ok-push.ensures.ok) given.grown_texts) given.grown_runs)

pub returns-in_err-push-2-clause-err : goal.returns-in_err-push-2-clause-err
returns-in_err-push-2-clause-err c =
    let p = err_from_is_err_and c.from_residual-in_err-push-2.result c.from_residual-in_err-push-2.ensures.1 in
    let given = c.in_ok-push_runs.ensures in
    rw (p.1, c.in_err-push-2.ensures.items) (items_grown c.args.texts.now c.push_runs.new.texts c.args.runs.now.items c.push_runs.new.runs.items c.args.rows.now.items c.requires.kept
    (grown_trans c.args.texts.now c.push.new.self c.push_runs.new.texts (grown_by c.args.texts.now c.push.new.self _ c.in_ok-push.ensures.ok) given.grown_texts) given.grown_runs)

pub returns-clause-ok : goal.returns-clause-ok
returns-clause-ok c =
    let row : Row = record { url = c.in_ok-url.url; start = c.in_ok-start.start; end = c.in_ok-end.end; properties = c.args.properties } in
    let given = c.in_ok-push_runs.ensures in
    let start : c.in_ok-start.start ≡ length c.args.runs.now.items = omega (arith, c.args.runs.now.ok.0) in
    let end : c.in_ok-end.end ≡ length c.push_runs.new.runs.items = omega (arith, c.push_runs.new.runs.ok.0) in
    let whole = given.texts ∙ ap (λ v. c.push.new.self ++ flat_map (shown_values v) (range_with_len 0 c.args.properties)) c.as_slice.ensures in
    let longer = given.runs ∙ ap (λ v. c.args.runs.now.items ++ runs_from v (length c.push.new.self) (range_with_len 0 c.args.properties)) c.as_slice.ensures in
    items_added c.args.texts.now c.push.new.self c.push_runs.new.texts c.as_str.result.now c.args.runs.now.items c.push_runs.new.runs.items c.args.rows.now.items c.push-2.new.self.items
    c.args.item.now row c.requires.kept c.as_str.ensures c.in_ok-push.ensures.ok whole longer c.in_ok-url.ensures start end c.in_ok-push-2.ensures.items

pub returns-clause-kept : goal.returns-clause-kept
returns-clause-kept c =
    let row : Row = record { url = c.in_ok-url.url; start = c.in_ok-start.start; end = c.in_ok-end.end; properties = c.args.properties } in
    let given = c.in_ok-push_runs.ensures in
    let start : c.in_ok-start.start ≡ length c.args.runs.now.items = omega (arith, c.args.runs.now.ok.0) in
    let end : c.in_ok-end.end ≡ length c.push_runs.new.runs.items = omega (arith, c.push_runs.new.runs.ok.0) in
    let url : c.in_ok-url.url < length c.push_runs.new.texts =
    omega (arith, c.in_ok-url.ensures, ap length c.in_ok-push.ensures.ok, length-append c.args.texts.now (c.as_str.result.now ∷ []), grown_length c.push.new.self c.push_runs.new.texts given.grown_texts) in
    kept_added c.args.texts.now c.push_runs.new.texts c.args.runs.now.items c.push_runs.new.runs.items c.args.rows.now.items c.push-2.new.self.items row c.requires.kept
    (grown_trans c.args.texts.now c.push.new.self c.push_runs.new.texts (grown_by c.args.texts.now c.push.new.self _ c.in_ok-push.ensures.ok) given.grown_texts) given.grown_runs given.within
    url start end c.in_ok-push-2.ensures.items
