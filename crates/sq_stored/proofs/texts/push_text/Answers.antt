use Rattle.std.proofs.Common.{sym, subst, rules}
use Rattle.std.specs.List.{All}
use Rattle.std.proofs.lemmas.Result.{err_from_is_err_and}
use Rattle.std.proofs.lemmas.Str.{IsUtf8-string_bytes}
use Rattle.sq_stored.specs.Texts.{IsSpanOf}
use Rattle.sq_stored.proofs.TextLemmas.{texts_at-same, All-IsSpanOf-same, texts_at-push, All-IsSpanOf-push}
use Rattle.sq_stored.proofs.texts.push_text.Goals as goal

pub returns-in_err-push-clause-err : goal.returns-in_err-push-clause-err
returns-in_err-push-clause-err c =
    let p = err_from_is_err_and c.from_residual-in_err-push.result c.from_residual-in_err-push.ensures.1 in
    rw (p.1, c.in_err-push.ensures.items) (texts_at-same _ _ _ _ c.requires c.utf8.text c.in_ok-push_str.ensures.bytes)

pub returns-in_err-push-clause-spans : goal.returns-in_err-push-clause-spans
returns-in_err-push-clause-spans c =
    subst (All (IsSpanOf _)) (sym c.in_err-push.ensures.items) (All-IsSpanOf-same _ _ _ _ c.requires c.utf8.text c.in_ok-push_str.ensures.bytes)

pub returns-clause-ok : goal.returns-clause-ok
returns-clause-ok c =
    rw c.in_ok-push.ensures.items (texts_at-push _ _ _ _ c.requires c.utf8.text c.in_ok-push_str.ensures.bytes _ (search rules) (search rules))

pub returns-clause-spans : goal.returns-clause-spans
returns-clause-spans c =
    subst (All (IsSpanOf _)) (sym c.in_ok-push.ensures.items)
    (All-IsSpanOf-push _ _ _ _ c.requires c.utf8.text c.in_ok-push_str.ensures.bytes _ (search rules) (search rules) (IsUtf8-string_bytes c.push_str.new.self))

pub returns-then-end-gt-MOST_BYTES-clause-err : goal.returns-then-end-gt-MOST_BYTES-clause-err
returns-then-end-gt-MOST_BYTES-clause-err c = texts_at-same _ _ _ _ c.requires c.utf8.text c.in_ok-push_str.ensures.bytes

pub returns-then-end-gt-MOST_BYTES-clause-spans : goal.returns-then-end-gt-MOST_BYTES-clause-spans
returns-then-end-gt-MOST_BYTES-clause-spans c = All-IsSpanOf-same _ _ _ _ c.requires c.utf8.text c.in_ok-push_str.ensures.bytes
