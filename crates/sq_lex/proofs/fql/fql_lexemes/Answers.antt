use Rattle.std.proofs.Common.{◌∙◌, sym, ap, Err, Ok, arith}
use Rattle.std.proofs.lemmas.Str.{IsCharBoundary-start}
use Rattle.std.proofs.lemmas.Result.{err_from_is_err_and}
use Rattle.sq_lex.proofs.PieceLemmas.{pieces_push}
use Rattle.sq_lex.proofs.FqlLoopLemmas.{reads_start, reads_on, reads_all, reads_none, too_long, short_enough}
use Rattle.sq_lex.proofs.fql.fql_lexemes.Goals as goal

pub returns-then-text-gt-MOST_TEXT_BYTES-clause-lexemes : goal.returns-then-text-gt-MOST_TEXT_BYTES-clause-lexemes
returns-then-text-gt-MOST_TEXT_BYTES-clause-lexemes c = too_long _ c.if-text-gt-MOST_TEXT_BYTES.true ∙ ap Err (sym c.refused.ensures)

pub text-init : goal.text-init
text-init c = (reads_start _ _ _ c.past-at.ensures.value (c.past-at.ensures.between (IsCharBoundary-start c.args.text.now c.utf8.text)) c.past-at.ensures.stops c.new-lexemes.ensures.items, rw c.new-lexemes.ensures.items tt)

pub returns-in_err-lexeme-clause-lexemes : goal.returns-in_err-lexeme-clause-lexemes
returns-in_err-lexeme-clause-lexemes c =
    let refused = err_from_is_err_and c.from_residual.result c.from_residual.ensures.1 in
    rw (refused.1, refused.2, short_enough c.args.text.now c.if-text-gt-MOST_TEXT_BYTES.false)
    (reads_none _ _ _ _ c.text.invariant.0 c.text-test.true (sym c.in_err-lexeme.ensures.value))

pub text-preserved : goal.text-preserved
text-preserved c =
    let now = c.in_ok-push.ensures.items in
    let place = c.in_ok-lexeme.ensures.place in
    let on = c.past-at-in-text.ensures in (
      reads_on _ _ _ _ c.in_ok-lexeme.lexeme _ c.text.invariant.0 c.text-test.true (sym c.in_ok-lexeme.ensures.value) now on.value (omega (arith, place.1, on.within.0))
          (on.between c.in_ok-lexeme.ensures.whole.piece.end) on.stops,
      pieces_push _ _ _ _ c.text.invariant.1 c.in_ok-lexeme.ensures.whole now,
    )

pub returns-clause-lexemes : goal.returns-clause-lexemes
returns-clause-lexemes c = short_enough _ c.if-text-gt-MOST_TEXT_BYTES.false ∙ (reads_all _ _ _ c.text.invariant.0 c.text-test.false ∙ ap Ok (sym c.from_vec.ensures))
