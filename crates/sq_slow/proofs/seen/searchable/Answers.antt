use Rattle.std.proofs.Common.{arith, ◌≡◌, ◌<◌, ◌∷◌, [], ◌++◌, length, ap, sym, ◌∙◌, append_assoc}
use Rattle.sq_slow.proofs.SeenLemmas.{searchable_yes, searchable_no}
use Rattle.sq_slow.proofs.seen.searchable.Goals as goal
use Rattle.sq_slow.proofs.seen.searchable.Goals.{then-is_searchable+in_ok-push, else-is_searchable}

pub loop-row-preserved : goal.loop-row-preserved
loop-row-preserved c =
    let schema = c.args.schema.now in
    let h : c.loop-row.row < length schema = omega (arith, c.len-row-end.ensures.value, c.loop-row-test.true) in
    elim c.if-is_searchable.branch [
      | then-is_searchable+in_ok-push w ↦ (
          let k = searchable_yes c.loop-row.row schema c.loop-row.row h (sym c.is_searchable.ensures ∙ w.if-is_searchable.true) in
          let found : c.if-is_searchable.rows ≡ c.loop-row.rows ++ c.loop-row.row ∷ [] = w.rows-is ∙ w.in_ok-push.ensures.ok in
          rw (found, append_assoc) (ap (λ v. c.loop-row.rows ++ v) (sym k) ∙ c.loop-row.invariant))
      | else-is_searchable w ↦ (
          let k = searchable_no c.loop-row.row schema c.loop-row.row h (sym c.is_searchable.ensures ∙ w.if-is_searchable.false) in
          rw w.rows-is (ap (λ v. c.loop-row.rows ++ v) (sym k) ∙ c.loop-row.invariant))
    ]
