use Rattle.std.proofs.Common.{◌≡◌, ◌++◌, ap, ◌∙◌, append_assoc}
use Rattle.sq_coded.specs.Coded.{number_bytes, difference}
use Rattle.sq_coded.specs.declared.posting.Posting.{Posting}
use Rattle.sq_coded.proofs.BlockLemmas.{AreWords-difference}
use Rattle.sq_coded.proofs.NumberLemmas.{five_bytes}
use Rattle.sq_coded.proofs.bytes.Bytes.entry.Goals as goal

pub returns : goal.returns
unfolding number_bytes
returns c = λ e bytes follows is.
    let d = difference c.args.before e in
    let words = AreWords-difference c.args.before e follows in
    let row = c.number-row.ensures d.row (number_bytes d.ordinal ++ (number_bytes d.place ++ bytes)) words.row (five_bytes d.row words.row)
    (is ∙ append_assoc (number_bytes d.row) (number_bytes d.ordinal ++ number_bytes d.place) bytes ∙ ap (λ xs. number_bytes d.row ++ xs) (append_assoc (number_bytes d.ordinal) (number_bytes d.place) bytes)) in
    let ordinal = c.number-ordinal.ensures d.ordinal (number_bytes d.place ++ bytes) words.ordinal (five_bytes d.ordinal words.ordinal) row.1 in
    let place = c.number-place.ensures d.place bytes words.place (five_bytes d.place words.place) ordinal.1 in
    let numbers : (let r : Posting = record { row = c.number-row.result; ordinal = c.number-ordinal.result; place = c.number-place.result } in r) ≡ d =
    ap (λ x. let r : Posting = record { row = x; ordinal = c.number-ordinal.result; place = c.number-place.result } in r) row.0
    ∙ ap (λ x. let r : Posting = record { row = d.row; ordinal = x; place = c.number-place.result } in r) ordinal.0
    ∙ ap (λ x. let r : Posting = record { row = d.row; ordinal = d.ordinal; place = x } in r) place.0 in
    (c.later.ensures e follows numbers, place.1)
