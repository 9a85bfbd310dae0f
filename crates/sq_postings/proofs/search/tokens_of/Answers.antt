use Rattle.std.proofs.Common.{get_or}
use Rattle.sq_postings.specs.declared.parts.Length.{Length}
use Rattle.sq_postings.proofs.FoundLemmas.{length_found, length_other, length_past, entry_is, entry_isnt_row, entry_isnt_ordinal}
use Rattle.sq_postings.proofs.search.tokens_of.Goals as goal
use Rattle.sq_postings.proofs.search.tokens_of.Goals.{else-found-row-via-then-found-row+else-found-ordinal, else-found-row-via-else-found-row}

abbrev none : Length
none = record { row = 0; ordinal = 0; tokens = 0 }

pub returns-then-found-ordinal : goal.returns-then-found-ordinal
returns-then-found-ordinal c =
    let table = c.args.lengths.now in
    let at = c.lengths_before-at.result in
    length_found table c.args.row c.args.ordinal at c.requires c.lengths_before-at.ensures.point none c.if-at-lengths.true
    (entry_is c.args.row c.args.ordinal (get_or table at none) c.if-found-row.true c.if-found-ordinal.true)

pub returns-else-found-row : goal.returns-else-found-row
returns-else-found-row c =
    let table = c.args.lengths.now in
    let at = c.lengths_before-at.result in
    elim c.else-found-row.branch [
      | else-found-row-via-then-found-row+else-found-ordinal w ↦ length_other table c.args.row c.args.ordinal at c.requires c.lengths_before-at.ensures.point none c.if-at-lengths.true
          (entry_isnt_ordinal c.args.row c.args.ordinal (get_or table at none) w.if-found-ordinal.false)
      | else-found-row-via-else-found-row w ↦ length_other table c.args.row c.args.ordinal at c.requires c.lengths_before-at.ensures.point none c.if-at-lengths.true
          (entry_isnt_row c.args.row c.args.ordinal (get_or table at none) w.if-found-row.false)
    ]

pub returns-else-at-lengths : goal.returns-else-at-lengths
returns-else-at-lengths c = length_past c.args.lengths.now c.args.row c.args.ordinal c.lengths_before-at.result c.requires c.lengths_before-at.ensures.point c.if-at-lengths.false
