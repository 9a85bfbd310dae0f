use Rattle.std.proofs.Common.{◌≡◌, ◌+◌, ◌-◌, ◌/◌, ◌%◌, ◌<◌, length, drop, ap, sym, ◌∙◌, arith}
use Rattle.std.proofs.lemmas.Option.{slice_get_within}
use Rattle.std.specs.Prelude.{slice_index_or, []}
use Rattle.sq_coded.specs.Coded.{coded}
use Rattle.sq_coded.proofs.ReadLemmas.{begun, second_there, none_left}
use Rattle.sq_coded.proofs.lists.postings_of.Goals as goal

pub returns : goal.returns
returns c =
    let entries = slice_index_or c.args.lists.now c.args.list [] in
    omega (arith, c.loop-last.invariant.within, none_left entries c.loop-last.number c.loop-last.place c.requires.rises c.loop-last.invariant.block (sym c.in_default.ensures))

pub unreachable-requires : goal.unreachable-requires
unreachable-requires c =
    let entries = slice_index_or c.args.lists.now c.args.list [] in
    second_there entries c.loop-last.number c.loop-last.place c.in-Some._last c.requires.rises c.loop-last.invariant.block (sym c.in-Some.ensures) (sym c.in-None.ensures)

pub overflow_add-number : goal.overflow_add-number
overflow_add-number c =
    let entries = slice_index_or c.args.lists.now c.args.list [] in
    let b = begun entries c.loop-last.number c.loop-last.place c.in-Some._last c.in-Some-read.size c.requires.rises c.loop-last.invariant.block (sym c.in-Some.ensures) (sym c.in-Some-read.ensures) in
    omega (arith, c.requires.few, b.block.within)

pub overflow_add-place-in-Some-2 : goal.overflow_add-place-in-Some-2
overflow_add-place-in-Some-2 c =
    let entries = slice_index_or c.args.lists.now c.args.list [] in
    let b = begun entries c.loop-last.number c.loop-last.place c.in-Some._last c.in-Some-read.size c.requires.rises c.loop-last.invariant.block (sym c.in-Some.ensures) (sym c.in-Some-read.ensures) in
    omega (arith, c.requires.short, b.place)

pub loop-last-smaller : goal.loop-last-smaller
loop-last-smaller c =
    let words = coded (slice_index_or c.args.lists.now c.args.list []) in
    let within : c.loop-last.place < length words = slice_get_within words c.loop-last.place c.in-Some._last (sym c.in-Some.ensures) in
    let less : length words - (c.loop-last.place + (2 + c.in-Some-read.size % 65_536)) < length words - c.loop-last.place = omega arith in
    less

pub loop-last-preserved : goal.loop-last-preserved
loop-last-preserved c =
    let entries = slice_index_or c.args.lists.now c.args.list [] in
    let at = c.loop-last in
    let size = c.in-Some-read.size in
    let b = begun entries at.number at.place c.in-Some._last size c.requires.rises at.invariant.block (sym c.in-Some.ensures) (sym c.in-Some-read.ensures) in
    let place : at.place + (2 + size % 65_536) ≡ at.place + 2 + size % 65_536 = omega arith in
    record {
      block = ap (λ n. drop n (coded entries)) place ∙ b.block.behind;
      within = b.block.within;
    }
