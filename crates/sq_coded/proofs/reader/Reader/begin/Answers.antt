use Rattle.std.proofs.Common.{◌≡◌, ◌+◌, ◌/◌, ◌%◌, ◌<◌, ap, sym, ◌∙◌, arith, drop, length}
use Rattle.std.proofs.lemmas.List.{drop_all, drop_more}
use Rattle.std.proofs.lemmas.Option.{slice_get_within}
use Rattle.std.specs.Prelude.{slice_index_or, []}
use Rattle.sq_coded.specs.Coded.{coded, origin, unpacked}
use Rattle.sq_coded.specs.Reading.{first_count}
use Rattle.sq_coded.proofs.ReadLemmas.{none_left, some_left, begun, second_there, next_entry, follow_origin, at_entry}
use Rattle.sq_coded.proofs.reader.Reader.begin.Goals as goal

pub invariant_of-t-12 : goal.invariant_of-t-12
invariant_of-t-12 g c =
    let entries = slice_index_or c.args.lists.now c.args.list [] in
    record {
      list_is = record { known = c.requires.known; short = c.requires.short };
      few = c.requires.few;
      rises = c.requires.rises;
      entry = none_left entries c.args.at c.args.end c.requires.rises c.requires.block (sym c.in-None.ensures);
    }

pub overflow_add-end : goal.overflow_add-end
overflow_add-end g c =
    let entries = slice_index_or c.args.lists.now c.args.list [] in
    omega (arith, c.requires.short, slice_get_within (coded entries) c.args.end c.in-Some.last (sym c.in-Some.ensures))

pub unreachable-requires : goal.unreachable-requires
unreachable-requires g c =
    let entries = slice_index_or c.args.lists.now c.args.list [] in
    second_there entries c.args.at c.args.end c.in-Some.last c.requires.rises c.requires.block (sym c.in-Some.ensures) (sym c.in-None-read.ensures)

pub overflow_add-end-in-Some : goal.overflow_add-end-in-Some
overflow_add-end-in-Some g c =
    let entries = slice_index_or c.args.lists.now c.args.list [] in
    let b = begun entries c.args.at c.args.end c.in-Some.last c.in-Some-read.size c.requires.rises c.requires.block (sym c.in-Some.ensures) (sym c.in-Some-read.ensures) in
    omega (arith, c.requires.short, b.place)

pub overflow_sub-result : goal.overflow_sub-result
overflow_sub-result g c =
    let entries = slice_index_or c.args.lists.now c.args.list [] in
    let b = begun entries c.args.at c.args.end c.in-Some.last c.in-Some-read.size c.requires.rises c.requires.block (sym c.in-Some.ensures) (sym c.in-Some-read.ensures) in
    omega (arith, b.some)

pub overflow_add-result : goal.overflow_add-result
overflow_add-result g c =
    let entries = slice_index_or c.args.lists.now c.args.list [] in
    let b = begun entries c.args.at c.args.end c.in-Some.last c.in-Some-read.size c.requires.rises c.requires.block (sym c.in-Some.ensures) (sym c.in-Some-read.ensures) in
    omega (arith, c.requires.short, b.place)

pub overflow_add-result-in-Some : goal.overflow_add-result-in-Some
overflow_add-result-in-Some g c =
    let entries = slice_index_or c.args.lists.now c.args.list [] in
    let b = begun entries c.args.at c.args.end c.in-Some.last c.in-Some-read.size c.requires.rises c.requires.block (sym c.in-Some.ensures) (sym c.in-Some-read.ensures) in
    omega (arith, c.requires.short, b.place)

pub invariant_of-result : goal.invariant_of-result
invariant_of-result g c =
    let entries = slice_index_or c.args.lists.now c.args.list [] in
    let size = c.in-Some-read.size in
    let end = c.args.end + 2 + size % 65_536 in
    let bytes = unpacked (drop (c.args.end + 2) (coded entries)) in
    let b = begun entries c.args.at c.args.end c.in-Some.last size c.requires.rises c.requires.block (sym c.in-Some.ensures) (sym c.in-Some-read.ensures) in
    let next = next_entry entries c.args.at origin (size / 65_536) bytes c.in-Some.last end (follow_origin entries c.args.at c.requires.rises) b.some b.block in
    let read = c.entry-here.ensures next.entry next.rest next.follows (c.new-bytes.ensures ∙ next.bytes_are) in
    record {
      list_is = record { known = c.requires.known; short = c.requires.short };
      few = c.requires.few;
      rises = c.requires.rises;
      entry = at_entry entries c.args.at origin (size / 65_536) bytes c.in-Some.last end c.entry-here.result c.entry-here.new.self next read.0 read.1;
    }

pub returns-in-None-clause-counted : goal.returns-in-None-clause-counted
returns-in-None-clause-counted g c =
    let entries = slice_index_or c.args.lists.now c.args.list [] in
    let past = none_left entries c.args.at c.args.end c.requires.rises c.requires.block (sym c.in-None.ensures) in
    let same : c.args.steps.now ≡ c.args.steps.now + 0 = omega arith in
    same ∙ ap (λ xs. c.args.steps.now + first_count xs) (sym (drop_all c.args.at entries past))

pub returns-in-Some-read-clause-counted : goal.returns-in-Some-read-clause-counted
returns-in-Some-read-clause-counted g c =
    let entries = slice_index_or c.args.lists.now c.args.list [] in
    let below : c.args.at < length entries = some_left entries c.args.at c.args.end c.in-Some.last c.requires.block (sym c.in-Some.ensures) in
    c.tick.ensures ∙ ap (λ xs. c.args.steps.now + first_count xs) (sym (drop_more entries c.args.at origin below))
