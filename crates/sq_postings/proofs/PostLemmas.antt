-- Postings as spans.
use Rattle.std.proofs.Common.{◌≡◌, inl, inr, ◌⊎◌, ℕ, suc, ◌+◌, ◌-◌, ◌*◌, ◌/◌, ◌<◌, Bool, true, false, not, ◌&&◌, ◌||◌, cond, List, [], ◌∷◌, length, filter, Option, Some, None, refl, sym, ap, ◌∙◌, subst, arith}
use Rattle.std.specs.Prelude.{nat_lt, nat_le, ◌==◌, slice_get}
use Rattle.std.specs.List.{list_all}
use Rattle.std.proofs.lemmas.Bool.Decides.{nat_tests}
use Rattle.sq_cursor.specs.Entries.{entries_behind, first_count}
use Rattle.sq_cursor.specs.Spans.{passage_of, is_passage_before, comes_after, all_come_after, are_ordered, first_passage, first_span, without_first_span, HasSpan, spans_from}
use Rattle.sq_cursor.specs.declared.span.Span.{Span}
use Rattle.sq_coded.specs.Coded.{comes_before, is_small, rises_behind, is_list}
use Rattle.sq_coded.specs.Reading.{HasEntry, is_from, entries_from}
use Rattle.sq_coded.specs.Reading as reading
use Rattle.sq_coded.specs.declared.posting.Posting.{Posting}
use Rattle.sq_postings.specs.Indexed.{span_of, spans_of, is_of_property}
use Rattle.sq_postings.specs.Left.{AreEntries}
use Rattle.sq_postings.proofs.OrderLemmas.{and_left, and_right, by_number, by_chain}

-- ---- the order of postings and of their spans

before_chain : (a b c : Posting) → comes_before a b ≡ true → comes_before b c ≡ true → comes_before a c ≡ true
before_chain a b c =
    by_chain a.row b.row c.row (inner a b) (inner b c) (inner a c)
    (by_chain a.ordinal b.ordinal c.ordinal (nat_lt a.place b.place) (nat_lt b.place c.place) (nat_lt a.place c.place) (λ p q. grind (arith, nat_tests)))
  where
    inner : Posting → Posting → Bool
    inner x y = nat_lt x.ordinal y.ordinal || ((x.ordinal == y.ordinal) && nat_lt x.place y.place)

later_row : (p : ℕ) (a b : Posting) → a.row < b.row → comes_after (span_of p a) (span_of p b) ≡ true
later_row p a b l = grind (arith, nat_tests)

later_ordinal : (p : ℕ) (a b : Posting) → a.row ≡ b.row → a.ordinal < b.ordinal → comes_after (span_of p a) (span_of p b) ≡ true
later_ordinal p a b e l = let part : p * 1_000 + a.ordinal < p * 1_000 + b.ordinal = omega (arith, l) in grind (arith, nat_tests)

later_place : (p : ℕ) (a b : Posting) → a.row ≡ b.row → a.ordinal ≡ b.ordinal → a.place < b.place → comes_after (span_of p a) (span_of p b) ≡ true
later_place p a b e f l = let part : p * 1_000 + a.ordinal ≡ p * 1_000 + b.ordinal = omega (arith, f) in grind (arith, nat_tests)

after : (p : ℕ) (a b : Posting) → comes_before a b ≡ true → comes_after (span_of p a) (span_of p b) ≡ true
after p a b e = at (by_number a.row b.row _ e)
  where
    by_place : a.row ≡ b.row → (a.ordinal < b.ordinal) ⊎ ((a.ordinal ≡ b.ordinal) × (nat_lt a.place b.place ≡ true)) → comes_after (span_of p a) (span_of p b) ≡ true
    by_place r (inl l) = later_ordinal p a b r l
    by_place r (inr f) = later_place p a b r f.0 (let g = f.1 in grind (arith, nat_tests))

    at : (a.row < b.row) ⊎ ((a.row ≡ b.row) × (nat_lt a.ordinal b.ordinal || ((a.ordinal == b.ordinal) && nat_lt a.place b.place) ≡ true)) → comes_after (span_of p a) (span_of p b) ≡ true
    at (inl l) = later_row p a b l
    at (inr f) = by_place f.0 (by_number a.ordinal b.ordinal (nat_lt a.place b.place) f.1)

all_after : (p : ℕ) (a : Posting) (entries : List Posting) → rises_behind a entries ≡ true → all_come_after (span_of p a) (spans_of p entries) ≡ true
all_after p a [] h = refl
all_after p a (b ∷ entries) h =
    let first : comes_before a b ≡ true = and_left (comes_before a b) (is_small b) (and_left (comes_before a b && is_small b) (rises_behind b entries) h) in
    rw (after p a b first) (all_after p a entries (lower a b entries first (and_right (comes_before a b && is_small b) (rises_behind b entries) h)))
  where
    lower : (x y : Posting) (zs : List Posting) → comes_before x y ≡ true → rises_behind y zs ≡ true → rises_behind x zs ≡ true
    lower x y [] l h = refl
    lower x y (z ∷ zs) l h =
        let both = and_left (comes_before y z && is_small z) (rises_behind z zs) h in
        rw (before_chain x y z l (and_left (comes_before y z) (is_small z) both), and_right (comes_before y z) (is_small z) both) (and_right (comes_before y z && is_small z) (rises_behind z zs) h)

spans_behind : (p : ℕ) (a : Posting) (entries : List Posting) → rises_behind a entries ≡ true → are_ordered (spans_of p (a ∷ entries)) ≡ true
spans_behind p a [] h = grind (arith, nat_tests)
spans_behind p a (b ∷ entries) h =
    let self : nat_le a.place a.place ≡ true = grind (arith, nat_tests) in
    rw (self, all_after p a (b ∷ entries) h) (spans_behind p b entries (and_right (comes_before a b && is_small b) (rises_behind b entries) h))

-- the spans of a list are ordered
spans_ordered : (p : ℕ) (entries : List Posting) → is_list entries ≡ true → are_ordered (spans_of p entries) ≡ true
spans_ordered p [] h = refl
spans_ordered p (e ∷ entries) h = spans_behind p e entries (and_right (is_small e) (rises_behind e entries) h)

small_behind : (a : Posting) (entries : List Posting) → rises_behind a entries ≡ true → list_all is_small entries ≡ true
small_behind a [] h = refl
small_behind a (b ∷ entries) h =
    rw (and_right (comes_before a b) (is_small b) (and_left (comes_before a b && is_small b) (rises_behind b entries) h))
    (small_behind b entries (and_right (comes_before a b && is_small b) (rises_behind b entries) h))

all_small : (entries : List Posting) → is_list entries ≡ true → list_all is_small entries ≡ true
all_small [] h = refl
all_small (e ∷ entries) h = rw (and_left (is_small e) (rises_behind e entries) h) (small_behind e entries (and_right (is_small e) (rises_behind e entries) h))

pub entries_of_list : (p : ℕ) (entries : List Posting) → p < 64 → is_list entries ≡ true → AreEntries p entries
entries_of_list p entries few list = record { few = few; small = all_small entries list; spans = spans_ordered p entries list }

-- the spans of a list are in passages of its property
parts_of_small : (p : ℕ) (entries : List Posting) → list_all is_small entries ≡ true → list_all (is_of_property p) (spans_of p entries) ≡ true
parts_of_small p [] h = refl
parts_of_small p (e ∷ entries) h =
    let small : is_small e ≡ true = and_left (is_small e) (list_all is_small entries) h in
    let rest : nat_lt e.ordinal 1_000 && nat_lt e.place 67_108_864 ≡ true = and_right (nat_lt e.row 1_000_000) (nat_lt e.ordinal 1_000 && nat_lt e.place 67_108_864) small in
    let low : nat_lt e.ordinal 1_000 ≡ true = and_left (nat_lt e.ordinal 1_000) (nat_lt e.place 67_108_864) rest in
    let less : e.ordinal < 1_000 = grind (arith, nat_tests) in
    let same : (p * 1_000 + e.ordinal) / 1_000 ≡ p = omega (arith, less) in
    let itself : (p == p) ≡ true = grind (arith, nat_tests) in
    rw (same, itself) (parts_of_small p entries (and_right (is_small e) (list_all is_small entries) h))

pub parts_of_list : (p : ℕ) (entries : List Posting) → is_list entries ≡ true → list_all (is_of_property p) (spans_of p entries) ≡ true
parts_of_list p entries list = parts_of_small p entries (all_small entries list)

-- ---- the first

pub first_small : (p : ℕ) (entries : List Posting) (e : Posting) → AreEntries p entries → slice_get entries 0 ≡ Some e → e.ordinal < 1_000
first_small p [] e all here = cc
first_small p (x ∷ entries) e all here =
    let same : x ≡ e = cc in
    let small : is_small x ≡ true = and_left (is_small x) (list_all is_small entries) all.small in
    let rest : nat_lt x.ordinal 1_000 && nat_lt x.place 67_108_864 ≡ true = and_right (nat_lt x.row 1_000_000) (nat_lt x.ordinal 1_000 && nat_lt x.place 67_108_864) small in
    let low : nat_lt x.ordinal 1_000 ≡ true = and_left (nat_lt x.ordinal 1_000) (nat_lt x.place 67_108_864) rest in
    let less : x.ordinal < 1_000 = grind (arith, nat_tests) in
    subst (λ (y : Posting). y.ordinal < 1_000) same less

abbrev passage_first : ℕ → Posting → Option (ℕ × ℕ)
passage_first p e = Some (e.row, p * 1_000 + e.ordinal)

abbrev span_first : Posting → Option (ℕ × ℕ)
span_first e = Some (e.place, e.place)

pub first_passage_is : (p : ℕ) (entries : List Posting) (e : Posting) → slice_get entries 0 ≡ Some e → passage_first p e ≡ first_passage (spans_of p entries)
first_passage_is p [] e here = cc
first_passage_is p (x ∷ entries) e here = let same : x ≡ e = cc in ap (passage_first p) (sym same)

pub no_passage : (p : ℕ) (entries : List Posting) → slice_get entries 0 ≡ None → None ≡ first_passage (spans_of p entries)
no_passage p [] here = refl
no_passage p (x ∷ entries) here = cc

pub first_span_is : (p : ℕ) (entries : List Posting) (e : Posting) → slice_get entries 0 ≡ Some e → span_first e ≡ first_span (spans_of p entries)
first_span_is p [] e here = cc
first_span_is p (x ∷ entries) e here = let same : x ≡ e = cc in ap span_first (sym same)

pub no_span : (p : ℕ) (entries : List Posting) → slice_get entries 0 ≡ None → None ≡ first_span (spans_of p entries)
no_span p [] here = refl
no_span p (x ∷ entries) here = cc

-- ---- counts

pub first_count_is : (p : ℕ) (entries : List Posting) → first_count (spans_of p entries) ≡ reading.first_count entries
first_count_is p [] = refl
first_count_is p (e ∷ entries) = refl

spans_long : (p : ℕ) (entries : List Posting) → length (spans_of p entries) ≡ length entries
spans_long p [] = refl
spans_long p (e ∷ entries) = ap suc (spans_long p entries)

pub length-spans_of : (p : ℕ) (entries : List Posting) → length (spans_of p entries) ≡ length entries
length-spans_of = spans_long

pub behind_is : (p : ℕ) (entries : List Posting) → entries_behind (spans_of p entries) ≡ reading.count_behind entries
behind_is p [] = refl
behind_is p (e ∷ entries) = spans_long p entries

-- ---- moves

pub has_entry : (p : ℕ) (entries : List Posting) → HasSpan (spans_of p entries) → HasEntry entries
has_entry p [] h = h
has_entry p (e ∷ entries) h = tt

pub without_first_is : (p : ℕ) (entries : List Posting) → spans_of p (reading.without_first entries) ≡ without_first_span (spans_of p entries)
without_first_is p [] = refl
without_first_is p (e ∷ entries) = refl

pub stepped : (p : ℕ) (entries : List Posting) → AreEntries p entries → AreEntries p (reading.without_first entries)
stepped p [] all = all
stepped p (e ∷ entries) all = record {
  few = all.few;
  small = and_right (is_small e) (list_all is_small entries) all.small;
  spans = and_right (all_come_after (span_of p e) (spans_of p entries)) (are_ordered (spans_of p entries)) (and_right (nat_le e.place e.place) _ all.spans);
}

same_from : (p row part : ℕ) (e : Posting) → not (is_passage_before (passage_of (span_of p e)) (row, part)) ≡ is_from row (part - p * 1_000) e
same_from p row part e = grind (arith, nat_tests)

-- a seek in the list is one among the spans
pub seek_is : (p row part : ℕ) (entries : List Posting) → spans_of p (entries_from row (part - p * 1_000) entries) ≡ spans_from (row, part) (spans_of p entries)
seek_is p row part [] = refl
seek_is p row part (e ∷ entries) = at (is_from row (part - p * 1_000) e) refl (seek_is p row part entries)
  where
    at : (b : Bool) → is_from row (part - p * 1_000) e ≡ b → spans_of p (entries_from row (part - p * 1_000) entries) ≡ spans_from (row, part) (spans_of p entries)
        → spans_of p (cond b (e ∷ entries_from row (part - p * 1_000) entries) (entries_from row (part - p * 1_000) entries)) ≡ spans_from (row, part) (spans_of p (e ∷ entries))
    at true h more = rw (same_from p row part e ∙ h) (ap (λ spans. span_of p e ∷ spans) more)
    at false h more = rw (same_from p row part e ∙ h) more

after_filtered : (q : Span → Bool) (a : Span) (spans : List Span) → all_come_after a spans ≡ true → all_come_after a (filter q spans) ≡ true
after_filtered q a [] h = refl
after_filtered q a (b ∷ spans) h = at (q b) (after_filtered q a spans (and_right (comes_after a b) (all_come_after a spans) h))
  where
    at : (t : Bool) → all_come_after a (filter q spans) ≡ true → all_come_after a (cond t (b ∷ filter q spans) (filter q spans)) ≡ true
    at true more = rw (and_left (comes_after a b) (all_come_after a spans) h) more
    at false more = more

ordered_filtered : (q : Span → Bool) (spans : List Span) → are_ordered spans ≡ true → are_ordered (filter q spans) ≡ true
ordered_filtered q [] h = refl
ordered_filtered q (a ∷ spans) h =
    at (q a) (ordered_filtered q spans (and_right (all_come_after a spans) (are_ordered spans) (and_right (nat_le a.first a.last) (all_come_after a spans && are_ordered spans) h)))
  where
    behind : all_come_after a spans && are_ordered spans ≡ true
    behind = and_right (nat_le a.first a.last) (all_come_after a spans && are_ordered spans) h

    at : (t : Bool) → are_ordered (filter q spans) ≡ true → are_ordered (cond t (a ∷ filter q spans) (filter q spans)) ≡ true
    at true more = rw (
      and_left (nat_le a.first a.last) (all_come_after a spans && are_ordered spans) h,
      after_filtered q a spans (and_left (all_come_after a spans) (are_ordered spans) behind),
    ) more
    at false more = more

small_filtered : (q : Posting → Bool) (entries : List Posting) → list_all is_small entries ≡ true → list_all is_small (filter q entries) ≡ true
small_filtered q [] h = refl
small_filtered q (e ∷ entries) h = at (q e) (small_filtered q entries (and_right (is_small e) (list_all is_small entries) h))
  where
    at : (t : Bool) → list_all is_small (filter q entries) ≡ true → list_all is_small (cond t (e ∷ filter q entries) (filter q entries)) ≡ true
    at true more = rw (and_left (is_small e) (list_all is_small entries) h) more
    at false more = more

pub sought : (p row part : ℕ) (entries : List Posting) → AreEntries p entries → AreEntries p (entries_from row (part - p * 1_000) entries)
sought p row part entries all = record {
  few = all.few;
  small = small_filtered (is_from row (part - p * 1_000)) entries all.small;
  spans = subst (λ spans. are_ordered spans ≡ true) (sym (seek_is p row part entries)) (ordered_filtered (λ a. not (is_passage_before (passage_of a) (row, part))) (spans_of p entries) all.spans);
}
