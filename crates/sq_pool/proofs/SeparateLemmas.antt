-- Lemmas on the places of the words of chains.
use Rattle.std.proofs.Common.{◌≡◌, ℕ, suc, ◌+◌, ◌-◌, ◌*◌, ◌^◌, ◌<◌, ◌≤◌, List, [], ◌∷◌, length, get_or, map, inl, inr, refl, sym, subst, ap, ◌∙◌, arith, Option, Some, None}
use Rattle.std.proofs.Math.ListN.{get_or-map}
use Rattle.std.proofs.lemmas.Bool.{cases_lt, cond_below, cond_above}
use Rattle.std.proofs.lemmas.List.{get_or-take}
use Rattle.std.proofs.lemmas.Option.{slice_get-get_or}
use Rattle.std.proofs.lemmas.Nat.{pow_pos}
use Rattle.std.proofs.lemmas.List.Sums.{sum_by-cons}
use Rattle.std.specs.Option.{option_map}
use Rattle.std.specs.Prelude.{sum_by, slice_get, unwrap_or}
use Rattle.sq_pool.specs.declared.pool.Entry.{Entry}
use Rattle.sq_pool.specs.SizeClass.{ClassState, IsTaken, slice_at, all_words}
use Rattle.sq_pool.specs.Region.{slice_words, room_of, empty_state, state_at, joined_from}
use Rattle.sq_pool.specs.Pool.{Held, words_of, numbers_of, slices_of, free_of, Cell, cell_from, cell_of, word_at, AreSeparate}
use Rattle.sq_pool.specs.Kept.{held_in, holding_of, Owns, IsPool}
use Rattle.sq_pool.proofs.ClassLemmas.{get_or-slice, slice_ends}
use Rattle.sq_pool.proofs.RegionLemmas.{same_or_other, slice_words-suc, get_or-joined}
use Rattle.sq_pool.proofs.PoolLemmas.{chain_is, chain_some, words_is, length_held, owns_sized, sized_at}

-- where a word of a chain's slices lies
pub record Placed (size : ℕ) (numbers : List ℕ) (at : ℕ) : Type 0 where
  pub nth : ℕ
  pub which : ℕ
  pub far : ℕ
  pub less : nth < length numbers
  pub which_is : which ≡ size + nth
  pub inside : far < slice_words which
  pub sum : at + slice_words size ≡ slice_words which + far
  pub is : cell_from size numbers at ≡ record { size = which; slice = get_or numbers nth 0; at = far }

pub placed : (size : ℕ) (numbers : List ℕ) (at : ℕ) → at + slice_words size < slice_words (size + length numbers) → Placed size numbers at
placed size [] at within = absurd
    (let same : slice_words (size + length {A = ℕ} []) ≡ slice_words size = ap slice_words (omega arith) in omega (arith, same, within))
placed size (number ∷ numbers) at within = elim (cases_lt at (slice_words size)) [
  | inl here ↦ record {
    nth = 0;
    which = size;
    far = at;
    less = omega arith;
    which_is = omega arith;
    inside = here;
    sum = omega arith;
    is = sym (cond_below at (slice_words size) (record { size = size; slice = number; at = at }) (cell_from (suc size) numbers (at - slice_words size)) here);
  }
  | inr beyond ↦
      let double : slice_words (suc size) ≡ slice_words size + slice_words size = slice_words-suc size in
      let same : slice_words (size + length (number ∷ numbers)) ≡ slice_words (suc size + length numbers) = ap slice_words (omega arith) in
      let rest : Placed (suc size) numbers (at - slice_words size) = placed (suc size) numbers (at - slice_words size) (omega (arith, double, same, within, beyond)) in
      record {
        nth = suc rest.nth;
        which = rest.which;
        far = rest.far;
        less = omega (arith, rest.less);
        which_is = omega (arith, rest.which_is);
        inside = rest.inside;
        sum = omega (arith, rest.sum, double, beyond);
        is = sym (cond_above at (slice_words size) (record { size = size; slice = number; at = at })
            (cell_from (suc size) numbers (at - slice_words size)) (record { size = rest.which; slice = get_or numbers rest.nth 0; at = rest.far }) beyond (sym rest.is));
      }
]

-- a live chain and its entry
record Entered (slots : List (Option Entry)) (region : List ClassState) (chain : ℕ) : Type 0 where
  entry : Entry
  found : get_or slots chain None ≡ Some entry
  numbers : numbers_of (holding_of slots region) chain ≡ entry.slices.items

-- a number with slices is a live chain's
entered : (slots : List (Option Entry)) (region : List ClassState) (chain : ℕ) (slot : Option Entry)
    → get_or slots chain None ≡ slot → 0 < slices_of (holding_of slots region) chain → Entered slots region chain
entered slots region chain None here some = absurd
    (let none : numbers_of (holding_of slots region) chain ≡ [] =
    ap (λ (o : Option Held). (unwrap_or {T = Held} o (record { words = []; slices = [] })).slices) (chain_is slots region chain ∙ ap (option_map (held_in region)) here) in
    let count : slices_of (holding_of slots region) chain ≡ 0 = ap length none in
    omega (arith, count, some))
entered slots region chain (Some entry) here some = record {
  entry = entry;
  found = here;
  numbers = ap (λ (o : Option Held). (unwrap_or {T = Held} o (record { words = []; slices = [] })).slices) (chain_some slots region chain entry here);
}

-- a live chain, its entry, and where a word of it lies
record Found (slots : List (Option Entry)) (region : List ClassState) (chain at : ℕ) : Type 0 where
  entry : Entry
  found : get_or slots chain None ≡ Some entry
  less : at < entry.len
  place : Placed 0 entry.slices.items at
  is : cell_of (holding_of slots region) chain at ≡ record { size = place.nth; slice = get_or entry.slices.items place.nth 0; at = place.far }
  inside : place.far < slice_words place.nth
  sum : at ≡ room_of place.nth + place.far

found_at : (slots : List (Option Entry)) (region : List ClassState) (chain at : ℕ) (slot : Option Entry) → IsPool slots region
    → get_or slots chain None ≡ slot → at < length (words_of (holding_of slots region) chain) → Found slots region chain at
found_at slots region chain at None pool here less = absurd
    (let none : words_of (holding_of slots region) chain ≡ [] =
    ap (λ (o : Option Held). (unwrap_or {T = Held} o (record { words = []; slices = [] })).words) (chain_is slots region chain ∙ ap (option_map (held_in region)) here) in
    let count : length (words_of (holding_of slots region) chain) ≡ 0 = ap length none in
    omega (arith, count, less))
found_at slots region chain at (Some entry) pool here less =
    let short : at < entry.len = omega (arith, length_held slots region chain entry pool here, less) in
    let one : slice_words 0 ≡ 16 = refl in
    let all : slice_words (0 + length entry.slices.items) ≡ 16 * 2 ^ length entry.slices.items = ap slice_words (omega arith) in
    let place : Placed 0 entry.slices.items at = placed 0 entry.slices.items at (omega (arith, one, all, short, (pool.owns chain entry here).within)) in
    let nth : place.which ≡ place.nth = omega (arith, place.which_is) in
    let words : slice_words place.which ≡ slice_words place.nth = ap slice_words nth in
    let slices : cell_of (holding_of slots region) chain at ≡ cell_from 0 entry.slices.items at =
    ap (λ (o : Option Held). cell_from 0 (unwrap_or {T = Held} o (record { words = []; slices = [] })).slices at) (chain_some slots region chain entry here) in
    let P : ℕ → Cell = λ size. record { size = size; slice = get_or entry.slices.items place.nth 0; at = place.far } in
    record {
      entry = entry;
      found = here;
      less = short;
      place = place;
      is = slices ∙ place.is ∙ ap P nth;
      inside = omega (arith, place.inside, words);
      sum = omega (arith, place.sum, words, one, pow_pos place.nth);
    }

-- the words of the slices of a size
region_is : (slots : List (Option Entry)) (region : List ClassState) (size : ℕ)
    → get_or (holding_of slots region).region size [] ≡ (state_at region size).words
region_is slots region size = get_or-map (λ state. state.words) region size (empty_state (slice_words size))

-- the word at a place of a slice that a chain holds
word_in : (slots : List (Option Entry)) (region : List ClassState) (size number far : ℕ) → IsPool slots region → IsTaken (state_at region size) number
    → far < slice_words size
    → word_at (holding_of slots region) (record { size = size; slice = number; at = far }) ≡ Some (get_or (slice_at (state_at region size) number) far 0)
word_in slots region size number far pool held inside =
    let state : ClassState = state_at region size in
    let width : state.width ≡ slice_words size = pool.sized.width size in
    let ends : number * state.width + state.width ≤ state.count * state.width = slice_ends number state.count state.width held.below in
    let start : number * state.width ≡ number * slice_words size = ap (λ w. number * w) width in
    ap (λ words. slice_get words (number * slice_words size + far)) (region_is slots region size)
    ∙ slice_get-get_or state.words (number * slice_words size + far) 0 (omega (arith, ends, start, width, inside, (pool.sized.whole size).words))
    ∙ ap Some (ap (λ from. get_or state.words (from + far) 0) (sym start) ∙ sym (get_or-slice number far state.width state.words (omega (arith, width, inside))))

pub separate : (slots : List (Option Entry)) (region : List ClassState) → IsPool slots region → AreSeparate (holding_of slots region)
separate slots region pool = record {
  lies = lies;
  inside = λ chain at less.
      let one : Found slots region chain at = found_at slots region chain at _ pool refl less in
      subst (λ (cell : Cell). cell.at < slice_words cell.size) (sym one.is) one.inside;
  apart = apart;
  slices = λ chain other size differ first second same.
      let one : Entered slots region chain = entered slots region chain _ refl (omega (arith, first)) in
      let two : Entered slots region other = entered slots region other _ refl (omega (arith, second)) in
      (pool.apart chain other one.entry two.entry differ one.found two.found).at size
      (omega (arith, first, ap length one.numbers)) (omega (arith, second, ap length two.numbers))
      (sym (ap (λ numbers. get_or numbers size 0) one.numbers) ∙ same ∙ ap (λ numbers. get_or numbers size 0) two.numbers);
  taken = λ chain size i less few same.
      let one : Entered slots region chain = entered slots region chain _ refl (omega (arith, less)) in
      let free : free_of (holding_of slots region) size ≡ (state_at region size).free = get_or-map (λ state. state.free) region size (empty_state (slice_words size)) in
      ((pool.owns chain one.entry one.found).taken size (omega (arith, less, ap length one.numbers))).apart i
      (omega (arith, few, ap length free))
      (sym (ap (λ numbers. get_or numbers i 0) free) ∙ same ∙ ap (λ numbers. get_or numbers size 0) one.numbers);
}
  where
    lies : (chain at : ℕ) → at < length (words_of (holding_of slots region) chain)
        → word_at (holding_of slots region) (cell_of (holding_of slots region) chain at) ≡ Some (get_or (words_of (holding_of slots region) chain) at 0)
    lies chain at less =
        let one : Found slots region chain at = found_at slots region chain at _ pool refl less in
        let owns : Owns region one.entry = pool.owns chain one.entry one.found in
        ap (word_at (holding_of slots region)) one.is
        ∙ word_in slots region one.place.nth _ one.place.far pool (owns.taken one.place.nth one.place.less) one.inside
        ∙ ap Some (sym (ap (λ words. get_or words at 0) (words_is slots region chain one.entry one.found)
        ∙ get_or-take one.entry.len (joined_from region 0 one.entry.slices.items) at 0 one.less
        ∙ get_or-joined region 0 one.entry.slices.items one.place.nth one.place.nth one.place.far at
        (owns_sized region one.entry pool.sized owns) one.place.less (omega arith) one.inside (omega (arith, one.sum, pow_pos one.place.nth))))

    apart : (chain other at place : ℕ) → at < length (words_of (holding_of slots region) chain) → place < length (words_of (holding_of slots region) other)
        → cell_of (holding_of slots region) chain at ≡ cell_of (holding_of slots region) other place → (chain ≡ other) × (at ≡ place)
    apart chain other at place less within same =
        let one : Found slots region chain at = found_at slots region chain at _ pool refl less in
        let two : Found slots region other place = found_at slots region other place _ pool refl within in
        let P : ℕ → ℕ → ℕ → Cell = λ size slice far. record { size = size; slice = slice; at = far } in
        let both : P one.place.nth (get_or one.entry.slices.items one.place.nth 0) one.place.far ≡ P two.place.nth (get_or two.entry.slices.items two.place.nth 0) two.place.far =
        sym one.is ∙ same ∙ two.is in
        let size : one.place.nth ≡ two.place.nth = ap (λ (p : Cell). p.size) both in
        let slice : get_or one.entry.slices.items one.place.nth 0 ≡ get_or two.entry.slices.items two.place.nth 0 = ap (λ (p : Cell). p.slice) both in
        let far : one.place.far ≡ two.place.far = ap (λ (p : Cell). p.at) both in
        let room : room_of one.place.nth ≡ room_of two.place.nth = ap room_of size in (
          elim (same_or_other chain other) [
            | inl equal ↦ equal
            | inr differ ↦ absurd ((pool.apart chain other one.entry two.entry differ one.found two.found).at one.place.nth one.place.less
                (omega (arith, size, two.place.less)) (slice ∙ ap (λ n. get_or two.entry.slices.items n 0) (sym size)))
          ],
          omega (arith, one.sum, two.sum, room, far),
        )

-- the region has as many words as the slices of all sizes
pub region_words : (region : List ClassState) → ((size : ℕ) → size < length region → length (get_or region size (empty_state 0)).words ≡ all_words (get_or region size (empty_state 0)))
    → sum_by length (map (λ state. state.words) region) ≡ sum_by all_words region
region_words [] whole = refl
region_words (state ∷ region) whole =
    let first : length state.words ≡ all_words state = whole 0 (omega arith) in
    let rest : sum_by length (map (λ state. state.words) region) ≡ sum_by all_words region = region_words region (λ size less. whole (suc size) (omega arith)) in
    omega (arith, sum_by-cons length state.words (map (λ s. s.words) region), sum_by-cons all_words state region, first, rest)

pub region_size : (slots : List (Option Entry)) (region : List ClassState) → IsPool slots region
    → sum_by length (holding_of slots region).region ≡ sum_by all_words region
region_size slots region pool = region_words region (λ size less. (sized_at region pool.sized size size (omega arith) less).whole.words)
