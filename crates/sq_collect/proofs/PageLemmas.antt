-- What a page keeps as a hit comes, and as it is cut.
use Rattle.std.proofs.Common.{◌≡◌, ℕ, ◌+◌, ◌-◌, ◌<◌, ◌≤◌, true, false, List, [], ◌∷◌, ◌++◌, length, map, take, drop, inl, inr, ⊎_elim, ◌⊎◌, ◌^◌, min, Option, Some, None, refl, sym, ◌∙◌, ap, subst, arith}
use Rattle.std.specs.Cmp.{IsStrictWeakOrder}
use Rattle.std.specs.Prelude.{slice_get}
use Rattle.std.specs.List.Sorted.{IsPermutation, IsSortedBy}
use Rattle.std.proofs.lemmas.Bool.Decides.{nat_tests}
use Rattle.std.proofs.lemmas.List.{take-take, length-take, length-take-le, drop-take, length-map, length-append, map-append}
use Rattle.std.proofs.lemmas.List.Sorted.{length_permutation}
use Rattle.sq_base.specs.Sorting.{put, in_order}
use Rattle.sq_model.specs.Valid.{are_rising}
use Rattle.sq_ranking.specs.Keys.{directions_of, ranked_hit}
use Rattle.sq_ranking.specs.Ranking.{page_by}
use Rattle.sq_ranking.specs.declared.keys.Directions.{Directions}
use Rattle.sq_ranking.specs.declared.keys.RankedHit.{RankedHit}
use Rattle.sq_ranking.proofs.MemberLemmas.{Member, Within, of_order, in_front, above, rising_tail, one_of_number}
use Rattle.sq_ranking.proofs.OrderLemmas.{hit_before, hit_before-order, one_number}
use Rattle.sq_ranking.proofs.SortedLemmas.{in_order-sorted_within}
use Rattle.sq_collect.specs.Best.{row, best, before, is_past, IsBar, IsCut, IsEnough}
use Rattle.sq_collect.specs.Paged.{IsPageOf}
use Rattle.sq_collect.specs.declared.page.Page.{Page}
use Rattle.sq_collect.proofs.PutLemmas.{of_take, take_put, put_behind, full_put, in_order_take, last_of_sorted, barred_put, in_order_more}

at_end : {X : Type 0} (x : X) (xs : List X) → Member x (xs ++ x ∷ [])
at_end x [] = inl refl
at_end x (y ∷ ys) = inr (at_end x ys)

of_end : {X : Type 0} (xs : List X) (x z : X) → Member z (xs ++ x ∷ []) → Member z xs ⊎ (z ≡ x)
of_end [] x z (inl here) = inr here
of_end [] x z (inr there) = elim there [ ]
of_end (y ∷ ys) x z (inl here) = inl (inl here)
of_end (y ∷ ys) x z (inr there) = ⊎_elim (λ old. inl (inr old)) (λ new. inr new) (of_end ys x z there)

min-left : (a b : ℕ) → a ≤ b → min a b ≡ a
min-left a b low = omega (arith, low)

-- the last row is above the others
last_above : (hits : List RankedHit) (x : RankedHit) → are_rising (map row (hits ++ x ∷ [])) ≡ true → (y : RankedHit) → Member y hits → row y < row x
last_above [] x up y there = elim there [ ]
last_above (z ∷ zs) x up y (inl here) = subst (λ w. row w < row x) (sym here) (above row (row z) (zs ++ x ∷ []) up x (at_end x zs))
last_above (z ∷ zs) x up y (inr there) = last_above zs x (rising_tail row (row z) (map row (zs ++ x ∷ [])) up) y there

module _ (order : Directions) where
  is_order : IsStrictWeakOrder (hit_before (directions_of order))
  is_order = hit_before-order (directions_of order)

  one_hit : (hits : List RankedHit) → are_rising (map row hits) ≡ true → (x y : RankedHit) → Member x hits → Member y hits → hit_before (directions_of order) x y ≡ false → hit_before (directions_of order) y x ≡ false → x ≡ y
  one_hit hits up x y here there left right = one_of_number row hits up x y here there (one_number (directions_of order) (ranked_hit x) (ranked_hit y) left right)

  -- a hit that comes is put among those of the hits that are kept
  put_last : (kept hits : List RankedHit) (x : RankedHit) → Within kept hits → are_rising (map row (hits ++ x ∷ [])) ≡ true → in_order (hit_before (directions_of order)) (kept ++ x ∷ []) ≡ put (hit_before (directions_of order)) x (in_order (hit_before (directions_of order)) kept)
  put_last kept hits x within up =
      in_order_more (hit_before (directions_of order)) is_order (hits ++ x ∷ []) (one_hit (hits ++ x ∷ []) up) x kept (at_end x hits) (λ z there. in_front hits (x ∷ []) z (within z there))

  pub best_more : (limit : ℕ) (hits : List RankedHit) (x : RankedHit) → are_rising (map row (hits ++ x ∷ [])) ≡ true → best order limit (hits ++ x ∷ []) ≡ take limit (put (hit_before (directions_of order)) x (in_order (hit_before (directions_of order)) hits))
  best_more limit hits x up = ap (take limit) (put_last hits hits x (λ z there. there) up)

  pub kept_more : (limit : ℕ) (kept hits : List RankedHit) (x : RankedHit) → Within kept hits → are_rising (map row (hits ++ x ∷ [])) ≡ true → best order limit kept ≡ best order limit hits → best order limit (kept ++ x ∷ []) ≡ best order limit (hits ++ x ∷ [])
  kept_more limit kept hits x within up enough =
      let comes = hit_before (directions_of order) in
      ap (take limit) (put_last kept hits x within up)
      ∙ take_put comes limit x (in_order comes kept)
      ∙ ap (λ zs. take limit (put comes x zs)) enough
      ∙ sym (take_put comes limit x (in_order comes hits))
      ∙ sym (best_more limit hits x up)

  many_hits : (limit : ℕ) (hits : List RankedHit) → limit ≤ length (best order limit hits) → limit ≤ length (in_order (hit_before (directions_of order)) hits)
  many_hits limit hits many = let cut = length-take limit (in_order (hit_before (directions_of order)) hits) in omega (arith, cut, many)

  -- a hit that does not come before the bar changes none of the best
  pub skipped : (limit : ℕ) (hits : List RankedHit) (bar x : RankedHit) → are_rising (map row (hits ++ x ∷ [])) ≡ true → IsBar order limit hits (Some bar) → before order x bar ≡ false → best order limit (hits ++ x ∷ []) ≡ best order limit hits
  skipped limit hits bar x up barred later =
      let comes = hit_before (directions_of order) in
      best_more limit hits x up
      ∙ put_behind comes limit x (in_order comes hits) (many_hits limit hits barred.0) (λ y there.
      let lower : row y < row x = last_above hits x up y (of_order comes hits y (of_take limit (in_order comes hits) y there)) in
      let behind : comes x y ≡ false = is_order.chain x bar y later (barred.1 y there) in
      elim (comes y x) as (λ b. comes y x ≡ b → b ≡ true) [
        | true ↦ λ is. refl
        | false ↦ λ is. absurd (let equal = one_number (directions_of order) (ranked_hit y) (ranked_hit x) is behind in omega (arith, lower, equal))
      ] refl)

  pub bar_more : (limit : ℕ) (hits : List RankedHit) (x : RankedHit) (bar : Option RankedHit) → are_rising (map row (hits ++ x ∷ [])) ≡ true → IsBar order limit hits bar → IsBar order limit (hits ++ x ∷ []) bar
  bar_more limit hits x None up barred = tt
  bar_more limit hits x (Some bar) up barred =
      let comes = hit_before (directions_of order) in
      let more = best_more limit hits x up in (
        subst (λ zs. limit ≤ length zs) (sym more) (full_put comes limit x (in_order comes hits) barred.0),
        λ y there. barred_put comes is_order limit bar x (in_order comes hits) barred.0 barred.1 y (subst (λ zs. Member y zs) more there),
      )

  within_more : (kept hits : List RankedHit) (x : RankedHit) → Within kept hits → Within (kept ++ x ∷ []) (hits ++ x ∷ [])
  within_more kept hits x within z there = ⊎_elim (λ old. in_front hits (x ∷ []) z (within z old)) (λ new. subst (λ w. Member w (hits ++ x ∷ [])) (sym new) (at_end x hits)) (of_end kept x z there)

  pub enough_more : (limit : ℕ) (kept hits : List RankedHit) (bar : Option RankedHit) (x : RankedHit) → are_rising (map row (hits ++ x ∷ [])) ≡ true → IsEnough order limit kept bar hits → IsEnough order limit (kept ++ x ∷ []) bar (hits ++ x ∷ [])
  enough_more limit kept hits bar x up enough = record {
    among = within_more kept hits x enough.among;
    best_kept = kept_more limit kept hits x enough.among up enough.best_kept;
    barred = bar_more limit hits x bar up enough.barred;
  }

  pub enough_past : (limit : ℕ) (kept hits : List RankedHit) (bar : Option RankedHit) (x : RankedHit) → are_rising (map row (hits ++ x ∷ [])) ≡ true → is_past order bar x ≡ true → IsEnough order limit kept bar hits → IsEnough order limit kept bar (hits ++ x ∷ [])
  enough_past limit kept hits None x up past enough = absurd (no_bar past)
    where
      no_bar : false ≡ true → ⊥
      no_bar is = cc is
  enough_past limit kept hits (Some bar) x up past enough =
      let later : before order x bar ≡ false = grind (arith, past) in
      record {
        among = λ z there. in_front hits (x ∷ []) z (enough.among z there);
        best_kept = enough.best_kept ∙ sym (skipped limit hits bar x up enough.barred later);
        barred = bar_more limit hits x (Some bar) up enough.barred;
      }

  -- ---- cut to the best

  in_order_of : (kept sorted hits : List RankedHit) → are_rising (map row hits) ≡ true → Within kept hits → IsPermutation kept sorted → IsSortedBy (hit_before (directions_of order)) sorted → sorted ≡ in_order (hit_before (directions_of order)) kept
  in_order_of kept sorted hits up within moved risen =
      in_order-sorted_within (hit_before (directions_of order)) is_order kept (λ x y here there left right. one_hit hits up x y (within x here) (within y there) left right) sorted moved risen

  cut_bar : (limit : ℕ) (sorted hits : List RankedHit) (last : Option RankedHit) → IsSortedBy (hit_before (directions_of order)) sorted → limit ≤ length sorted → best order limit hits ≡ take limit sorted → last ≡ slice_get (take limit sorted) (length (take limit sorted) - 1) → IsBar order limit hits last
  cut_bar limit sorted hits None risen many are is = tt
  cut_bar limit sorted hits (Some bar) risen many are is = (
    subst (λ zs. limit ≤ length zs) (sym are) (let cut = length-take-le limit sorted many in omega (arith, cut)),
    λ y there. last_of_sorted (hit_before (directions_of order)) is_order limit sorted bar risen (sym is) y (subst (λ zs. Member y zs) are there),
  )

  pub enough_cut : (limit : ℕ) (kept hits cut : List RankedHit) (bar last : Option RankedHit) → are_rising (map row hits) ≡ true → limit ≤ length kept → IsEnough order limit kept bar hits → IsCut order limit kept cut last → IsEnough order limit cut last hits
  enough_cut limit kept hits cut bar last up many enough is =
      let comes = hit_before (directions_of order) in
      let sorted = is.sorted in
      let ordered : sorted ≡ in_order comes kept = in_order_of kept sorted hits up enough.among is.moved is.rises in
      let first : take limit sorted ≡ best order limit hits = ap (take limit) ordered ∙ enough.best_kept in
      let again : best order limit (take limit sorted) ≡ take limit sorted = ap (take limit) (in_order_take comes limit sorted is.rises) ∙ take-take limit limit sorted (omega arith) in
      let same_length = length_permutation kept sorted is.moved in
      record {
        among = λ z there. enough.among z (of_order comes kept z (subst (λ zs. Member z zs) ordered (of_take limit sorted z (subst (λ zs. Member z zs) is.first there))));
        best_kept = ap (best order limit) is.first ∙ again ∙ first;
        barred = cut_bar limit sorted hits last is.rises (omega (arith, many, same_length)) (sym first) (is.ends ∙ ap (λ zs. slice_get zs (length zs - 1)) is.first);
      }

-- ---- the whole page

-- the places of a page are settled by as many first hits as reach its end
same_places : (n front count : ℕ) (xs ys : List RankedHit) → front + count ≡ n → take n xs ≡ take n ys → take count (drop front xs) ≡ take count (drop front ys)
same_places n front count xs ys is alike =
    sym (drop-take front count xs) ∙ ap (λ k. drop front (take k xs)) is ∙ ap (drop front) alike ∙ ap (λ k. drop front (take k ys)) (sym is) ∙ drop-take front count ys

pub finished : (order : Directions) (start count : ℕ) (page : Page) (hits sorted : List RankedHit) → IsPageOf order start count page hits → are_rising (map row hits) ≡ true → IsPermutation page.kept.items sorted → IsSortedBy (before page.order) sorted → take page.count (drop page.before sorted) ≡ page_by ranked_hit (directions_of order) start count hits
finished order start count page hits sorted is up moved risen =
    let places = is.places in
    let size = is.size in
    let limited = is.limited in
    let whole : page.before + page.count ≡ page.limit = omega (arith, places, size, limited) in
    let ordered = in_order_of page.order page.kept.items sorted hits up is.kept.among moved risen in
    ap (λ zs. take page.count (drop page.before zs)) ordered
    ∙ same_places page.limit page.before page.count (in_order (before page.order) page.kept.items) (in_order (before page.order) hits) whole is.kept.best_kept
    ∙ ap (λ n. take n (drop page.before (in_order (before page.order) hits))) size
    ∙ ap (λ n. take count (drop n (in_order (before page.order) hits))) places
    ∙ ap (λ o. take count (drop (start - 1) (in_order (before o) hits))) is.ordered

-- ---- how many rows there are

few_behind : (low : ℕ) (rows : List ℕ) (last : ℕ) → are_rising (low ∷ (rows ++ last ∷ [])) ≡ true → low + length rows < last
few_behind low [] last up = grind (arith, nat_tests, up)
few_behind low (r ∷ rows) last up =
    let further = few_behind r rows last (grind (arith, up)) in
    let here : low < r = grind (arith, nat_tests, up) in
    omega (arith, further, here)

-- fewer rows come before a row than its number tells
pub few_rows : (rows : List ℕ) (last : ℕ) → are_rising (rows ++ last ∷ []) ≡ true → length rows ≤ last
few_rows [] last up = omega arith
few_rows (r ∷ rows) last up = let further = few_behind r rows last up in omega (arith, further)

pub one_more : (hits : List RankedHit) (x : RankedHit) (total : ℕ) → are_rising (map row (hits ++ x ∷ [])) ≡ true → row x < 2 ^ 32 → total ≡ length hits → min (total + 1) (2 ^ 64 - 1) ≡ length (hits ++ x ∷ [])
one_more hits x total up low is =
    let rows = few_rows (map row hits) (row x) (subst (λ ns. are_rising ns ≡ true) (map-append row hits (x ∷ [])) up) in
    let mapped = length-map hits row in
    let longer = length-append hits (x ∷ []) in
    let sum : total + 1 ≡ length (hits ++ x ∷ []) = omega (arith, longer, is) in
    min-left (total + 1) (2 ^ 64 - 1) (omega (arith, rows, mapped, low, is)) ∙ sum
