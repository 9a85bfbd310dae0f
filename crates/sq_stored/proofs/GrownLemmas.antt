-- Lists that grew, and what is read below their old end.
use Rattle.std.proofs.Common.{◌≡◌, ℕ, ◌-◌, ◌<◌, ◌≤◌, List, ◌++◌, length, take, drop, get_or, refl, sym, ap, subst, ◌∙◌, arith, slice_range, append_assoc, length-append}
use Rattle.std.proofs.lemmas.List.{append-nil, drop_all, drop_at, drop-append-le, take-append-le, length-drop, get_or_append_left, take_all}
use Rattle.sq_stored.specs.Runs.{IsGrown}

module _ {X : Type 0} where
  pub grown_refl : (items : List X) → IsGrown items items
  grown_refl items = sym (ap (λ l. items ++ l) (drop_all (length items) items (omega arith)) ∙ append-nil items)

  pub grown_append : (items more : List X) → IsGrown items (items ++ more)
  grown_append items more = sym (ap (λ l. items ++ l) (drop_at items more (length items) refl))

  pub grown_by : (items grown more : List X) → grown ≡ items ++ more → IsGrown items grown
  grown_by items grown more e = subst (IsGrown items) (sym e) (grown_append items more)

  pub grown_trans : (a b c : List X) → IsGrown a b → IsGrown b c → IsGrown a c
  grown_trans a b c first second =
      grown_by a c (drop (length a) b ++ drop (length b) c)
      (second ∙ ap (λ l. l ++ drop (length b) c) first ∙ append_assoc a (drop (length a) b) (drop (length b) c))

  pub grown_length : (items grown : List X) → IsGrown items grown → length items ≤ length grown
  grown_length items grown g = omega (arith, ap length g, length-append items (drop (length items) grown))

  pub range_grown : (items grown : List X) (start end : ℕ) → IsGrown items grown → start ≤ end → end ≤ length items
      → slice_range grown start end ≡ slice_range items start end
  range_grown items grown start end g ordered within =
      ap (λ l. slice_range l start end) g
      ∙ ap (take (end - start)) (drop-append-le start items (drop (length items) grown) (omega arith))
      ∙ take-append-le (end - start) (drop start items) (drop (length items) grown) (omega (arith, length-drop start items))

  pub at_grown : (items grown : List X) (i : ℕ) (d : X) → IsGrown items grown → i < length items → get_or grown i d ≡ get_or items i d
  at_grown items grown i d g l = ap (λ l. get_or l i d) g ∙ get_or_append_left items (drop (length items) grown) d i l

  -- the list behind its old end
  pub range_behind : (items more : List X) → slice_range (items ++ more) (length items) (length (items ++ more)) ≡ more
  range_behind items more =
      ap (take (length (items ++ more) - length items)) (drop_at items more (length items) refl)
      ∙ take_all (length (items ++ more) - length items) more (omega (arith, length-append items more))
