use Rattle.std.proofs.Common.{◌≡◌, ◌*◌, ◌^◌, ◌%◌, ◌≤◌, ◌∙◌, ap, sym, refl, arith, length, ◌++◌, ◌∷◌, [], length-append}
use Rattle.std.proofs.lemmas.List.{map-append, length-map}
use Rattle.std.proofs.lemmas.List.Sums.{sum_by-append}
use Rattle.sq_pool.specs.SizeClass.{taken_words, all_words}
use Rattle.sq_pool.specs.Region.{states, empty_state, slice_words}
use Rattle.sq_pool.proofs.RegionLemmas.{slice_words-le, empty_more}
use Rattle.sq_pool.proofs.region.empty_classes.Goals as goal

pub new-requires-clause-narrow : goal.new-requires-clause-narrow
new-requires-clause-narrow c =
    let small : 16 * 2 ^ c.loop-size.size ≤ 16 * 2 ^ 29 = slice_words-le c.loop-size.size 29 (omega arith) in
    omega (arith, small)

pub loop-size-preserved : goal.loop-size-preserved
loop-size-preserved c =
    let small : 16 * 2 ^ c.loop-size.size ≤ 16 * 2 ^ 29 = slice_words-le c.loop-size.size 29 (omega arith) in
    let wide : (16 * 2 ^ c.loop-size.size) % 18446744073709551616 ≡ slice_words c.loop-size.size = omega (arith, small) in
    let sizes : length (states c.loop-size.classes.items) ≡ c.loop-size.size = length-map _ _ ∙ c.loop-size.invariant.sizes in
    let state : c.new.result.state ≡ empty_state (slice_words (length (states c.loop-size.classes.items))) =
    c.new.ensures ∙ ap empty_state wide ∙ ap (λ size. empty_state (slice_words size)) (sym sizes) in
    let items : states c.push.new.self.items ≡ states c.loop-size.classes.items ++ empty_state (slice_words (length (states c.loop-size.classes.items))) ∷ [] =
    rw (c.in_ok-push.ensures.items, map-append, state) refl in
    record {
      sizes = rw c.in_ok-push.ensures.items (omega (arith, c.loop-size.invariant.sizes, length-append c.loop-size.classes.items (c.new.result ∷ [])));
      empty = rw items (empty_more (states c.loop-size.classes.items) c.loop-size.invariant.empty);
      held = rw items (rw (sum_by-append taken_words (states c.loop-size.classes.items)) (rw c.loop-size.invariant.held (omega arith)));
      all = rw items (rw (sum_by-append all_words (states c.loop-size.classes.items)) (rw c.loop-size.invariant.all (omega arith)));
    }
