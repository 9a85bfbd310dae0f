use Rattle.std.proofs.Common.{◌≡◌, ℕ, length}
use Rattle.std.specs.Prelude.{sum_by}
use Rattle.sq_pool.specs.SizeClass.{taken_words, all_words}
use Rattle.sq_pool.specs.Region.{states, state_at, empty_state, slice_words}
use Rattle.sq_pool.proofs.region.empty_classes.Given as goal

abbrev pub invariant-loop-size : goal.invariant-loop-size
invariant-loop-size l = record {
  sizes : length l.classes.items ≡ l.size;
  empty : (size : ℕ) → state_at (states l.classes.items) size ≡ empty_state (slice_words size);
  held : sum_by taken_words (states l.classes.items) ≡ 0;
  all : sum_by all_words (states l.classes.items) ≡ 0;
}
