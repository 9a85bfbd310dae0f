-- Scores, costs and soundness of expressions by their parts as lists, as code meets them.
use Rattle.std.proofs.Common.{◌≡◌, ◌+◌, not, List, ◌∷◌, map, sum, refl, ap, subst, ◌∙◌, None, arith}
use Rattle.std.specs.List.{list_any, AllByRecursion}
use Rattle.std.specs.Prelude.{ℤ, pos, is_some}
use Rattle.sq_schema.specs.declared.property.Property.{Property}
use Rattle.sq_model.specs.Cost.{reads, reads_of}
use Rattle.sq_model.specs.FqlSound.{PartsSound, SomeSound, EachSound}
use Rattle.sq_model.specs.Sums.{sums_over}
use Rattle.sq_model.specs.declared.corpus.Corpus.{Corpus}
use Rattle.sq_model.specs.declared.corpus.Value.{Value}
use Rattle.sq_model.specs.declared.fql.FTree.{FTree, And, Or, AndNot, Not, Filter, Xrank, Row_of-FTree, end_of-FTree, more_of-FTree, items-the_row-FTree, items_hidden-the_row-FTree-0}
use Rattle.sq_model.specs.declared.fql.FTree.TheBlock.{shape-the_row-FTree-1, hidden-the_row-FTree-0, hidden-the_row-FTree-1}
use Rattle.sq_nodes.specs.Scores.{all_from, some_from, unless, with_boost}
use Rattle.sq_nodes.specs.Leaves.{plain}
use Rattle.sq_eval.specs.Scored.{scored, scored_each}

-- ---- scores

module _ (schema : List Property) (values : List Value) where
  scored_of_row : {m : _} (row : Row_of-FTree m) → scored_each schema values row ≡ map (scored schema values) (items-the_row-FTree m row)
  scored_of_row end_of-FTree = refl
  scored_of_row (more_of-FTree part rest) = ap (λ r. scored schema values part ∷ r) (scored_of_row rest)

  scored_of_list : (parts : List FTree) → scored_each schema values (hidden-the_row-FTree-0 parts) ≡ map (scored schema values) parts
  scored_of_list parts = scored_of_row (hidden-the_row-FTree-0 parts) ∙ ap (map (scored schema values)) (items_hidden-the_row-FTree-0 parts)

  pub scored_and : (parts : List FTree) → scored schema values (And parts) ≡ all_from (pos 0) (map (scored schema values) parts)
  scored_and parts = ap (all_from (pos 0)) (scored_of_list parts)

  pub scored_or : (parts : List FTree) → scored schema values (Or parts) ≡ some_from None (map (scored schema values) parts)
  scored_or parts = ap (some_from None) (scored_of_list parts)

  pub scored_and_not : (first : FTree) (others : List FTree) →
      scored schema values (AndNot first others) ≡ unless (list_any is_some (map (scored schema values) others)) (scored schema values first)
  unfolding shape-the_row-FTree-1 hidden-the_row-FTree-1 denote.Hole.Carrier.hidden
  scored_and_not first others = ap (λ scores. unless (list_any is_some scores) (scored schema values first)) (scored_of_list others)

  pub scored_not : (inner : FTree) → scored schema values (Not inner) ≡ plain (not (is_some (scored schema values inner)))
  unfolding shape-the_row-FTree-1 hidden-the_row-FTree-1 denote.Hole.Carrier.hidden
  scored_not inner = refl

  pub scored_filter : (inner : FTree) → scored schema values (Filter inner) ≡ plain (is_some (scored schema values inner))
  unfolding shape-the_row-FTree-1 hidden-the_row-FTree-1 denote.Hole.Carrier.hidden
  scored_filter inner = refl

  pub scored_xrank : (matched : FTree) (ranks : List FTree) (cb : ℤ) →
      scored schema values (Xrank matched ranks cb) ≡ with_boost (list_any is_some (map (scored schema values) ranks)) cb (scored schema values matched)
  unfolding shape-the_row-FTree-1 hidden-the_row-FTree-1 denote.Hole.Carrier.hidden
  scored_xrank matched ranks cb = ap (λ scores. with_boost (list_any is_some scores) cb (scored schema values matched)) (scored_of_list ranks)

-- ---- costs

module _ (corpus : Corpus) where
  reads_of_row : {m : _} (row : Row_of-FTree m) → sums_over (reads_of corpus) row ≡ map (reads corpus) (items-the_row-FTree m row)
  reads_of_row end_of-FTree = refl
  reads_of_row (more_of-FTree part rest) = ap (λ r. reads corpus part ∷ r) (reads_of_row rest)

  reads_of_list : (parts : List FTree) → sums_over (reads_of corpus) (hidden-the_row-FTree-0 parts) ≡ map (reads corpus) parts
  reads_of_list parts = reads_of_row (hidden-the_row-FTree-0 parts) ∙ ap (map (reads corpus)) (items_hidden-the_row-FTree-0 parts)

  pub reads_and : (parts : List FTree) → reads corpus (And parts) ≡ sum (map (reads corpus) parts)
  reads_and parts = ap sum (reads_of_list parts)

  pub reads_or : (parts : List FTree) → reads corpus (Or parts) ≡ sum (map (reads corpus) parts)
  reads_or parts = ap sum (reads_of_list parts)

  pub reads_and_not : (first : FTree) (others : List FTree) → reads corpus (AndNot first others) ≡ reads corpus first + sum (map (reads corpus) others)
  unfolding shape-the_row-FTree-1 hidden-the_row-FTree-1 denote.Hole.Carrier.hidden
  reads_and_not first others = let e = ap sum (reads_of_list others) in omega (arith, e)

  pub reads_not : (inner : FTree) → reads corpus (Not inner) ≡ reads corpus inner
  unfolding shape-the_row-FTree-1 hidden-the_row-FTree-1 denote.Hole.Carrier.hidden
  reads_not inner = omega arith

  pub reads_filter : (inner : FTree) → reads corpus (Filter inner) ≡ reads corpus inner
  unfolding shape-the_row-FTree-1 hidden-the_row-FTree-1 denote.Hole.Carrier.hidden
  reads_filter inner = omega arith

  pub reads_xrank : (matched : FTree) (ranks : List FTree) (cb : ℤ) → reads corpus (Xrank matched ranks cb) ≡ reads corpus matched + sum (map (reads corpus) ranks)
  unfolding shape-the_row-FTree-1 hidden-the_row-FTree-1 denote.Hole.Carrier.hidden
  reads_xrank matched ranks cb = let e = ap sum (reads_of_list ranks) in omega (arith, e)

-- ---- soundness

module _ (schema : List Property) where
  each_of_row : {m : _} (row : Row_of-FTree m) → EachSound schema row → AllByRecursion (PartsSound schema) (items-the_row-FTree m row)
  each_of_row end_of-FTree sound = tt
  each_of_row (more_of-FTree part rest) sound = (sound.0, each_of_row rest sound.1)

  some_of_row : {m : _} (row : Row_of-FTree m) → SomeSound schema row → AllByRecursion (PartsSound schema) (items-the_row-FTree m row)
  some_of_row end_of-FTree sound = absurd sound
  some_of_row (more_of-FTree part rest) sound = (sound.0, each_of_row rest sound.1)

  each_of_list : (parts : List FTree) → SomeSound schema (hidden-the_row-FTree-0 parts) → AllByRecursion (PartsSound schema) parts
  each_of_list parts sound = subst (AllByRecursion (PartsSound schema)) (items_hidden-the_row-FTree-0 parts) (some_of_row (hidden-the_row-FTree-0 parts) sound)

  pub sound_and : (parts : List FTree) → PartsSound schema (And parts) → AllByRecursion (PartsSound schema) parts
  sound_and parts sound = each_of_list parts sound

  pub sound_or : (parts : List FTree) → PartsSound schema (Or parts) → AllByRecursion (PartsSound schema) parts
  sound_or parts sound = each_of_list parts sound

  pub sound_and_not : (first : FTree) (others : List FTree) → PartsSound schema (AndNot first others) → PartsSound schema first × AllByRecursion (PartsSound schema) others
  unfolding shape-the_row-FTree-1 hidden-the_row-FTree-1 denote.Hole.Carrier.hidden
  sound_and_not first others sound = (sound.0.0, each_of_list others sound.1)

  pub sound_not : (inner : FTree) → PartsSound schema (Not inner) → PartsSound schema inner
  unfolding shape-the_row-FTree-1 hidden-the_row-FTree-1 denote.Hole.Carrier.hidden
  sound_not inner sound = sound.0

  pub sound_filter : (inner : FTree) → PartsSound schema (Filter inner) → PartsSound schema inner
  unfolding shape-the_row-FTree-1 hidden-the_row-FTree-1 denote.Hole.Carrier.hidden
  sound_filter inner sound = sound.0

  pub sound_xrank : (matched : FTree) (ranks : List FTree) (cb : ℤ) → PartsSound schema (Xrank matched ranks cb) → PartsSound schema matched × AllByRecursion (PartsSound schema) ranks
  unfolding shape-the_row-FTree-1 hidden-the_row-FTree-1 denote.Hole.Carrier.hidden
  sound_xrank matched ranks cb sound = (sound.0.0, each_of_list ranks sound.1)
