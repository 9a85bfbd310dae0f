-- Worked examples of FQL, over the texts and items of the other worked examples.
use Rattle.std.proofs.Common.{◌≡◌, ℕ, Bool, true, false, not, List, [], ◌∷◌, pos, refl, Some}
use Rattle.std.specs.Prelude.{codes}
use Rattle.sq_tokens.specs.Token.{text_tokens}
use Rattle.sq_model.specs.declared.corpus.Value.{Value}
use Rattle.sq_model.specs.declared.fql.Look.TheVariants.{Searchable, One}
use Rattle.sq_model.specs.declared.fql.SpanTree.{SpanTree}
use Rattle.sq_model.specs.declared.fql.SpanTree.TheVariants as s
use Rattle.sq_model.specs.declared.fql.SpanTree.TheBlock.{shape-the_row-SpanTree-0, hidden-the_row-SpanTree-0}
use Rattle.sq_model.specs.declared.fql.FTree.{FTree}
use Rattle.sq_model.specs.declared.fql.FTree.TheVariants as f
use Rattle.sq_model.specs.declared.fql.FTree.TheBlock.{shape-the_row-FTree-0, hidden-the_row-FTree-0, shape-the_row-FTree-1, hidden-the_row-FTree-1}
use Rattle.sq_model.specs.Lists.{is_empty}
use Rattle.sq_model.specs.Spans.{triples}
use Rattle.sq_model.specs.Copies.{copies, weights}
use Rattle.sq_model.specs.Fql.{holds, boost}
use Rattle.sq_model.proofs.WorkedExamples.{passage, leaf, merger, schema, values_of}

-- what unfolds where a tree is built from lists
unfoldable lists : Unit {0}
unfolding shape-the_row-SpanTree-0 hidden-the_row-SpanTree-0 shape-the_row-FTree-0 hidden-the_row-FTree-0 shape-the_row-FTree-1 hidden-the_row-FTree-1
    denote.Hole.Carrier.hidden
lists = tt

abbrev words : List ℕ → SpanTree
words text = s.Leaf (leaf text)

abbrev matches : SpanTree → Bool
matches tree = not (is_empty (triples merger tree))

the_whole_interval_counts : matches (s.Near (words (codes "merger") ∷ words (codes "old") ∷ words (codes "new") ∷ []) 4 false) ≡ false
unfolding lists
the_whole_interval_counts = refl

the_whole_interval_fits : matches (s.Near (words (codes "merger") ∷ words (codes "old") ∷ words (codes "new") ∷ []) 5 false) ≡ true
unfolding lists
the_whole_interval_fits = refl

a_near_of_nothing_has_no_match : matches (s.Near [] 9 false) ≡ false
unfolding lists
a_near_of_nothing_has_no_match = refl

-- ---- weights and copies

-- of the weights 2 and 1
abbrev either : SpanTree
either = s.Union (words (codes "old bank") ∷ words (codes "merger") ∷ [])

abbrev eight : List SpanTree
eight = either ∷ either ∷ either ∷ either ∷ either ∷ either ∷ either ∷ either ∷ []

eight_parts_have_256_copies : copies (s.Near eight 4 false) ≡ 256
unfolding lists
eight_parts_have_256_copies = refl

nine_parts_have_512_copies : copies (s.Near (either ∷ eight) 4 false) ≡ 512
unfolding lists
nine_parts_have_512_copies = refl

weights_of_a_near : weights (s.Near (either ∷ either ∷ []) 4 false) ≡ 4 ∷ 3 ∷ 2 ∷ []
unfolding lists
weights_of_a_near = refl

-- ---- item 2: the title "debt notes", the body "acquisition of company debt", the size 7

module _ (heading body : List ℕ) (h : text_tokens heading ≡ passage (codes "debt notes")) (b : text_tokens body ≡ passage (codes "acquisition of company debt")) where
  abbrev two : List Value
  two = values_of heading body (pos 7)

  abbrev anywhere : List ℕ → FTree
  anywhere text = f.Spans Searchable (words text)

  a_phrase_stays_in_one_passage : holds schema two (anywhere (codes "notes acquisition")) ≡ false
  unfolding lists
  a_phrase_stays_in_one_passage = rw (h, b) refl

  counts_add_over_passages : holds schema two (f.Count Searchable (leaf (codes "debt")) 2 (Some 3)) ≡ true
  unfolding lists
  counts_add_over_passages = rw (h, b) refl

  a_count_stays_below_its_end : holds schema two (f.Count Searchable (leaf (codes "debt")) 1 (Some 2)) ≡ false
  unfolding lists
  a_count_stays_below_its_end = rw (h, b) refl

  the_end_of_a_passage : holds schema two (f.Edge (One 1) (leaf (codes "company debt")) false true) ≡ true
  unfolding lists
  the_end_of_a_passage = rw b refl

  both_ends_by_one_place : holds schema two (f.Edge (One 1) (leaf (codes "debt")) true true) ≡ false
  unfolding lists
  both_ends_by_one_place = rw b refl

  and_not_without_the_others : holds schema two (f.AndNot (anywhere (codes "debt")) (anywhere (codes "before") ∷ anywhere (codes "notes") ∷ [])) ≡ false
  unfolding lists
  and_not_without_the_others = rw (h, b) refl

  an_empty_interval : holds schema two (f.Within 2 (pos 1) (pos 0)) ≡ false
  unfolding lists
  an_empty_interval = refl

  xrank_adds_once : boost schema two (f.Xrank (anywhere (codes "debt")) (anywhere (codes "notes") ∷ anywhere (codes "company") ∷ []) (pos 5)) ≡ pos 5
  unfolding lists
  xrank_adds_once = rw h refl
