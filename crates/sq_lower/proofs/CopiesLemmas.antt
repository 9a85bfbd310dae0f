-- The proximity expression that a KQL tree is lowered to has its weights and its copies.
use Rattle.std.proofs.Common.{◌≡◌, ℕ, ◌*◌, false, List, [], ◌∷◌, ◌++◌, map, length, refl, sym, ap, ap₂, ◌∙◌, arith}
use Rattle.std.proofs.lemmas.Bool.{true≢false}
use Rattle.std.proofs.lemmas.List.{append-nil}
use Rattle.std.specs.Prelude.{max, sum}
use Rattle.sq_schema.specs.declared.property.Property.{Property}
use Rattle.sq_model.specs.Lists.{is_empty, joined}
use Rattle.sq_model.specs.Triples.{choices}
use Rattle.sq_model.specs.Copies as span
use Rattle.sq_model.specs.Copies.{distinct, greatest, product}
use Rattle.sq_model.specs.KqlCopies.{weights, weights_each, copies, copies_each}
use Rattle.sq_model.specs.KqlSound.{PartsSound, SomeSound, EachSound}
use Rattle.sq_model.specs.declared.leaf.Leaf.{Leaf}
use Rattle.sq_model.specs.declared.fql.SpanTree.TheVariants as s
use Rattle.sq_model.specs.declared.kql.KTree.{KTree, Free, Words, Group', Near', Or', Row_of-KTree, end_of-KTree, more_of-KTree}
use Rattle.sq_lower.proofs.Form.{spans, spans_each}
use Rattle.sq_typing.proofs.DistinctLemmas.{distinct_again}
use Rattle.sq_typing.proofs.SpanLemmas.{weights_union, weights_near, copies_union, copies_near}

-- ---- weights

-- no weight stands twice in a list of weights
weights_once : (k : KTree) → distinct (weights k) ≡ weights k
weights_once (Free leaf) = refl
weights_once (Words leaves) = distinct_again (map (λ leaf. length leaf.pattern.texts) leaves)
weights_once (Group' p inside) = distinct_again (joined (weights_each inside))
weights_once (Or' shape parts) = distinct_again (joined (weights_each parts))
weights_once (Near' p left q right n ordered) = distinct_again (map sum (choices (weights_each left ++ weights_each right)))
weights_once _ = refl

leaf_weights : (leaves : List Leaf) → joined (map span.weights (map s.Leaf leaves)) ≡ map (λ leaf. length leaf.pattern.texts) leaves
leaf_weights [] = refl
leaf_weights (leaf ∷ rest) = ap (λ ns. length leaf.pattern.texts ∷ ns) (leaf_weights rest)

mutual
  pub weights_kept : (k : KTree) → span.weights (spans k) ≡ weights k
  weights_kept (Free leaf) = refl
  weights_kept (Words leaves) = weights_union (map s.Leaf leaves) ∙ ap distinct (leaf_weights leaves)
  weights_kept (Group' p (more_of-KTree inside end_of-KTree)) = weights_kept inside ∙ sym (ap distinct (append-nil (weights inside)) ∙ weights_once inside)
  weights_kept (Or' shape parts) = weights_union (spans_each parts) ∙ ap (λ lists. distinct (joined lists)) (each_weight_kept parts)
  weights_kept (Near' p (more_of-KTree left end_of-KTree) q (more_of-KTree right end_of-KTree) n ordered) =
      weights_near (spans left ∷ spans right ∷ []) n ordered ∙ ap₂ (λ a b. distinct (map sum (choices (a ∷ b ∷ [])))) (weights_kept left) (weights_kept right)
  weights_kept _ = weights_union []

  each_weight_kept : {m : _} (row : Row_of-KTree m) → map span.weights (spans_each row) ≡ weights_each row
  each_weight_kept end_of-KTree = refl
  each_weight_kept (more_of-KTree part rest) = ap₂ (λ ns lists. ns ∷ lists) (weights_kept part) (each_weight_kept rest)

-- ---- copies

leaf_copies : (leaf : Leaf) (leaves : List Leaf) → greatest (map span.copies (map s.Leaf (leaf ∷ leaves))) ≡ 1
leaf_copies leaf [] = refl
leaf_copies leaf (next ∷ rest) = ap (max 1) (leaf_copies next rest)

words_copies : (leaves : List Leaf) → is_empty leaves ≡ false → greatest (map span.copies (map s.Leaf leaves)) ≡ 1
words_copies [] some = absurd (true≢false some)
words_copies (leaf ∷ leaves) some = leaf_copies leaf leaves

alone_greatest : (n : ℕ) → n ≡ max n 0
alone_greatest n = omega arith

module _ (schema : List Property) where
  pub each_of_some : {m : _} (row : Row_of-KTree m) → SomeSound schema row → EachSound schema row
  each_of_some end_of-KTree sound = absurd sound
  each_of_some (more_of-KTree part rest) sound = sound

  mutual
    pub copies_kept : (k : KTree) → PartsSound schema k → span.copies (spans k) ≡ copies k
    copies_kept (Free leaf) sound = refl
    copies_kept (Words leaves) sound = copies_union (map s.Leaf leaves) ∙ words_copies leaves sound.0
    copies_kept (Group' p (more_of-KTree inside end_of-KTree)) sound = copies_kept inside sound.0 ∙ alone_greatest (copies inside)
    copies_kept (Or' shape parts) sound = copies_union (spans_each parts) ∙ ap greatest (each_copy_kept parts (each_of_some parts sound))
    copies_kept (Near' p (more_of-KTree left end_of-KTree) q (more_of-KTree right end_of-KTree) n ordered) sound =
        copies_near (spans left ∷ spans right ∷ []) n ordered
        ∙ ap₂ (λ lists numbers. product (map length lists) * greatest numbers) (ap₂ (λ a b. a ∷ b ∷ []) (weights_kept left) (weights_kept right))
        (ap₂ (λ a b. a ∷ b ∷ []) (copies_kept left sound.0.0) (copies_kept right sound.1.0))
    copies_kept _ sound = copies_union []

    each_copy_kept : {m : _} (row : Row_of-KTree m) → EachSound schema row → map span.copies (spans_each row) ≡ copies_each row
    each_copy_kept end_of-KTree sound = refl
    each_copy_kept (more_of-KTree part rest) sound = ap₂ (λ n ns. n ∷ ns) (copies_kept part sound.0) (each_copy_kept rest sound.1)
