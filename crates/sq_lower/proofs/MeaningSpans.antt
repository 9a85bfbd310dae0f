-- The proximity expression of a lowered tree has the same matches.
use Rattle.std.proofs.Common.{◌≡◌, List, [], ◌∷◌, ◌++◌, map, refl, sym, ◌∙◌, ap, ap₂}
use Rattle.std.proofs.lemmas.List.{append-nil, map-append}
use Rattle.std.specs.List.{flat_map}
use Rattle.sq_model.specs.Passages.{Passage}
use Rattle.sq_model.specs.Lists.{joined}
use Rattle.sq_model.specs.Triples.{of_phrase, near}
use Rattle.sq_model.specs.Spans as fql
use Rattle.sq_model.specs.Kql as kql
use Rattle.sq_model.specs.declared.leaf.Leaf.{Leaf}
use Rattle.sq_model.specs.declared.kql.KTree.{KTree, Free, All, Words, Group', TextTest, ValueTest, Near', Run', And', Or', Xrank', Row_of-KTree, end_of-KTree, more_of-KTree}
use Rattle.sq_model.specs.declared.fql.SpanTree.TheVariants as s
use Rattle.sq_lower.proofs.Form.{spans, spans_each}
use Rattle.sq_model.proofs.FqlEquations.{triples_union, triples_near}

joined_of_leaves : (t : Passage) (leaves : List Leaf) → joined (map (fql.triples t) (map s.Leaf leaves)) ≡ flat_map (λ leaf. of_phrase leaf.pattern t) leaves
joined_of_leaves t [] = refl
joined_of_leaves t (leaf ∷ leaves) = ap (λ v. of_phrase leaf.pattern t ++ v) (joined_of_leaves t leaves)

mutual
  pub same_triples : (t : Passage) (k : KTree) → fql.triples t (spans k) ≡ kql.triples t k
  same_triples t (Free leaf) = refl
  same_triples t All = triples_union t []
  same_triples t (Words leaves) = triples_union t (map s.Leaf leaves) ∙ joined_of_leaves t leaves
  same_triples t (Group' p (more_of-KTree inside end_of-KTree)) = same_triples t inside ∙ sym (append-nil (kql.triples t inside))
  same_triples t (TextTest property relation leaf) = triples_union t []
  same_triples t (ValueTest property relation first last) = triples_union t []
  same_triples t (Near' p left q right n ordered) =
      triples_near t (spans_each left ++ spans_each right) n ordered
      ∙ ap (near n ordered)
      (map-append (fql.triples t) (spans_each left) (spans_each right) ∙ ap₂ (λ a b. a ++ b) (same_triples_each t left) (same_triples_each t right))
  same_triples t (Run' shape operands) = triples_union t []
  same_triples t (And' shape parts) = triples_union t []
  same_triples t (Or' shape parts) = triples_union t (spans_each parts) ∙ ap joined (same_triples_each t parts)
  same_triples t (Xrank' p matched q ranked cb) = triples_union t []

  same_triples_each : {m : _} (t : Passage) (parts : Row_of-KTree m) → map (fql.triples t) (spans_each parts) ≡ kql.triples_each t parts
  same_triples_each t end_of-KTree = refl
  same_triples_each t (more_of-KTree part rest) = ap₂ (λ a b. a ∷ b) (same_triples t part) (same_triples_each t rest)
