-- What the streams of a proximity expression give, one for each weight.
use Rattle.std.specs.Prelude.{ℕ, Bool, List, [], ◌∷◌, map, sum}
use Rattle.sq_cursor.specs.declared.span.Span.{Span}
use Rattle.sq_model.specs.Spans.{triples}
use Rattle.sq_model.specs.Triples.{near}
use Rattle.sq_model.specs.declared.corpus.Corpus.{Corpus}
use Rattle.sq_model.specs.declared.fql.Look.{Look}
use Rattle.sq_model.specs.declared.fql.SpanTree.{SpanTree}
use Rattle.sq_near.specs.Covers.{matches_at}
use Rattle.sq_least.specs.Dense.{Dense}
use Rattle.sq_least.specs.Laws.{of_weight, of_weights}
use Rattle.sq_model.specs.Valid.{IsValid}
use Rattle.sq_postings.specs.Indexed.{Indexed}
use Rattle.sq_postings.specs.StandsFor.{StandsFor}
use Rattle.sq_streams.specs.Looked.{passage_looked}

-- in each passage that is looked at the spans are enough of the matches of weight v
pub record IsStreamOf (corpus : Corpus) (look : Look) (tree : SpanTree) (v : ℕ) (spans : List Span) : Type 0 where
  pub dense : (row part : ℕ) → Dense (of_weight v (triples (passage_looked corpus look row part) tree)) (matches_at v (row, part) spans)

-- each list is the stream of the expression that stands at its place, of the weight that stands there
abbrev pub EachStreamOf : Corpus → Look → List SpanTree → List ℕ → List (List Span) → Type 0
EachStreamOf corpus look [] [] [] = Unit {0}
EachStreamOf corpus look (tree ∷ trees) (v ∷ vs) (spans ∷ lists) = IsStreamOf corpus look tree v spans × EachStreamOf corpus look trees vs lists
EachStreamOf corpus look trees vs lists = ⊥

-- the spans are enough of the matches of a near whose parts weigh what stands at their places
pub record IsJoinOf (corpus : Corpus) (look : Look) (parts : List SpanTree) (n : ℕ) (ordered : Bool) (vs : List ℕ) (spans : List Span) : Type 0 where
  pub dense : (row part : ℕ) →
      Dense (near n ordered (of_weights vs (map (triples (passage_looked corpus look row part)) parts))) (matches_at (sum vs) (row, part) spans)

-- each list is what is asked for at its place
abbrev pub EachOf : {X : Type 0} → (X → List Span → Type 0) → List X → List (List Span) → Type 0
EachOf is [] [] = Unit {0}
EachOf is (x ∷ xs) (spans ∷ lists) = is x spans × EachOf is xs lists
EachOf is xs lists = ⊥

-- each list is the join for the choice of weights that stands at its place
abbrev pub EachJoinOf : Corpus → Look → List SpanTree → ℕ → Bool → List (List ℕ) → List (List Span) → Type 0
EachJoinOf corpus look parts n ordered = EachOf (IsJoinOf corpus look parts n ordered)

-- the lists are the streams of one expression, of the weights that stand at their places
abbrev pub EachWeightOf : Corpus → Look → SpanTree → List ℕ → List (List Span) → Type 0
EachWeightOf corpus look tree = EachOf (IsStreamOf corpus look tree)

-- ---- for each valid corpus that an index stands for

abbrev pub IsStreamFor : Indexed → Look → SpanTree → ℕ → List Span → Type 0
IsStreamFor index look tree v spans = (corpus : Corpus) → IsValid corpus → StandsFor index corpus → IsStreamOf corpus look tree v spans

abbrev pub EachStreamFor : Indexed → Look → List SpanTree → List ℕ → List (List Span) → Type 0
EachStreamFor index look trees vs lists = (corpus : Corpus) → IsValid corpus → StandsFor index corpus → EachStreamOf corpus look trees vs lists

abbrev pub EachJoinFor : Indexed → Look → List SpanTree → ℕ → Bool → List (List ℕ) → List (List Span) → Type 0
EachJoinFor index look parts n ordered choices lists =
    (corpus : Corpus) → IsValid corpus → StandsFor index corpus → EachJoinOf corpus look parts n ordered choices lists

abbrev pub EachWeightFor : Indexed → Look → SpanTree → List ℕ → List (List Span) → Type 0
EachWeightFor index look tree vs lists = (corpus : Corpus) → IsValid corpus → StandsFor index corpus → EachWeightOf corpus look tree vs lists
