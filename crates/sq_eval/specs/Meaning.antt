-- What an expression gives the rows of a corpus.
use Rattle.std.specs.Prelude.{◌≡◌, ◌≤◌, ℕ, ◌+◌, ℤ, if◌then◌else◌, List, Option, Some, None, filter_map, option_map}
use Rattle.sq_model.specs.Access.{admits}
use Rattle.sq_model.specs.Cost.{cost, claim_cost}
use Rattle.sq_model.specs.Fql.{holds, gain}
use Rattle.sq_model.specs.FqlSound.{IsSound}
use Rattle.sq_model.specs.Valid.{IsValid}
use Rattle.sq_model.specs.declared.corpus.Corpus.{Corpus}
use Rattle.sq_model.specs.declared.fql.FTree.{FTree}
use Rattle.sq_postings.specs.Indexed.{Indexed}
use Rattle.sq_postings.specs.Occurrences.{values_at, rows_from}
use Rattle.sq_postings.specs.StandsFor.{StandsFor}

-- nothing where the expression doesn't hold of the item in the row, else its boost
abbrev pub meaning : Corpus → FTree → ℕ → Option ℤ
meaning corpus tree row =
    if holds corpus.schema (values_at corpus.items row) tree then Some (gain corpus.schema (values_at corpus.items row) tree) else None

-- the rows that have a score, each with it
abbrev pub scored_rows : (ℕ → Option ℤ) → List ℕ → List (ℕ × ℤ)
scored_rows score rows = filter_map (λ row. option_map (λ boost. (row, boost)) (score row)) rows

-- the rows of which the expression holds, each with its boost
abbrev pub hits : Corpus → FTree → List ℕ → List (ℕ × ℤ)
hits corpus tree rows = scored_rows (meaning corpus tree) rows

-- these are the hits among the rows that the claims admit, for each corpus that the index stands for and the expression is
-- sound for
abbrev pub HasHits : Indexed → List (List ℕ) → FTree → List (ℕ × ℤ) → Type 0
HasHits index claims tree left =
    (corpus : Corpus) → IsValid corpus → StandsFor index corpus → IsSound corpus.schema tree → left ≡ hits corpus tree (rows_from 0 (admits claims) corpus.items)

-- from before to after lie at most the claims' cost and the expression's, for each such corpus
abbrev pub IsWithinCost : Indexed → List (List ℕ) → FTree → ℕ → ℕ → Type 0
IsWithinCost index claims tree before after =
    (corpus : Corpus) → IsValid corpus → StandsFor index corpus → IsSound corpus.schema tree → after ≤ before + (claim_cost corpus claims + cost corpus tree)
