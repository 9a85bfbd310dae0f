-- What is left of a plan.
use Rattle.std.specs.Prelude.{ℕ, ℤ, List, [], ◌∷◌, Option, Some, None}
use Rattle.sq_trim.specs.Flags.{left_of}
use Rattle.sq_trim.specs.declared.admitted.Admitted.{Admitted}
use Rattle.sq_nodes.specs.Scores.{node_score, node_rest}
use Rattle.sq_eval.specs.Meaning.{scored_rows}
use Rattle.sq_eval.specs.declared.plan.Plan.{Plan}

-- the admitted rows that are left
abbrev pub admitted_left : Admitted → List ℕ
admitted_left a = left_of a.next a.flags.items

-- the admitted rows that the tree gives a score, each with it
abbrev pub plan_left : Plan → List (ℕ × ℤ)
plan_left p = scored_rows (node_score p.tree) (admitted_left p.admitted)

-- no run of further moves counts more steps: those of the admitted rows count none
abbrev pub plan_rest : Plan → ℕ
plan_rest p = node_rest p.tree

-- ---- lists of rows, each with a boost

abbrev pub first : List (ℕ × ℤ) → Option (ℕ × ℤ)
first [] = None
first (hit ∷ hits) = Some hit

abbrev pub without_first : List (ℕ × ℤ) → List (ℕ × ℤ)
without_first [] = []
without_first (hit ∷ hits) = hits
