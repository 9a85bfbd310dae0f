-- The score that a node gives a row: nothing where it doesn't hold, and else its boost.
use Rattle.std.specs.Prelude.{ℕ, ◌+◌, ℤ, pos, ◌+ℤ◌, Bool, not, if◌then◌else◌, List, [], ◌∷◌, Option, Some, None, map, sum, is_some}
use Rattle.std.specs.List.{list_any}
use Rattle.std.specs.Int.{saturate_signed}
use Rattle.std.proofs.Common.{w64}
use Rattle.sq_cursor.specs.Entries.{entries_behind}
use Rattle.sq_nodes.specs.declared.node.Node.{Node}
use Rattle.sq_nodes.specs.declared.node.Without.{Without}
use Rattle.sq_nodes.specs.declared.node.Ranked.{Ranked}
use Rattle.sq_nodes.specs.declared.node.Node.TheOpen.{Node-F, Without-F, Ranked-F}
use Rattle.sq_nodes.specs.declared.node.Node.TheFolds.{fold-Node, fold-Without, fold-Ranked}
use Rattle.sq_nodes.specs.Leaves.{plain, spans_score, count_score, edge_score, within_score, spans_rest, streams_rest, edge_rest}

-- the nearest number of 64 bits
abbrev pub saturated : ℤ → ℤ
saturated n = saturate_signed w64 n

-- all scores added to a sum, and nothing where one is nothing
abbrev pub all_from : ℤ → List (Option ℤ) → Option ℤ
all_from total [] = Some total
all_from total (None ∷ scores) = None
all_from total (Some boost ∷ scores) = all_from (saturated (total +ℤ boost)) scores

-- the sum of two scores, and the one that is there where the other is nothing
abbrev pub added : Option ℤ → Option ℤ → Option ℤ
added None score = score
added (Some total) None = Some total
added (Some total) (Some boost) = Some (saturated (total +ℤ boost))

-- the scores that are there added to a sum, which is nothing where no score is there
abbrev pub some_from : Option ℤ → List (Option ℤ) → Option ℤ
some_from total [] = total
some_from total (score ∷ scores) = some_from (added total score) scores

abbrev pub unless : Bool → Option ℤ → Option ℤ
unless fails score = if fails then None else score

-- a boost more where ranked
abbrev pub with_boost : Bool → ℤ → Option ℤ → Option ℤ
with_boost ranked boost None = None
with_boost ranked boost (Some before) = Some (if ranked then saturated (before +ℤ boost) else before)

-- ---- of parts that each say what they score by row

abbrev pub scores_of : List (ℕ → Option ℤ) → ℕ → List (Option ℤ)
scores_of parts row = map (λ part. part row) parts

abbrev pub all_scores : List (ℕ → Option ℤ) → ℕ → Option ℤ
all_scores parts row = all_from (pos 0) (scores_of parts row)

abbrev pub some_scores : List (ℕ → Option ℤ) → ℕ → Option ℤ
some_scores parts row = some_from None (scores_of parts row)

abbrev pub some_holds : List (ℕ → Option ℤ) → ℕ → Bool
some_holds parts row = list_any is_some (scores_of parts row)

abbrev pub score_at : Node-F (ℕ → Option ℤ) (ℕ → Option ℤ) (ℕ → Option ℤ) → ℕ → Option ℤ
score_at Node-F.All row = Some (pos 0)
score_at (Node-F.Spans streams) row = spans_score streams.items row
score_at (Node-F.Count c) row = count_score c row
score_at (Node-F.Edge e) row = edge_score e row
score_at (Node-F.Within r) row = within_score r row
score_at (Node-F.And parts) row = all_scores parts.items row
score_at (Node-F.Or parts) row = some_scores parts.items row
score_at (Node-F.AndNot score) row = score row
score_at (Node-F.Not inner) row = plain (not (is_some (inner.value row)))
score_at (Node-F.Filter inner) row = plain (is_some (inner.value row))
score_at (Node-F.Xrank score) row = score row

abbrev pub without_at : Without-F (ℕ → Option ℤ) (ℕ → Option ℤ) (ℕ → Option ℤ) → ℕ → Option ℤ
without_at w row = unless (some_holds w.others.items row) (w.first.value row)

abbrev pub ranked_at : Ranked-F (ℕ → Option ℤ) (ℕ → Option ℤ) (ℕ → Option ℤ) → ℕ → Option ℤ
ranked_at x row = with_boost (some_holds x.ranks.items row) x.boost (x.matched.value row)

abbrev pub node_score : Node → ℕ → Option ℤ
node_score = fold-Node (ℕ → Option ℤ) (ℕ → Option ℤ) (ℕ → Option ℤ) score_at ranked_at without_at

abbrev pub without_score : Without → ℕ → Option ℤ
without_score = fold-Without (ℕ → Option ℤ) (ℕ → Option ℤ) (ℕ → Option ℤ) score_at ranked_at without_at

abbrev pub ranked_score : Ranked → ℕ → Option ℤ
ranked_score = fold-Ranked (ℕ → Option ℤ) (ℕ → Option ℤ) (ℕ → Option ℤ) score_at ranked_at without_at

-- ---- rests

abbrev pub rest_at : Node-F ℕ ℕ ℕ → ℕ
rest_at Node-F.All = 0
rest_at (Node-F.Spans streams) = streams_rest streams.items
rest_at (Node-F.Count c) = spans_rest c.stream
rest_at (Node-F.Edge e) = edge_rest e
rest_at (Node-F.Within r) = entries_behind r.values
rest_at (Node-F.And parts) = sum parts.items
rest_at (Node-F.Or parts) = sum parts.items
rest_at (Node-F.AndNot rest) = rest
rest_at (Node-F.Not inner) = inner.value
rest_at (Node-F.Filter inner) = inner.value
rest_at (Node-F.Xrank rest) = rest

abbrev pub without_rest_at : Without-F ℕ ℕ ℕ → ℕ
without_rest_at w = w.first.value + sum w.others.items

abbrev pub ranked_rest_at : Ranked-F ℕ ℕ ℕ → ℕ
ranked_rest_at x = x.matched.value + sum x.ranks.items

-- no run of further calls counts more steps
abbrev pub node_rest : Node → ℕ
node_rest = fold-Node ℕ ℕ ℕ rest_at ranked_rest_at without_rest_at

abbrev pub without_rest : Without → ℕ
without_rest = fold-Without ℕ ℕ ℕ rest_at ranked_rest_at without_rest_at

abbrev pub ranked_rest : Ranked → ℕ
ranked_rest = fold-Ranked ℕ ℕ ℕ rest_at ranked_rest_at without_rest_at
