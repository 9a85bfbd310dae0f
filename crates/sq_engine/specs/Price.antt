-- The price of a request over a corpus: how many steps an answer counts at most.
use Rattle.std.specs.Prelude.{ℕ, ◌+◌, ◌*◌, ℤ, List, [], map, length, sum_by, position, Option, Some, None, Result, Ok, Err}
use Rattle.std.specs.List.{find}
use Rattle.sq_base.specs.Outcome.{Outcome}
use Rattle.sq_schema.specs.declared.property.Property.{Property}
use Rattle.sq_schema.specs.Properties.{has_name}
use Rattle.sq_model.specs.declared.corpus.Caller.{Caller}
use Rattle.sq_model.specs.declared.corpus.Corpus.{Corpus}
use Rattle.sq_model.specs.declared.fql.FTree.{FTree}
use Rattle.sq_model.specs.Access.{Seen, view}
use Rattle.sq_model.specs.Cost.{cost, claim_cost, number_count}
use Rattle.sq_model.specs.Fql.{holds, boost}
use Rattle.sq_model.specs.Passages.{contents}
use Rattle.sq_packet.specs.declared.request.Direction.{Direction}
use Rattle.sq_packet.specs.declared.request.RefinerSpec.{RefinerSpec}
use Rattle.sq_packet.specs.declared.request.Request.{Request}
use Rattle.sq_ranking.specs.Ranking.{page_by}
use Rattle.sq_engine.specs.Answer.{Meaning, SortKey, Score, Of, hits, ranked, rows_of}
use Rattle.sq_engine.specs.Query.{joiner_of, tree_of}
use Rattle.sq_engine.specs.Verdict.{is_named, first_without, is_refinable, sort_keys}

-- two steps for each number of the property that a refiner names, and none where it names none
abbrev pub refiner_price : Corpus → RefinerSpec → ℕ
refiner_price corpus refiner = elim (position (has_name refiner.name) corpus.schema) [ None ↦ 0 | Some row ↦ 2 * number_count corpus.items row ]

-- a step, and two for each number of the property that a sort goes by, and none where it goes by the score
abbrev pub sort_price : Corpus → SortKey × Direction → ℕ
sort_price corpus (Score, direction) = 0
sort_price corpus (Of property, direction) = 1 + 2 * number_count corpus.items property

-- of an item that is listed, a step for each property asked for and for each of its values
abbrev pub shown_price : List ℕ → Seen → ℕ
shown_price rows item = sum_by (λ row. 1 + length (contents item.values row)) rows

-- the hits that are listed
abbrev pub page_of_seen : Meaning → List (SortKey × Direction) → Request → List Seen → List Seen
page_of_seen meaning sorts request found = page_by (ranked meaning sorts) (map (λ sort. sort.1) sorts) request.start request.count found

-- what the tree that is run means
abbrev pub meaning_by_tree : List Property → FTree → Meaning
meaning_by_tree schema tree = record { holds = λ values. holds schema values tree; boost = λ values. boost schema values tree }

-- the steps for the query, for the caller's claims, for each refiner, for each sort and for each item listed
abbrev pub answer_price : Corpus → List (List ℕ) → Request → FTree → List (SortKey × Direction) → ℕ
answer_price corpus claims request tree sorts =
    cost corpus tree
    + claim_cost corpus claims
    + sum_by (refiner_price corpus) request.refiners
    + sum_by (sort_price corpus) sorts
    + sum_by (shown_price (rows_of corpus.schema request.properties []))
    (page_of_seen (meaning_by_tree corpus.schema tree) sorts request (hits (meaning_by_tree corpus.schema tree) (view corpus claims)))

-- What is refused costs nothing: the text, the refiners, the sorts, and before them a caller that is unknown.
abbrev pub sorts_price : Corpus → List (List ℕ) → Request → FTree → Result (List (SortKey × Direction)) ℕ → ℕ
sorts_price corpus claims request tree (Err i) = 0
sorts_price corpus claims request tree (Ok sorts) = answer_price corpus claims request tree sorts

abbrev pub refiners_price : Corpus → List (List ℕ) → Request → FTree → Option ℕ → ℕ
refiners_price corpus claims request tree (Some i) = 0
refiners_price corpus claims request tree None = sorts_price corpus claims request tree (sort_keys corpus.schema 0 request.sorts)

abbrev pub text_price : Corpus → List (List ℕ) → Request → Outcome FTree → ℕ
text_price corpus claims request (Err fault) = 0
text_price corpus claims request (Ok tree) = refiners_price corpus claims request tree (first_without (is_refinable corpus.schema) 0 request.refiners)

-- the price to a caller, if there is one
unfoldable pub price_to : Corpus → ℤ → Request → Option Caller → ℕ
price_to corpus moment request None = 0
price_to corpus moment request (Some caller) =
    text_price corpus caller.claims request (tree_of corpus.schema moment (joiner_of request) request.language request.text)

-- the price to the caller of a name, at a moment, of a request
abbrev pub price : Corpus → List ℕ → ℤ → Request → ℕ
price corpus name moment request = price_to corpus moment request (find (is_named name) corpus.callers)
