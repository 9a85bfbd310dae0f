-- What is found by what is held is what is said of the corpus that is held, at its price.
use Rattle.std.proofs.Common.{◌≡◌, ℕ, ℤ, ◌+◌, ◌≤◌, true, List, [], ◌∷◌, map, length, Option, Some, None, refl, sym, ap, ap₂, ◌∙◌, subst, arith}
use Rattle.std.specs.Prelude.{sum_by}
use Rattle.std.specs.List.{list_all}
use Rattle.std.proofs.lemmas.List.{length-map}
use Rattle.sq_schema.specs.declared.property.Property.{Property}
use Rattle.sq_model.specs.declared.corpus.Corpus.{Corpus}
use Rattle.sq_model.specs.declared.fql.FTree.{FTree}
use Rattle.sq_model.specs.Access.{Seen, view}
use Rattle.sq_model.specs.Cost.{cost, claim_cost}
use Rattle.sq_model.specs.FqlSound.{IsSound}
use Rattle.sq_model.specs.Valid.{are_rising}
use Rattle.sq_packet.specs.declared.request.Request.{Request}
use Rattle.sq_response.specs.declared.response.Found.{Found}
use Rattle.sq_stored.specs.Laws.{ValuesStand, UrlsStand}
use Rattle.sq_stored.specs.Stored.{stored_items}
use Rattle.sq_eval.specs.Meaning as plan
use Rattle.sq_collect.specs.Laws.{ColumnsCountAsNumbers}
use Rattle.sq_holding.specs.Held.{Held, held_of}
use Rattle.sq_holding.specs.Holds.{Holds}
use Rattle.sq_engine.specs.Answer as answer
use Rattle.sq_engine.specs.Answer.{hits}
use Rattle.sq_engine.specs.Price as price
use Rattle.sq_engine.specs.Price.{meaning_by_tree}
use Rattle.sq_engine.specs.Verdict.{Nothing, Shows, unless_empty}
use Rattle.sq_service.specs.declared.sorts.Sort.{Sort}
use Rattle.sq_service.specs.Sorts.{sort_of, is_within}
use Rattle.sq_service.specs.Found as found
use Rattle.sq_service.proofs.WalkLemmas as walk

-- what is said of what is found
abbrev pub Says : List Seen → Found → Option Found → Type 0
Says seen all None = unless_empty seen all ≡ Nothing
Says seen all (Some one) = unless_empty seen all ≡ Shows one

says_by : (held : Held) (sorts : List Sort) (request : Request) (pairs : List (ℕ × ℤ)) (seen : List Seen) (all : Found) (one : Option Found)
    → length pairs ≡ length seen → found.found_of held sorts request pairs ≡ all → one ≡ found.found_by held sorts request pairs → Says seen all one
says_by held sorts request [] [] all None same is that = refl
says_by held sorts request [] [] all (Some one) same is that = absurd (cc)
says_by held sorts request [] (item ∷ seen) all one same is that = absurd (cc)
says_by held sorts request (pair ∷ pairs) [] all one same is that = absurd (cc)
says_by held sorts request (pair ∷ pairs) (item ∷ seen) all None same is that = absurd (cc)
says_by held sorts request (pair ∷ pairs) (item ∷ seen) all (Some one) same is that =
    let here : one ≡ found.found_of held sorts request (pair ∷ pairs) = cc in
    ap Shows (sym (here ∙ is))

module _ (held : Held) (corpus : Corpus) (holds : Holds held corpus) (tree : FTree) where
  pub sound_here : IsSound held.schema tree → IsSound corpus.schema tree
  sound_here sound = subst (λ (schema : List Property). IsSound schema tree) holds.schema sound

  module _ (claims : List (List ℕ)) (sorts : List Sort) (pairs : List (ℕ × ℤ)) (sound : IsSound held.schema tree) (planned : plan.HasHits held.index claims tree pairs) where
    abbrev kept_here : List (walk.One corpus holds.valid held.index holds.index)
    kept_here = walk.kept corpus holds.valid held.index holds.index claims tree sorts

    pairs_kept : pairs ≡ map (walk.pair_at corpus holds.valid held.index holds.index claims tree sorts) kept_here
    pairs_kept =
        planned corpus holds.valid holds.index (sound_here sound)
        ∙ walk.pairs_are corpus holds.valid held.index holds.index claims tree sorts

    seen_kept : hits (meaning_by_tree corpus.schema tree) (view corpus claims) ≡ map (walk.seen_at corpus holds.valid held.index holds.index) kept_here
    seen_kept = walk.hits_are corpus holds.valid held.index holds.index claims tree sorts

    pub rising_here : are_rising (map found.row_of pairs) ≡ true
    rising_here = ap (λ all. are_rising (map found.row_of all)) pairs_kept ∙ walk.pairs_rise corpus holds.valid held.index holds.index claims tree sorts

    pub within_here : found.are_within (length held.index.rows) pairs ≡ true
    within_here = ap (found.are_within (length held.index.rows)) pairs_kept ∙ walk.pairs_within corpus holds.valid held.index holds.index claims tree sorts

    module _ (values_stand : ValuesStand) (urls_stand : UrlsStand) (counted : ColumnsCountAsNumbers) (few : length sorts ≤ 4) (within : list_all (is_within held.schema) sorts ≡ true)
        (request : Request) where
      sorts_within : list_all (is_within corpus.schema) sorts ≡ true
      sorts_within = ap (λ (schema : List Property). list_all (is_within schema) sorts) (sym holds.schema) ∙ within

      held_path : held ≡ held_of corpus.schema corpus.callers held.index (stored_items corpus.schema corpus.items)
      held_path = λ i. record { schema = holds.schema i; callers = holds.callers i; index = held.index; stored = holds.stored i }

      abbrev seen_here : List Seen
      seen_here = hits (meaning_by_tree corpus.schema tree) (view corpus claims)

      abbrev said_here : Found
      said_here = answer.found_of corpus.schema (meaning_by_tree corpus.schema tree) (map sort_of sorts) request seen_here

      found_here : found.found_of held sorts request pairs ≡ said_here
      found_here =
          ap₂ (λ (h : Held) (all : List (ℕ × ℤ)). found.found_of h sorts request all) held_path pairs_kept
          ∙ walk.found_again corpus holds.valid held.index holds.index claims tree sorts values_stand urls_stand counted few sorts_within request
          ∙ ap (answer.found_of corpus.schema (meaning_by_tree corpus.schema tree) (map sort_of sorts) request) (sym seen_kept)

      as_many : length pairs ≡ length seen_here
      as_many =
          ap length pairs_kept ∙ length-map kept_here (walk.pair_at corpus holds.valid held.index holds.index claims tree sorts)
          ∙ sym (ap length seen_kept ∙ length-map kept_here (walk.seen_at corpus holds.valid held.index holds.index))

      pub says_here : (one : Option Found) → one ≡ found.found_by held sorts request pairs → Says seen_here said_here one
      says_here one is = says_by held sorts request pairs seen_here said_here one as_many found_here is

      page_here : found.page_cost held sorts request pairs
          ≡ sum_by (price.shown_price (answer.rows_of corpus.schema request.properties [])) (price.page_of_seen (meaning_by_tree corpus.schema tree) (map sort_of sorts) request seen_here)
      page_here =
          ap₂ (λ (h : Held) (all : List (ℕ × ℤ)). found.page_cost h sorts request all) held_path pairs_kept
          ∙ walk.page_cost_again corpus holds.valid held.index holds.index claims tree sorts values_stand urls_stand counted few sorts_within request
          ∙ ap (λ (all : List Seen). sum_by (price.shown_price (answer.rows_of corpus.schema request.properties [])) (price.page_of_seen (meaning_by_tree corpus.schema tree) (map sort_of sorts) request all)) (sym seen_kept)

      collected_here : found.collected_cost held sorts request ≡ sum_by (price.sort_price corpus) (map sort_of sorts) + sum_by (price.refiner_price corpus) request.refiners
      collected_here =
          ap (λ (h : Held). found.collected_cost h sorts request) held_path
          ∙ ap₂ (λ (a b : ℕ). a + b) (walk.sorts_cost_again corpus holds.valid held.index holds.index sorts few sorts_within) (walk.refiners_cost_again corpus holds.valid held.index holds.index request.refiners)

      pub price_here : (before planned_at left after : ℕ) → planned_at + left ≤ before + (claim_cost corpus claims + cost corpus tree)
          → after ≤ planned_at + left + found.collected_cost held sorts request + found.page_cost held sorts request pairs
          → after ≤ before + price.answer_price corpus claims request tree (map sort_of sorts)
      price_here before planned_at left after one two = omega (arith, one, two, page_here, collected_here)
