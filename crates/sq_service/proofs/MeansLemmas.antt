-- What is answered by a tree that means what a query means is what is answered by the query.
use Rattle.std.proofs.Common.{◌≡◌, ℕ, ℤ, ◌+◌, ◌≤◌, List, [], map, filter, Option, Some, None, Ok, refl, sym, subst, ap, ap₂, ◌∙◌}
use mathlib.Core.Path.{fun_ext}
use Rattle.std.specs.Prelude.{◌&&◌, ◌+ℤ◌, Result, Err, option_map}
use Rattle.std.specs.List.{find}
use Rattle.std.proofs.lemmas.Simd.{map-map}
use Rattle.sq_base.specs.Outcome.{Outcome}
use Rattle.sq_base.specs.declared.faults.QueryFault.{QueryFault}
use Rattle.sq_schema.specs.declared.property.Property.{Property}
use Rattle.sq_model.specs.declared.corpus.Caller.{Caller}
use Rattle.sq_model.specs.declared.corpus.Corpus.{Corpus}
use Rattle.sq_model.specs.declared.fql.FTree.{FTree}
use Rattle.sq_model.specs.declared.kql.Joiner.{Joiner}
use Rattle.sq_model.specs.Access.{Seen, admits, view}
use Rattle.sq_model.specs.Valid.{IsValid}
use Rattle.sq_packet.specs.declared.request.Direction.{Direction}
use Rattle.sq_packet.specs.declared.request.Language.{Language}
use Rattle.sq_packet.specs.declared.request.Request.{Request}
use Rattle.sq_response.specs.declared.response.Hit.{Hit}
use Rattle.sq_response.specs.declared.response.Response.{Response}
use Rattle.sq_ranking.proofs.PageLemmas.{pages_seen}
use Rattle.sq_ranking.specs.Ranking.{Ranked, page_by}
use Rattle.sq_engine.specs.Answer as answer
use Rattle.sq_engine.specs.Answer.{Meaning, SortKey, hits, score_of, found_of}
use Rattle.sq_engine.specs.Query.{Query, Means, GivesTree, query_of, tree_of, joiner_of, holds, boost}
use Rattle.sq_engine.specs.declared.refused.Refused.{Refused}
use Rattle.sq_engine.specs.Answers.{Answers}
use Rattle.sq_engine.specs.Verdict as verdict
use Rattle.sq_engine.specs.Verdict.{Verdict, Faulty, NoRefiner, NoSort, unless_empty, sorts_verdict, refiners_verdict, text_verdict, meaning_by, sort_keys, first_without, is_refinable, said}
use Rattle.sq_engine.specs.Price.{meaning_by_tree, refiners_price, text_price, price_to, price}
use Rattle.sq_service.proofs.Placed.{Placed, all_placed}
use Rattle.sq_service.proofs.SeenLemmas.{seen_at, kept, hits_are}

-- Two meanings that agree on the items of a corpus.
module _ (corpus : Corpus) (valid : IsValid corpus) (claims : List (List ℕ)) (first second : Meaning)
    (same_holds : (p : Placed corpus.schema corpus.items) → first.holds p.item.values ≡ second.holds p.item.values)
    (same_boost : (p : Placed corpus.schema corpus.items) → first.boost p.item.values ≡ second.boost p.item.values) where
  abbrev seen_here : Placed corpus.schema corpus.items → Seen
  seen_here = seen_at corpus.schema corpus.items

  same_kept : kept corpus.schema corpus.items claims first valid.items ≡ kept corpus.schema corpus.items claims second valid.items
  same_kept = ap (λ test. filter test (all_placed corpus.schema corpus.items valid.items)) (fun_ext (λ p. ap (λ t. admits claims p.item && t) (same_holds p)))

  same_hits : hits first (view corpus claims) ≡ hits second (view corpus claims)
  same_hits = hits_are corpus.schema corpus.items claims first valid.items ∙ ap (map seen_here) same_kept ∙ sym (hits_are corpus.schema corpus.items claims second valid.items)

  same_score : (p : Placed corpus.schema corpus.items) → score_of first (seen_here p) ≡ score_of second (seen_here p)
  same_score p = ap (λ n. p.item.rank +ℤ n) (same_boost p)

  -- a hit as it is listed, and what it is ordered by, with a score
  hit_as : List (List ℕ) → Placed corpus.schema corpus.items → ℤ → Hit
  hit_as properties p score = record {
    number = p.item.number;
    score = score;
    url = p.item.url;
    values = answer.shown_values corpus.schema (answer.rows_of corpus.schema properties []) p.item.values;
  }

  ranked_as : List (SortKey × Direction) → Placed corpus.schema corpus.items → ℤ → Ranked
  ranked_as sorts p score = record { number = p.item.number; score = score; keys = map (answer.key_of score p.item.values) sorts }

  same_listed : (properties : List (List ℕ))
      → ◌≡◌ {A = Placed corpus.schema corpus.items → Hit} (λ p. answer.hit_of corpus.schema first properties (seen_here p)) (λ p. answer.hit_of corpus.schema second properties (seen_here p))
  same_listed properties = fun_ext (λ p. ap (λ score. record {
    number = p.item.number;
    score = score;
    url = p.item.url;
    values = answer.shown_values corpus.schema (answer.rows_of corpus.schema properties []) p.item.values;
  }) (same_score p))

  same_ranked : (sorts : List (SortKey × Direction))
      → ◌≡◌ {A = Placed corpus.schema corpus.items → Ranked} (λ p. answer.ranked first sorts (seen_here p)) (λ p. answer.ranked second sorts (seen_here p))
  same_ranked sorts = fun_ext (λ p. ap (λ score. record { number = p.item.number; score = score; keys = map (answer.key_of score p.item.values) sorts }) (same_score p))

  module _ (sorts : List (SortKey × Direction)) (request : Request) where
    listed_by : (meaning : Meaning) (ps : List (Placed corpus.schema corpus.items))
        → map (answer.hit_of corpus.schema meaning request.properties)
        (page_by (answer.ranked meaning sorts) (map (λ sort. sort.1) sorts) request.start request.count (map seen_here ps))
        ≡ map (λ p. answer.hit_of corpus.schema meaning request.properties (seen_here p))
        (page_by (λ p. answer.ranked meaning sorts (seen_here p)) (map (λ sort. sort.1) sorts) request.start request.count ps)
    listed_by meaning ps =
        ap (map (answer.hit_of corpus.schema meaning request.properties)) (pages_seen seen_here (answer.ranked meaning sorts) (map (λ sort. sort.1) sorts) request.start request.count ps)
        ∙ map-map (answer.hit_of corpus.schema meaning request.properties) seen_here
        (page_by (λ p. answer.ranked meaning sorts (seen_here p)) (map (λ sort. sort.1) sorts) request.start request.count ps)

    same_page : (ps : List (Placed corpus.schema corpus.items))
        → map (answer.hit_of corpus.schema first request.properties)
        (page_by (answer.ranked first sorts) (map (λ sort. sort.1) sorts) request.start request.count (map seen_here ps))
        ≡ map (answer.hit_of corpus.schema second request.properties)
        (page_by (answer.ranked second sorts) (map (λ sort. sort.1) sorts) request.start request.count (map seen_here ps))
    same_page ps =
        listed_by first ps
        ∙ ap₂ (λ (listed : Placed corpus.schema corpus.items → Hit) (ranked : Placed corpus.schema corpus.items → Ranked).
        map listed (page_by ranked (map (λ sort. sort.1) sorts) request.start request.count ps)) (same_listed request.properties) (same_ranked sorts)
        ∙ sym (listed_by second ps)

    same_found_of : (ps : List (Placed corpus.schema corpus.items))
        → found_of corpus.schema first sorts request (map seen_here ps) ≡ found_of corpus.schema second sorts request (map seen_here ps)
    same_found_of ps = ap (λ listed. record (found_of corpus.schema first sorts request (map seen_here ps)) { hits = listed }) (same_page ps)

    there : List (Placed corpus.schema corpus.items)
    there = kept corpus.schema corpus.items claims second valid.items

    same_sorted : unless_empty (hits first (view corpus claims)) (found_of corpus.schema first sorts request (hits first (view corpus claims)))
        ≡ unless_empty (hits second (view corpus claims)) (found_of corpus.schema second sorts request (hits second (view corpus claims)))
    unfolding there
    same_sorted =
        ap (λ all. unless_empty all (found_of corpus.schema first sorts request all)) (same_hits ∙ hits_are corpus.schema corpus.items claims second valid.items)
        ∙ ap (unless_empty (map seen_here there)) (same_found_of there)
        ∙ sym (ap (λ all. unless_empty all (found_of corpus.schema second sorts request all)) (hits_are corpus.schema corpus.items claims second valid.items))

  by_sorts : (request : Request) (sorts : Result (List (SortKey × Direction)) ℕ)
      → sorts_verdict corpus.schema first request (view corpus claims) sorts ≡ sorts_verdict corpus.schema second request (view corpus claims) sorts
  by_sorts request (Err i) = refl
  by_sorts request (Ok sorts) = same_sorted sorts request

  pub by_refiners : (request : Request) (refiner : Option ℕ)
      → refiners_verdict corpus.schema first request (view corpus claims) refiner ≡ refiners_verdict corpus.schema second request (view corpus claims) refiner
  by_refiners request (Some i) = refl
  by_refiners request None = by_sorts request (sort_keys corpus.schema 0 request.sorts)

-- The answer by a tree is the answer to the text that gave it.
module _ (corpus : Corpus) (valid : IsValid corpus) (claims : List (List ℕ)) (moment : ℤ) (request : Request) (tree : FTree) where
  abbrev of_query : Query → Meaning
  of_query query = record { holds = holds corpus.schema (joiner_of request) query; boost = boost corpus.schema (joiner_of request) query }

  same_text : (query : Query) (outcome : Outcome Query) → outcome ≡ Ok query → Means corpus.schema (joiner_of request) query tree
      → text_verdict corpus.schema request (view corpus claims) (meaning_by corpus.schema request outcome)
      ≡ refiners_verdict corpus.schema (meaning_by_tree corpus.schema tree) request (view corpus claims) (first_without (is_refinable corpus.schema) 0 request.refiners)
  same_text query outcome is means =
      ap (λ one. text_verdict corpus.schema request (view corpus claims) (meaning_by corpus.schema request one)) is
      ∙ sym (by_refiners corpus valid claims (meaning_by_tree corpus.schema tree) (of_query query)
      (λ p. means.same_hits p.item.values p.fits) (λ p. means.same_boost p.item.values p.fits) request (first_without (is_refinable corpus.schema) 0 request.refiners))

  pub answers_text : (result : Result Response Refused)
      → GivesTree corpus.schema (joiner_of request) (query_of corpus.schema moment request.language request.text) (Ok tree)
      → Answers (refiners_verdict corpus.schema (meaning_by_tree corpus.schema tree) request (view corpus claims) (first_without (is_refinable corpus.schema) 0 request.refiners)) result
      → Answers (text_verdict corpus.schema request (view corpus claims) (verdict.meaning_of corpus.schema moment request)) result
  answers_text result gives answers =
      let P : Verdict → Type 0 = λ verdict. Answers verdict result in
      subst P (sym (same_text gives.0 (query_of corpus.schema moment request.language request.text) gives.1 gives.2)) answers

-- What a call gave of equal arguments.
pub given : (schema : List Property) (side side' : Joiner) (moment moment' : ℤ) (language : Language) (text text' : List ℕ) (tree : FTree)
    → side ≡ side' → moment ≡ moment' → text ≡ text'
    → GivesTree schema side (query_of schema moment language text) (Ok tree) → GivesTree schema side' (query_of schema moment' language text') (Ok tree)
given schema side side' moment moment' language text text' tree s m t gives =
    let P : Joiner → Type 0 = λ one. GivesTree schema one (query_of schema moment language text) (Ok tree) in
    let Q : ℤ → Type 0 = λ one. GivesTree schema side' (query_of schema one language text) (Ok tree) in
    let R : List ℕ → Type 0 = λ one. GivesTree schema side' (query_of schema moment' language one) (Ok tree) in
    subst R t (subst Q m (subst P s gives))

-- The answer to the holder of a caller's claims is the answer to the caller.
pub answers_caller : (corpus : Corpus) (name : List ℕ) (moment moment' : ℤ) (request : Request) (caller : Caller) (claims : List (List ℕ)) (result : Result Response Refused)
    → find (verdict.is_named name) corpus.callers ≡ Some caller → claims ≡ caller.claims → moment' ≡ moment
    → Answers (text_verdict corpus.schema request (view corpus claims) (verdict.meaning_of corpus.schema moment' request)) result
    → Answers (verdict.verdict corpus name moment request) result
unfolding said
answers_caller corpus name moment moment' request caller claims result named is same answers =
    let P : Verdict → Type 0 = λ verdict. Answers verdict result in
    subst P (ap₂ (λ held m. text_verdict corpus.schema request (view corpus held) (verdict.meaning_of corpus.schema m request)) is same
    ∙ sym (ap (λ found. said corpus.schema moment request (option_map (λ caller. view corpus caller.claims) found)) named)) answers

-- A fault of the text is what is answered.
pub answers_fault : (schema : List Property) (moment : ℤ) (request : Request) (seen : List Seen) (fault : QueryFault) → query_of schema moment request.language request.text ≡ Err fault
    → text_verdict schema request seen (verdict.meaning_of schema moment request) ≡ Faulty fault
answers_fault schema moment request seen fault is = ap (λ (outcome : Outcome Query). text_verdict schema request seen (meaning_by schema request outcome)) is

-- A text costs what its tree costs, and a caller pays what the holder of his claims pays.
pub price_text : (corpus : Corpus) (claims : List (List ℕ)) (request : Request) (tree : FTree) (outcome : Outcome FTree) (before after : ℕ) → outcome ≡ Ok tree
    → after ≤ before + refiners_price corpus claims request tree (first_without (is_refinable corpus.schema) 0 request.refiners)
    → after ≤ before + text_price corpus claims request outcome
price_text corpus claims request tree outcome before after is cost =
    subst (λ (one : Outcome FTree). after ≤ before + text_price corpus claims request one) (sym is) cost

pub price_caller : (corpus : Corpus) (name : List ℕ) (moment moment' : ℤ) (request : Request) (caller : Caller) (claims : List (List ℕ)) (before after : ℕ)
    → find (verdict.is_named name) corpus.callers ≡ Some caller → claims ≡ caller.claims → moment' ≡ moment
    → after ≤ before + text_price corpus claims request (tree_of corpus.schema moment' (joiner_of request) request.language request.text)
    → after ≤ before + price corpus name moment request
unfolding price_to
price_caller corpus name moment moment' request caller claims before after named is same cost =
    subst (λ (n : ℕ). after ≤ before + n)
    (ap₂ (λ (held : List (List ℕ)) (m : ℤ). text_price corpus held request (tree_of corpus.schema m (joiner_of request) request.language request.text)) is same
    ∙ sym (ap (price_to corpus moment request) named)) cost
