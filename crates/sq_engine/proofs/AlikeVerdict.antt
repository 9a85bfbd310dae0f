-- Corpora that are alike give one verdict.
use Rattle.std.proofs.Common.{◌≡◌, ℕ, ℤ, List, [], ◌∷◌, map, Option, Some, None, option_map, Result, Ok, Err, refl, sym, ap, ap₂, ◌∙◌}
use Rattle.std.proofs.Math.Path.{fun_ext}
use Rattle.std.specs.Prelude.{◌+ℤ◌, filter, flat_map, position}
use Rattle.std.specs.List.{find}
use Rattle.sq_base.specs.Outcome.{Outcome}
use Rattle.sq_schema.specs.declared.property.Property.{Property}
use Rattle.sq_schema.specs.Properties.{has_name}
use Rattle.sq_model.specs.Access.{view}
use Rattle.sq_model.specs.Alike.{Alike}
use Rattle.sq_model.specs.Passages.{numbers}
use Rattle.sq_model.specs.declared.corpus.Caller.{Caller}
use Rattle.sq_model.specs.declared.corpus.Corpus.{Corpus}
use Rattle.sq_model.specs.declared.corpus.Value.{Value}
use Rattle.sq_model.specs.declared.kql.Joiner.{Joiner}
use Rattle.sq_packet.specs.declared.request.Direction.{Direction}
use Rattle.sq_packet.specs.declared.request.RefinerSpec.{RefinerSpec}
use Rattle.sq_packet.specs.declared.request.Request.{Request}
use Rattle.sq_ranking.specs.Ranking.{page_by, entries}
use Rattle.sq_ranking.proofs.PageLemmas.{pages_seen}
use Rattle.sq_engine.specs.AlikeLaws.{AlikeGiveOneVerdict}
use Rattle.sq_engine.specs.Answer.{Meaning, SortKey, Score, Of, key_among, key_of, shown, rows_of, name_of, shown_values, refined, score_of, ranked, hit_of, hits, found_of}
use Rattle.sq_engine.specs.Price.{page_of_seen}
use Rattle.sq_engine.specs.Query.{Query, Kql, Fql, holds, boost, joiner_of, query_of}
use Rattle.sq_engine.specs.Verdict.{Shows, is_named, meaning_by, first_without, is_refinable, sort_keys, unless_empty, sorts_verdict, refiners_verdict, text_verdict, said, verdict}
use Rattle.sq_engine.proofs.AlikeLemmas.{SameContents, same_numbers, same_holds, same_boost, same_kholds, same_kboost}
use Rattle.sq_engine.proofs.TwinLemmas.{Twins, first, second, paired, map_same, length_same, filter_same, admitted, views}

-- of an item's values the meaning sees nothing but the contents of each property
pub record SeesContents (meaning : Meaning) : Type 0 where
  pub holds : (v w : List Value) → SameContents v w → meaning.holds v ≡ meaning.holds w
  pub boost : (v w : List Value) → SameContents v w → meaning.boost v ≡ meaning.boost w

pub sees_contents : (schema : List Property) (side : Joiner) (query : Query) → SeesContents (record { holds = holds schema side query; boost = boost schema side query })
sees_contents schema side (Kql tree) = record {
  holds = λ v w same. same_kholds schema v w same side tree;
  boost = λ v w same. same_kboost schema v w same side tree;
}
sees_contents schema side (Fql tree) = record {
  holds = λ v w same. same_holds schema v w same tree;
  boost = λ v w same. same_boost schema v w same tree;
}

key_same : (m n : ℤ) (v w : List Value) → m ≡ n → SameContents v w → (sort : SortKey × Direction) → key_of m v sort ≡ key_of n w sort
key_same m n v w scores same (Score, direction) = ap Some scores
key_same m n v w scores same (Of property, direction) = ap (key_among direction) (same_numbers v w same property)

shown_same : (schema : List Property) (rows : List ℕ) (v w : List Value) → SameContents v w → shown_values schema rows v ≡ shown_values schema rows w
shown_same schema rows v w same = ap (λ f. flat_map f rows) (fun_ext (λ row. ap (map (shown (name_of schema row))) (same row)))

module _ (meaning : Meaning) (sees : SeesContents meaning) where
  score_same : (twins : Twins) → score_of meaning (first twins) ≡ score_of meaning (second twins)
  score_same twins = ap₂ (λ rank boost. rank +ℤ boost) twins.alike.rank (sees.boost twins.one.values twins.two.values twins.alike.contents_of)

  -- the twins of which the query holds
  pub held : List Twins → List Twins
  held pairs = filter (λ twins. meaning.holds twins.one.values) pairs

  pub hits_same : (pairs : List Twins) → (hits meaning (map first pairs) ≡ map first (held pairs)) × (hits meaning (map second pairs) ≡ map second (held pairs))
  unfolding held
  hits_same pairs =
      filter_same first second (λ item. meaning.holds item.values) (λ twins. sees.holds twins.one.values twins.two.values twins.alike.contents_of) pairs

  module _ (sorts : List (SortKey × Direction)) (request : Request) where
    ranked_same : (twins : Twins) → ranked meaning sorts (first twins) ≡ ranked meaning sorts (second twins)
    ranked_same twins =
        let scores = score_same twins in
        let keys = fun_ext (key_same (score_of meaning (first twins)) (score_of meaning (second twins)) twins.one.values twins.two.values scores twins.alike.contents_of) in
        λ i. record { number = twins.alike.number i; score = scores i; keys = map (keys i) sorts }

    -- the twins that are listed
    pub listed : List Twins → List Twins
    listed pairs = page_by (λ twins. ranked meaning sorts (first twins)) (map (λ sort. sort.1) sorts) request.start request.count pairs

    pub pages_same : (pairs : List Twins) →
        (page_of_seen meaning sorts request (map first pairs) ≡ map first (listed pairs))
        × (page_of_seen meaning sorts request (map second pairs) ≡ map second (listed pairs))
    unfolding listed
    pages_same pairs = (
      pages_seen first (ranked meaning sorts) (map (λ sort. sort.1) sorts) request.start request.count pairs,
      pages_seen second (ranked meaning sorts) (map (λ sort. sort.1) sorts) request.start request.count pairs
          ∙ ap (λ by. map second (page_by by (map (λ sort. sort.1) sorts) request.start request.count pairs)) (sym (fun_ext ranked_same)),
    )

module _ (schema : List Property) (meaning : Meaning) (sees : SeesContents meaning) (request : Request) where
  hit_same : (twins : Twins) → hit_of schema meaning request.properties (first twins) ≡ hit_of schema meaning request.properties (second twins)
  hit_same twins =
      let scores = score_same meaning sees twins in
      let values = shown_same schema (rows_of schema request.properties []) twins.one.values twins.two.values twins.alike.contents_of in
      λ i. record { number = twins.alike.number i; score = scores i; url = twins.alike.url i; values = values i }

  numbers_same : (pairs : List Twins) (row : ℕ) → map (λ item. numbers item.values row) (map first pairs) ≡ map (λ item. numbers item.values row) (map second pairs)
  numbers_same pairs row =
      map_same first second (λ item. numbers item.values row) (λ twins. same_numbers twins.one.values twins.two.values twins.alike.contents_of row) pairs

  refined_same : (pairs : List Twins) (refiner : RefinerSpec) → refined schema (map first pairs) refiner ≡ refined schema (map second pairs) refiner
  refined_same pairs refiner = λ i. elim (position (has_name refiner.name) schema) [
    | None ↦ record { name = refiner.name; entries = [] }
    | Some row ↦ record { name = name_of schema row; entries = entries refiner.bounds (numbers_same pairs row i) }
  ]

  found_same : (sorts : List (SortKey × Direction)) (pairs : List Twins) → found_of schema meaning sorts request (map first pairs) ≡ found_of schema meaning sorts request (map second pairs)
  found_same sorts pairs =
      let pages = pages_same meaning sees sorts request pairs in
      let hit = hit_of schema meaning request.properties in
      let listed_hits = ap (map hit) pages.0 ∙ map_same first second hit hit_same (listed meaning sees sorts request pairs) ∙ sym (ap (map hit) pages.1) in
      let counts = ap (λ f. map f request.refiners) (fun_ext (refined_same pairs)) in
      let total = length_same first second pairs in
      λ i. record { start = request.start; total = total i; hits = listed_hits i; refiners = counts i }

  unless_same : (sorts : List (SortKey × Direction)) (pairs : List Twins) →
      unless_empty (map first pairs) (found_of schema meaning sorts request (map first pairs)) ≡ unless_empty (map second pairs) (found_of schema meaning sorts request (map second pairs))
  unless_same sorts [] = refl
  unless_same sorts (twins ∷ pairs) = ap (λ found. Shows found) (found_same sorts (twins ∷ pairs))

  sorts_same : (pairs : List Twins) (sorts : Result (List (SortKey × Direction)) ℕ) → sorts_verdict schema meaning request (map first pairs) sorts ≡ sorts_verdict schema meaning request (map second pairs) sorts
  sorts_same pairs (Err i) = refl
  sorts_same pairs (Ok sorts) =
      let both = hits_same meaning sees pairs in
      ap (λ seen. unless_empty seen (found_of schema meaning sorts request seen)) both.0
      ∙ unless_same sorts (held meaning sees pairs)
      ∙ sym (ap (λ seen. unless_empty seen (found_of schema meaning sorts request seen)) both.1)

  refiners_same : (pairs : List Twins) (refiner : Option ℕ) → refiners_verdict schema meaning request (map first pairs) refiner ≡ refiners_verdict schema meaning request (map second pairs) refiner
  refiners_same pairs (Some i) = refl
  refiners_same pairs None = sorts_same pairs (sort_keys schema 0 request.sorts)

text_same : (schema : List Property) (request : Request) (pairs : List Twins) (query : Outcome Query) →
    text_verdict schema request (map first pairs) (meaning_by schema request query) ≡ text_verdict schema request (map second pairs) (meaning_by schema request query)
text_same schema request pairs (Err fault) = refl
text_same schema request pairs (Ok query) =
    refiners_same schema (record { holds = holds schema (joiner_of request) query; boost = boost schema (joiner_of request) query })
    (sees_contents schema (joiner_of request) query) request pairs (first_without (is_refinable schema) 0 request.refiners)

said_same : (schema : List Property) (moment : ℤ) (request : Request) (pairs : List Twins) → said schema moment request (Some (map first pairs)) ≡ said schema moment request (Some (map second pairs))
unfolding said
said_same schema moment request pairs = text_same schema request pairs (query_of schema moment request.language request.text)

module _ (schema : List Property) (callers : List Caller) (pairs : List Twins) where
  -- the corpora of the one items and of the other
  abbrev pub one : Corpus
  one = record { schema = schema; callers = callers; items = map (λ twins. twins.one) pairs }

  abbrev pub two : Corpus
  two = record { schema = schema; callers = callers; items = map (λ twins. twins.two) pairs }

  to_row : (moment : ℤ) (request : Request) (row : Option Caller) →
      said schema moment request (option_map (λ caller. view one caller.claims) row) ≡ said schema moment request (option_map (λ caller. view two caller.claims) row)
  to_row moment request None = refl
  to_row moment request (Some caller) =
      let both = views caller.claims pairs in
      ap (λ seen. said schema moment request (Some seen)) both.0
      ∙ said_same schema moment request (admitted caller.claims pairs)
      ∙ sym (ap (λ seen. said schema moment request (Some seen)) both.1)

-- what is the same of all pairs of corpora that have the one schema and the one list of callers is the same of all that are alike
pub of_twins : {X : Type 0} (f : Corpus → X) → ((schema : List Property) (callers : List Caller) (pairs : List Twins) → f (one schema callers pairs) ≡ f (two schema callers pairs))
    → (a b : Corpus) → Alike a b → f a ≡ f b
of_twins f same a b alike =
    let items = paired a.items b.items alike.items in
    ap (λ items. f (record { schema = a.schema; callers = a.callers; items = items })) items.ones
    ∙ same a.schema a.callers items.pairs
    ∙ ap (λ items. f (record { schema = a.schema; callers = a.callers; items = items })) (sym items.twos)
    ∙ (λ i. f (record { schema = alike.schema i; callers = alike.callers i; items = b.items }))

pub alike_give_one_verdict : AlikeGiveOneVerdict
alike_give_one_verdict a b alike name moment request =
    of_twins (λ corpus. verdict corpus name moment request) (λ schema callers pairs. to_row schema callers pairs moment request (find (is_named name) callers)) a b alike
