-- Corpora that are alike ask one price.
use Rattle.std.proofs.Common.{◌≡◌, ℕ, ◌+◌, ◌*◌, ℤ, Bool, ◌&&◌, List, [], ◌∷◌, map, length, Option, Some, None, Result, Ok, Err, refl, sym, ap, ap₂, ◌∙◌}
use Rattle.std.proofs.Math.Path.{fun_ext}
use Rattle.std.specs.Prelude.{sum_by, position}
use Rattle.std.specs.List.{find}
use Rattle.sq_base.specs.Outcome.{Outcome}
use Rattle.sq_schema.specs.declared.property.Property.{Property}
use Rattle.sq_schema.specs.Properties.{has_name}
use Rattle.sq_model.specs.Access.{Seen, allows, denies, view}
use Rattle.sq_model.specs.Cost.{passage_count, posting_count, pattern_count, number_count, claim_cost, leaf_count, reads_of, cost}
use Rattle.sq_model.specs.Limits.{most_copies}
use Rattle.sq_model.specs.Lists.{is_empty}
use Rattle.sq_model.specs.Looked.{looked_rows}
use Rattle.sq_model.specs.Passages.{numbers, passages}
use Rattle.sq_model.specs.Sums.{sum_of_leaves, sum_over}
use Rattle.sq_model.specs.declared.corpus.Caller.{Caller}
use Rattle.sq_model.specs.declared.fql.FTree.{FTree}
use Rattle.sq_model.specs.declared.fql.Look.{Look}
use Rattle.sq_model.specs.declared.leaf.Leaf.{Leaf}
use Rattle.sq_packet.specs.declared.request.Direction.{Direction}
use Rattle.sq_packet.specs.declared.request.RefinerSpec.{RefinerSpec}
use Rattle.sq_packet.specs.declared.request.Request.{Request}
use Rattle.sq_engine.specs.AlikeLaws.{AlikeCostAlike}
use Rattle.sq_engine.specs.Answer.{SortKey, Score, Of, hits, rows_of}
use Rattle.sq_engine.specs.Price.{refiner_price, sort_price, shown_price, page_of_seen, meaning_by_tree, answer_price, sorts_price, refiners_price, text_price, price_to, price}
use Rattle.sq_engine.specs.Query.{joiner_of, tree_of}
use Rattle.sq_engine.specs.Verdict.{is_named, first_without, is_refinable, sort_keys}
use Rattle.sq_engine.proofs.AlikeLemmas.{same_passages, same_numbers, same_holds, same_boost}
use Rattle.sq_engine.proofs.AlikeVerdict.{SeesContents, held, hits_same, listed, pages_same, one, two, of_twins}
use Rattle.sq_engine.proofs.TwinLemmas.{Twins, first, second, sum_same, count_same, admitted, views}

module _ (pairs : List Twins) where
  postings_same : (property : ℕ) (wanted : List ℕ) (prefixed : Bool) →
      posting_count (map (λ twins. twins.one) pairs) property wanted prefixed ≡ posting_count (map (λ twins. twins.two) pairs) property wanted prefixed
  postings_same property wanted prefixed =
      sum_same (λ twins. twins.one) (λ twins. twins.two) (λ item. sum_by (passage_count prefixed wanted) (passages item.values property))
      (λ twins. ap (sum_by (passage_count prefixed wanted)) (same_passages twins.one.values twins.two.values twins.alike.contents_of property)) pairs

  patterns_same : (property : ℕ) (prefixed : Bool) (texts : List (List ℕ)) →
      pattern_count (map (λ twins. twins.one) pairs) property prefixed texts ≡ pattern_count (map (λ twins. twins.two) pairs) property prefixed texts
  patterns_same property prefixed [] = refl
  patterns_same property prefixed (text ∷ more) =
      ap₂ (λ here there. here + there) (postings_same property text (prefixed && is_empty more)) (patterns_same property prefixed more)

  pub counts_same : (property : ℕ) → number_count (map (λ twins. twins.one) pairs) property ≡ number_count (map (λ twins. twins.two) pairs) property
  counts_same property =
      sum_same (λ twins. twins.one) (λ twins. twins.two) (λ item. length (numbers item.values property))
      (λ twins. ap length (same_numbers twins.one.values twins.two.values twins.alike.contents_of property)) pairs

module _ (schema : List Property) (callers : List Caller) (pairs : List Twins) where
  leaves_same : (look : Look) (leaf : Leaf) → leaf_count (one schema callers pairs) look leaf ≡ leaf_count (two schema callers pairs) look leaf
  leaves_same look leaf =
      ap (λ f. sum_by f (looked_rows look schema)) (fun_ext (λ property. patterns_same pairs property leaf.pattern.prefixed leaf.pattern.texts))

  reads_same : reads_of (one schema callers pairs) ≡ reads_of (two schema callers pairs)
  reads_same = λ i. record {
    spans = λ look tree. sum_of_leaves (λ leaf. leaves_same look leaf i) tree;
    leaf = λ look leaf. leaves_same look leaf i;
    range = λ property. counts_same pairs property i;
    xrank = λ n. n;
  }

  cost_same : (tree : FTree) → cost (one schema callers pairs) tree ≡ cost (two schema callers pairs) tree
  cost_same tree = ap (λ counts. most_copies * sum_over counts tree) reads_same

  claims_same : (claims : List (List ℕ)) → claim_cost (one schema callers pairs) claims ≡ claim_cost (two schema callers pairs) claims
  claims_same claims = ap (λ f. sum_by f claims) (fun_ext (λ claim. ap₂ (λ m n. m + n)
      (count_same (λ twins. twins.one) (λ twins. twins.two) (allows claim) (λ twins. twins.alike.allowed claim) pairs)
      (count_same (λ twins. twins.one) (λ twins. twins.two) (denies claim) (λ twins. twins.alike.denied claim) pairs)))

  refiner_same : (refiner : RefinerSpec) → refiner_price (one schema callers pairs) refiner ≡ refiner_price (two schema callers pairs) refiner
  refiner_same refiner = λ i. elim (position (has_name refiner.name) schema) [ None ↦ 0 | Some row ↦ 2 * counts_same pairs row i ]

  sort_same : (sort : SortKey × Direction) → sort_price (one schema callers pairs) sort ≡ sort_price (two schema callers pairs) sort
  sort_same (Score, direction) = refl
  sort_same (Of property, direction) = ap (λ n. 1 + 2 * n) (counts_same pairs property)

  item_same : (rows : List ℕ) (twins : Twins) → shown_price rows (first twins) ≡ shown_price rows (second twins)
  item_same rows twins = ap (λ f. sum_by f rows) (fun_ext (λ row. ap (λ contents. 1 + length contents) (twins.alike.contents_of row)))

  module _ (request : Request) (claims : List (List ℕ)) (tree : FTree) where
    sees : SeesContents (meaning_by_tree schema tree)
    sees = record { holds = λ v w same. same_holds schema v w same tree; boost = λ v w same. same_boost schema v w same tree }

    page_same : (sorts : List (SortKey × Direction)) (rows : List ℕ) →
        sum_by (shown_price rows) (page_of_seen (meaning_by_tree schema tree) sorts request (hits (meaning_by_tree schema tree) (view (one schema callers pairs) claims)))
        ≡ sum_by (shown_price rows) (page_of_seen (meaning_by_tree schema tree) sorts request (hits (meaning_by_tree schema tree) (view (two schema callers pairs) claims)))
    page_same sorts rows =
        let meaning = meaning_by_tree schema tree in
        let kept = held meaning sees (admitted claims pairs) in
        let seen = views claims pairs in
        let found = hits_same meaning sees (admitted claims pairs) in
        let page = pages_same meaning sees sorts request kept in
        let steps_of : List Seen → ℕ = λ items. sum_by (shown_price rows) (page_of_seen meaning sorts request items) in
        ap (λ items. steps_of (hits meaning items)) seen.0
        ∙ ap steps_of found.0
        ∙ ap (sum_by (shown_price rows)) page.0
        ∙ sum_same first second (shown_price rows) (item_same rows) (listed meaning sees sorts request kept)
        ∙ sym (ap (λ items. steps_of (hits meaning items)) seen.1 ∙ ap steps_of found.1 ∙ ap (sum_by (shown_price rows)) page.1)

    answer_same : (sorts : List (SortKey × Direction)) →
        answer_price (one schema callers pairs) claims request tree sorts ≡ answer_price (two schema callers pairs) claims request tree sorts
    answer_same sorts =
        let query = cost_same tree in
        let access = claims_same claims in
        let refiners = ap (λ f. sum_by f request.refiners) (fun_ext refiner_same) in
        let keys = ap (λ f. sum_by f sorts) (fun_ext sort_same) in
        let page = page_same sorts (rows_of schema request.properties []) in
        λ i. query i + access i + refiners i + keys i + page i

    sorts_same : (sorts : Result (List (SortKey × Direction)) ℕ) →
        sorts_price (one schema callers pairs) claims request tree sorts ≡ sorts_price (two schema callers pairs) claims request tree sorts
    sorts_same (Err i) = refl
    sorts_same (Ok sorts) = answer_same sorts

    refiners_same : (refiner : Option ℕ) →
        refiners_price (one schema callers pairs) claims request tree refiner ≡ refiners_price (two schema callers pairs) claims request tree refiner
    refiners_same (Some i) = refl
    refiners_same None = sorts_same (sort_keys schema 0 request.sorts)

  text_same : (request : Request) (claims : List (List ℕ)) (tree : Outcome FTree) →
      text_price (one schema callers pairs) claims request tree ≡ text_price (two schema callers pairs) claims request tree
  text_same request claims (Err fault) = refl
  text_same request claims (Ok tree) = refiners_same request claims tree (first_without (is_refinable schema) 0 request.refiners)

  to_row : (moment : ℤ) (request : Request) (row : Option Caller) → price_to (one schema callers pairs) moment request row ≡ price_to (two schema callers pairs) moment request row
  unfolding price_to
  to_row moment request None = refl
  to_row moment request (Some caller) =
      text_same request caller.claims (tree_of schema moment (joiner_of request) request.language request.text)

pub alike_cost_alike : AlikeCostAlike
alike_cost_alike a b alike name moment request =
    of_twins (λ corpus. price corpus name moment request) (λ schema callers pairs. to_row schema callers pairs moment request (find (is_named name) callers)) a b alike
