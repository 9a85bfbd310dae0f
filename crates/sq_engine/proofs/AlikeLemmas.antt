-- Of an item's values a query sees nothing but the contents of each property.
use Rattle.std.proofs.Common.{◌≡◌, ℕ, not, ◌&&◌, if◌then◌else◌, List, ◌∷◌, length, pos, refl, ap, ap₂}
use Rattle.std.proofs.Math.Path.{fun_ext}
use Rattle.std.specs.Prelude.{◌+ℤ◌, filter_map, flat_map, sum_by}
use Rattle.std.specs.List.{list_any, list_all}
use Rattle.sq_schema.specs.declared.property.Property.{Property}
use Rattle.sq_model.specs.Fql as fql
use Rattle.sq_model.specs.Kql as kql
use Rattle.sq_model.specs.Lists.{is_empty, total}
use Rattle.sq_model.specs.Looked.{looked}
use Rattle.sq_model.specs.Passages.{Passage, contents, passages, passage_of, numbers, number_of, searchable, searchable_passages, some_within}
use Rattle.sq_model.specs.Places.{places, fits_edge}
use Rattle.sq_model.specs.Spans.{triples}
use Rattle.sq_model.specs.declared.corpus.Value.{Value}
use Rattle.sq_model.specs.declared.fql.Look.{Look}
use Rattle.sq_model.specs.declared.fql.Look.TheVariants.{Searchable, One}
use Rattle.sq_model.specs.declared.fql.FTree.{FTree, All, Spans, Count, Edge, Within, And', Or', AndNot', Not', Filter', Xrank', Row_of-FTree, end_of-FTree, more_of-FTree}
use Rattle.sq_model.specs.declared.kql.Joiner.{Joiner}
use Rattle.sq_model.specs.declared.kql.KTree as k
use Rattle.sq_model.specs.declared.kql.KTree.{KTree, Row_of-KTree, end_of-KTree, more_of-KTree, Row_of-KOperand, end_of-KOperand, more_of-KOperand}
use Rattle.sq_model.specs.declared.triple.Triple.{Triple}

-- the values are told apart by no property's contents
abbrev pub SameContents : List Value → List Value → Type 0
SameContents v w = (property : ℕ) → contents v property ≡ contents w property

module _ (v w : List Value) (same : SameContents v w) where
  pub same_passages : (property : ℕ) → passages v property ≡ passages w property
  same_passages property = ap (filter_map passage_of) (same property)

  pub same_numbers : (property : ℕ) → numbers v property ≡ numbers w property
  same_numbers property = ap (filter_map number_of) (same property)

  pub same_searchable : (schema : List Property) → searchable_passages schema v ≡ searchable_passages schema w
  same_searchable schema = ap (λ f. flat_map f (searchable schema)) (fun_ext same_passages)

  pub same_looked : (look : Look) (schema : List Property) → looked look schema v ≡ looked look schema w
  same_looked (One property) schema = same_passages property
  same_looked Searchable schema = same_searchable schema

-- ---- FQL

module _ (schema : List Property) (v w : List Value) (same : SameContents v w) where
  mutual
    pub same_holds : (tree : FTree) → fql.holds schema v tree ≡ fql.holds schema w tree
    same_holds All = refl
    same_holds (Spans look tree) = ap (list_any (λ passage. not (is_empty (triples passage tree)))) (same_looked v w same look schema)
    same_holds (Count look leaf from to) =
        ap (λ passages. fql.is_counted from to (sum_by (λ passage. length (places leaf.pattern passage)) passages)) (same_looked v w same look schema)
    same_holds (Edge look leaf starts ends) = ap (list_any (fits_edge leaf.pattern starts ends)) (same_looked v w same look schema)
    same_holds (Within property first last) = ap (some_within first last) (same_numbers v w same property)
    same_holds (And' shape parts) = ap (list_all (λ b. b)) (same_each parts)
    same_holds (Or' shape parts) = ap (list_any (λ b. b)) (same_each parts)
    same_holds (AndNot' s (more_of-FTree first end_of-FTree) t others) =
        ap₂ (λ a bs. a && not (list_any (λ b. b) bs)) (same_holds first) (same_each others)
    same_holds (Not' s (more_of-FTree inner end_of-FTree)) = ap not (same_holds inner)
    same_holds (Filter' s (more_of-FTree inner end_of-FTree)) = same_holds inner
    same_holds (Xrank' s (more_of-FTree matched end_of-FTree) t ranks cb) = same_holds matched

    same_each : {m : _} (parts : Row_of-FTree m) → fql.holds_each schema v parts ≡ fql.holds_each schema w parts
    same_each end_of-FTree = refl
    same_each (more_of-FTree part rest) = ap₂ (λ b bs. b ∷ bs) (same_holds part) (same_each rest)

  mutual
    same_gain : (tree : FTree) → fql.gain schema v tree ≡ fql.gain schema w tree
    same_gain All = refl
    same_gain (Spans look tree) = refl
    same_gain (Count look leaf from to) = refl
    same_gain (Edge look leaf starts ends) = refl
    same_gain (Within property first last) = refl
    same_gain (And' shape parts) = ap total (same_boosts parts)
    same_gain (Or' shape parts) = ap total (same_boosts parts)
    same_gain (AndNot' s (more_of-FTree first end_of-FTree) t others) = same_gain first
    same_gain (Not' s inner) = refl
    same_gain (Filter' s inner) = refl
    same_gain (Xrank' s (more_of-FTree matched end_of-FTree) t ranks cb) =
        ap₂ (λ n bs. n +ℤ (if list_any (λ b. b) bs then cb else pos 0)) (same_gain matched) (same_each ranks)

    same_boosts : {m : _} (parts : Row_of-FTree m) → fql.boosts schema v parts ≡ fql.boosts schema w parts
    same_boosts end_of-FTree = refl
    same_boosts (more_of-FTree part rest) =
        ap₂ (λ n ns. n ∷ ns) (ap₂ (λ b n. if b then n else pos 0) (same_holds part) (same_gain part)) (same_boosts rest)

  pub same_boost : (tree : FTree) → fql.boost schema v tree ≡ fql.boost schema w tree
  same_boost tree = ap₂ (λ b n. if b then n else pos 0) (same_holds tree) (same_gain tree)

-- ---- KQL

module _ (schema : List Property) (v w : List Value) (same : SameContents v w) (joiner : Joiner) where
  same_somewhere : (matches : Passage → List Triple) → kql.somewhere schema v matches ≡ kql.somewhere schema w matches
  same_somewhere matches = ap (list_any (λ passage. not (is_empty (matches passage)))) (same_searchable v w same schema)

  mutual
    pub same_kholds : (tree : KTree) → kql.holds schema v joiner tree ≡ kql.holds schema w joiner tree
    same_kholds (k.Free leaf) = same_somewhere (λ passage. kql.triples passage (k.Free leaf))
    same_kholds k.All = refl
    same_kholds (k.Words leaves) = same_somewhere (λ passage. kql.triples passage (k.Words leaves))
    same_kholds (k.Group' s (more_of-KTree inside end_of-KTree)) = same_kholds inside
    same_kholds (k.TextTest property relation leaf) = ap (kql.reads relation leaf.pattern) (same_passages v w same property)
    same_kholds (k.ValueTest property relation first last) = ap (kql.compares relation first last) (same_numbers v w same property)
    same_kholds (k.Near' s left t right n ordered) = same_somewhere (λ passage. kql.triples passage (k.Near' s left t right n ordered))
    same_kholds (k.Run' shape operands) = ap (kql.run_holds joiner) (same_judged operands)
    same_kholds (k.And' shape parts) = ap (list_all (λ b. b)) (same_keach parts)
    same_kholds (k.Or' shape parts) = ap (list_any (λ b. b)) (same_keach parts)
    same_kholds (k.Xrank' s (more_of-KTree matched end_of-KTree) t ranked cb) = same_kholds matched

    same_keach : {m : _} (parts : Row_of-KTree m) → kql.holds_each schema v joiner parts ≡ kql.holds_each schema w joiner parts
    same_keach end_of-KTree = refl
    same_keach (more_of-KTree part rest) = ap₂ (λ b bs. b ∷ bs) (same_kholds part) (same_keach rest)

    same_judged : {m : _} (operands : Row_of-KOperand m) → kql.judged schema v joiner operands ≡ kql.judged schema w joiner operands
    same_judged end_of-KOperand = refl
    same_judged (more_of-KOperand sign tree rest) =
        ap₂ (λ b run. record { sign = sign; role = kql.role sign tree; holds = b } ∷ run) (same_kholds tree) (same_judged rest)

  mutual
    same_kgain : (tree : KTree) → kql.gain schema v joiner tree ≡ kql.gain schema w joiner tree
    same_kgain (k.Free leaf) = refl
    same_kgain k.All = refl
    same_kgain (k.Words leaves) = refl
    same_kgain (k.Group' s (more_of-KTree inside end_of-KTree)) = same_kgain inside
    same_kgain (k.TextTest property relation leaf) = refl
    same_kgain (k.ValueTest property relation first last) = refl
    same_kgain (k.Near' s left t right n ordered) = refl
    same_kgain (k.Run' shape operands) = ap total (same_operands operands)
    same_kgain (k.And' shape parts) = ap total (same_kboosts parts)
    same_kgain (k.Or' shape parts) = ap total (same_kboosts parts)
    same_kgain (k.Xrank' s (more_of-KTree matched end_of-KTree) t ranked cb) =
        ap₂ (λ n bs. n +ℤ (if list_any (λ b. b) bs then cb else pos 0)) (same_kgain matched) (same_keach ranked)

    same_kboosts : {m : _} (parts : Row_of-KTree m) → kql.boosts schema v joiner parts ≡ kql.boosts schema w joiner parts
    same_kboosts end_of-KTree = refl
    same_kboosts (more_of-KTree part rest) =
        ap₂ (λ n ns. n ∷ ns) (ap₂ (λ b n. if b then n else pos 0) (same_kholds part) (same_kgain part)) (same_kboosts rest)

    same_operands : {m : _} (operands : Row_of-KOperand m) → kql.operand_boosts schema v joiner operands ≡ kql.operand_boosts schema w joiner operands
    same_operands end_of-KOperand = refl
    same_operands (more_of-KOperand sign tree rest) =
        ap₂ (λ n ns. n ∷ ns) (ap (λ n. if kql.adds_boost sign then n else pos 0) (ap₂ (λ b n. if b then n else pos 0) (same_kholds tree) (same_kgain tree))) (same_operands rest)

  pub same_kboost : (tree : KTree) → kql.boost schema v joiner tree ≡ kql.boost schema w joiner tree
  same_kboost tree = ap₂ (λ b n. if b then n else pos 0) (same_kholds tree) (same_kgain tree)
