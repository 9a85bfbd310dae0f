-- The nodes of expressions that have parts.
use Rattle.std.proofs.Common.{◌≡◌, ℕ, ◌+◌, ◌*◌, ◌<◌, ◌≤◌, not, List, [], ◌∷◌, ◌++◌, length, map, sum, drop, get_or, None, sym, ap, ap₂, subst, ◌∙◌, arith, zero, suc, add-one, Vec, Box}
use Rattle.std.proofs.Math.Seq.{drop-cons}
use Rattle.std.proofs.lemmas.List.{map-append, append_assoc}
use Rattle.std.proofs.lemmas.List.Sums.{sum_by-cons, sum_by-append}
use Rattle.std.specs.List.{list_any, AllByRecursion}
use Rattle.std.specs.Prelude.{ℤ, pos, is_some}
use Rattle.std.specs.declared.alloc.Global.{Global}
use Rattle.sq_model.specs.Cost.{reads}
use Rattle.sq_model.specs.FqlSound.{PartsSound}
use Rattle.sq_model.specs.Valid.{IsValid}
use Rattle.sq_model.specs.declared.corpus.Corpus.{Corpus}
use Rattle.sq_model.specs.declared.fql.FTree.{FTree}
use Rattle.sq_model.specs.declared.fql.FTree.TheVariants as tree
use Rattle.sq_nodes.specs.Leaves.{plain}
use Rattle.sq_nodes.specs.Scores.{all_from, some_from, unless, with_boost, node_score, node_rest}
use Rattle.sq_nodes.specs.declared.node.Node.{Node}
use Rattle.sq_nodes.specs.declared.node.Node.TheVariants as node
use Rattle.sq_postings.specs.Indexed.{Indexed}
use Rattle.sq_postings.specs.Occurrences.{values_at}
use Rattle.sq_postings.specs.StandsFor.{StandsFor}
use Rattle.sq_eval.specs.Nodes.{IsNodeOf, AreNodesOf, IsWithinTree, IsWithinTrees, some_score}
use Rattle.sq_eval.specs.Scored.{scored}
use Rattle.sq_eval.proofs.NodeEquations.{score_and, score_or, score_not, score_filter, rest_and, rest_or, rest_not, rest_filter}
use Rattle.sq_eval.proofs.TreeEquations.{scored_and, scored_or, scored_and_not, scored_not, scored_filter, scored_xrank, reads_and, reads_or, reads_and_not, reads_not, reads_filter, reads_xrank, sound_and, sound_or, sound_and_not, sound_not, sound_filter, sound_xrank}

module _ (index : Indexed) where
  -- ---- all of the parts

  pub and_scored : (trees : List FTree) (nodes : Vec Node Global) → AreNodesOf index trees nodes.items → IsNodeOf index (tree.And trees) (node.And nodes)
  and_scored trees nodes are = λ corpus valid stands sound row.
      score_and nodes row ∙ ap (all_from (pos 0)) (are corpus valid stands (sound_and corpus.schema trees sound) row) ∙ sym (scored_and corpus.schema (values_at corpus.items row) trees)

  pub and_refused : (trees : List FTree) (before after : ℕ) → IsWithinTrees index trees before after → IsWithinTree index (tree.And trees) before after
  and_refused trees before after within = λ corpus valid stands sound.
      omega (arith, within corpus valid stands (sound_and corpus.schema trees sound), reads_and corpus trees)

  pub and_cost : (trees : List FTree) (nodes : Vec Node Global) (before after : ℕ) → IsWithinTrees index trees before (after + sum (map node_rest nodes.items)) →
      IsWithinTree index (tree.And trees) before (after + node_rest (node.And nodes))
  and_cost trees nodes before after within = λ corpus valid stands sound.
      omega (arith, and_refused trees before (after + sum (map node_rest nodes.items)) within corpus valid stands sound, rest_and nodes)

  -- ---- some of the parts

  pub or_scored : (trees : List FTree) (nodes : Vec Node Global) → AreNodesOf index trees nodes.items → IsNodeOf index (tree.Or trees) (node.Or nodes)
  or_scored trees nodes are = λ corpus valid stands sound row.
      score_or nodes row ∙ ap (some_from None) (are corpus valid stands (sound_or corpus.schema trees sound) row) ∙ sym (scored_or corpus.schema (values_at corpus.items row) trees)

  pub or_refused : (trees : List FTree) (before after : ℕ) → IsWithinTrees index trees before after → IsWithinTree index (tree.Or trees) before after
  or_refused trees before after within = λ corpus valid stands sound.
      omega (arith, within corpus valid stands (sound_or corpus.schema trees sound), reads_or corpus trees)

  pub or_cost : (trees : List FTree) (nodes : Vec Node Global) (before after : ℕ) → IsWithinTrees index trees before (after + sum (map node_rest nodes.items)) →
      IsWithinTree index (tree.Or trees) before (after + node_rest (node.Or nodes))
  or_cost trees nodes before after within = λ corpus valid stands sound.
      omega (arith, or_refused trees before (after + sum (map node_rest nodes.items)) within corpus valid stands sound, rest_or nodes)

  -- ---- the first without others

  pub and_not_scored : (first : FTree) (others : List FTree) (one : Node) (more : List Node) (node : Node) → IsNodeOf index first one → AreNodesOf index others more →
      ((row : ℕ) → node_score node row ≡ unless (some_score row more) (node_score one row)) → IsNodeOf index (tree.AndNot first others) node
  and_not_scored first others one more node is are by = λ corpus valid stands sound row.
      let sounds = sound_and_not corpus.schema first others sound in
      by row
      ∙ ap₂ (λ scores score. unless (list_any is_some scores) score) (are corpus valid stands sounds.1 row) (is corpus valid stands sounds.0 row)
      ∙ sym (scored_and_not corpus.schema (values_at corpus.items row) first others)

  pub and_not_refused : (first : FTree) (others : List FTree) (before after : ℕ) → IsWithinTree index first before after → IsWithinTree index (tree.AndNot first others) before after
  and_not_refused first others before after within = λ corpus valid stands sound.
      let sounds = sound_and_not corpus.schema first others sound in
      omega (arith, within corpus valid stands sounds.0, reads_and_not corpus first others)

  pub and_not_later : (first : FTree) (others : List FTree) (before between rest after : ℕ) → IsWithinTree index first before (between + rest) → IsWithinTrees index others between after →
      IsWithinTree index (tree.AndNot first others) before (after + rest)
  and_not_later first others before between rest after within more = λ corpus valid stands sound.
      let sounds = sound_and_not corpus.schema first others sound in
      omega (arith, within corpus valid stands sounds.0, more corpus valid stands sounds.1, reads_and_not corpus first others)

  pub and_not_cost : (first : FTree) (others : List FTree) (one : Node) (more : List Node) (node : Node) (before between after : ℕ) → IsWithinTree index first before (between + node_rest one) →
      IsWithinTrees index others between (after + sum (map node_rest more)) → node_rest node ≡ node_rest one + sum (map node_rest more) →
      IsWithinTree index (tree.AndNot first others) before (after + node_rest node)
  and_not_cost first others one more node before between after within withins rests = λ corpus valid stands sound.
      omega (arith, and_not_later first others before between (node_rest one) (after + sum (map node_rest more)) within withins corpus valid stands sound, rests)

  -- ---- a part alone

  pub not_scored : (inner : FTree) (own : Box Node Global) → IsNodeOf index inner own.value → IsNodeOf index (tree.Not inner) (node.Not own)
  not_scored inner own is = λ corpus valid stands sound row.
      score_not own row ∙ ap (λ score. plain (not (is_some score))) (is corpus valid stands (sound_not corpus.schema inner sound) row)
      ∙ sym (scored_not corpus.schema (values_at corpus.items row) inner)

  pub not_refused : (inner : FTree) (before after : ℕ) → IsWithinTree index inner before after → IsWithinTree index (tree.Not inner) before after
  not_refused inner before after within = λ corpus valid stands sound.
      omega (arith, within corpus valid stands (sound_not corpus.schema inner sound), reads_not corpus inner)

  pub not_cost : (inner : FTree) (own : Box Node Global) (before after : ℕ) → IsWithinTree index inner before (after + node_rest own.value) →
      IsWithinTree index (tree.Not inner) before (after + node_rest (node.Not own))
  not_cost inner own before after within = λ corpus valid stands sound.
      omega (arith, not_refused inner before (after + node_rest own.value) within corpus valid stands sound, rest_not own)

  pub filter_scored : (inner : FTree) (own : Box Node Global) → IsNodeOf index inner own.value → IsNodeOf index (tree.Filter inner) (node.Filter own)
  filter_scored inner own is = λ corpus valid stands sound row.
      score_filter own row ∙ ap (λ score. plain (is_some score)) (is corpus valid stands (sound_filter corpus.schema inner sound) row)
      ∙ sym (scored_filter corpus.schema (values_at corpus.items row) inner)

  pub filter_refused : (inner : FTree) (before after : ℕ) → IsWithinTree index inner before after → IsWithinTree index (tree.Filter inner) before after
  filter_refused inner before after within = λ corpus valid stands sound.
      omega (arith, within corpus valid stands (sound_filter corpus.schema inner sound), reads_filter corpus inner)

  pub filter_cost : (inner : FTree) (own : Box Node Global) (before after : ℕ) → IsWithinTree index inner before (after + node_rest own.value) →
      IsWithinTree index (tree.Filter inner) before (after + node_rest (node.Filter own))
  filter_cost inner own before after within = λ corpus valid stands sound.
      omega (arith, filter_refused inner before (after + node_rest own.value) within corpus valid stands sound, rest_filter own)

  -- ---- ranks

  pub xrank_scored : (matched : FTree) (ranks : List FTree) (boost : ℤ) (one : Node) (more : List Node) (node : Node) → IsNodeOf index matched one → AreNodesOf index ranks more →
      ((row : ℕ) → node_score node row ≡ with_boost (some_score row more) boost (node_score one row)) → IsNodeOf index (tree.Xrank matched ranks boost) node
  xrank_scored matched ranks boost one more node is are by = λ corpus valid stands sound row.
      let sounds = sound_xrank corpus.schema matched ranks boost sound in
      by row
      ∙ ap₂ (λ scores score. with_boost (list_any is_some scores) boost score) (are corpus valid stands sounds.1 row) (is corpus valid stands sounds.0 row)
      ∙ sym (scored_xrank corpus.schema (values_at corpus.items row) matched ranks boost)

  pub xrank_refused : (matched : FTree) (ranks : List FTree) (boost : ℤ) (before after : ℕ) → IsWithinTree index matched before after → IsWithinTree index (tree.Xrank matched ranks boost) before after
  xrank_refused matched ranks boost before after within = λ corpus valid stands sound.
      let sounds = sound_xrank corpus.schema matched ranks boost sound in
      omega (arith, within corpus valid stands sounds.0, reads_xrank corpus matched ranks boost)

  pub xrank_later : (matched : FTree) (ranks : List FTree) (boost : ℤ) (before between rest after : ℕ) → IsWithinTree index matched before (between + rest) → IsWithinTrees index ranks between after →
      IsWithinTree index (tree.Xrank matched ranks boost) before (after + rest)
  xrank_later matched ranks boost before between rest after within more = λ corpus valid stands sound.
      let sounds = sound_xrank corpus.schema matched ranks boost sound in
      omega (arith, within corpus valid stands sounds.0, more corpus valid stands sounds.1, reads_xrank corpus matched ranks boost)

  pub xrank_cost : (matched : FTree) (ranks : List FTree) (boost : ℤ) (one : Node) (more : List Node) (node : Node) (before between after : ℕ) → IsWithinTree index matched before (between + node_rest one) →
      IsWithinTrees index ranks between (after + sum (map node_rest more)) → node_rest node ≡ node_rest one + sum (map node_rest more) →
      IsWithinTree index (tree.Xrank matched ranks boost) before (after + node_rest node)
  xrank_cost matched ranks boost one more node before between after within withins rests = λ corpus valid stands sound.
      omega (arith, xrank_later matched ranks boost before between (node_rest one) (after + sum (map node_rest more)) within withins corpus valid stands sound, rests)

-- ---- the loop over parts

pub sound_at : {X : Type 0} (P : X → Type 0) (xs : List X) (i : ℕ) (x : X) → i < length xs → x ≡ get_or xs i x → AllByRecursion P xs → P x
sound_at P [] i x l is all = absurd (omega arith)
sound_at P (y ∷ xs) zero x l is all = subst P (sym is) all.0
sound_at P (y ∷ xs) (suc i) x l is all = sound_at P xs i x (omega arith) is all.1

split_at : {X : Type 0} (xs : List X) (i : ℕ) (x : X) → i < length xs → x ≡ get_or xs i x → drop i xs ≡ x ∷ drop (i + 1) xs
split_at xs i x l is = drop-cons xs i x l ∙ ap (λ k. get_or xs i x ∷ drop k xs) (sym (add-one i)) ∙ ap (λ y. y ∷ drop (i + 1) xs) (sym is)

-- f of those that are done and g of those that are left
pub one_done : {X Y Z : Type 0} (f : X → Z) (g : Y → Z) (done now : List X) (x : X) (ys : List Y) (i : ℕ) (y : Y) (all : List Z) → i < length ys → y ≡ get_or ys i y →
    now ≡ done ++ x ∷ [] → f x ≡ g y → map f done ++ map g (drop i ys) ≡ all → map f now ++ map g (drop (i + 1) ys) ≡ all
one_done f g done now x ys i y all l is grown same e =
    ap (λ xs. map f xs ++ map g (drop (i + 1) ys)) grown
    ∙ ap (λ zs. zs ++ map g (drop (i + 1) ys)) (map-append f done (x ∷ []) ∙ ap (λ z. map f done ++ z ∷ []) same)
    ∙ append_assoc (map f done) (g y ∷ []) (map g (drop (i + 1) ys))
    ∙ sym (ap (λ rest. map f done ++ map g rest) (split_at ys i y l is)) ∙ e

pub one_paid : {X Y : Type 0} (f : X → ℕ) (g : Y → ℕ) (done now : List X) (x : X) (ys : List Y) (i : ℕ) (y : Y) (before after all : ℕ) → i < length ys → y ≡ get_or ys i y →
    now ≡ done ++ x ∷ [] → after + f x ≤ before + 256 * g y → before + sum (map f done) + 256 * sum (map g (drop i ys)) ≤ all →
    after + sum (map f now) + 256 * sum (map g (drop (i + 1) ys)) ≤ all
one_paid f g done now x ys i y before after all l is grown step most =
    let left : sum (map g (drop i ys)) ≡ g y + sum (map g (drop (i + 1) ys)) = ap (λ rest. sum (map g rest)) (split_at ys i y l is) ∙ sum_by-cons (λ n. n) (g y) (map g (drop (i + 1) ys)) in
    let taken : sum (map f now) ≡ sum (map f done) + f x =
    ap (λ xs. sum (map f xs)) grown ∙ ap sum (map-append f done (x ∷ [])) ∙ sum_by-append (λ n. n) (map f done) (f x ∷ []) ∙ ap (λ n. sum (map f done) + n) (sum_by-cons (λ n. n) (f x) [] ∙ omega arith) in
    omega (arith, left, taken, step, most)

-- ---- where less is held

pub tree_less : (index : Indexed) (tree : FTree) (before after more : ℕ) → IsWithinTree index tree before (after + more) → IsWithinTree index tree before after
tree_less index tree before after more within = λ corpus valid stands sound. omega (arith, within corpus valid stands sound)

pub trees_less : (index : Indexed) (trees : List FTree) (before after more : ℕ) → IsWithinTrees index trees before (after + more) → IsWithinTrees index trees before after
trees_less index trees before after more within = λ corpus valid stands sound. omega (arith, within corpus valid stands sound)

-- ---- in the arm of an expression of a first part and others

module _ (index : Indexed) (whole first given : FTree) (others trees : List FTree) (same : given ≡ first) (sames : trees ≡ others) where
  module _ (is : whole ≡ tree.AndNot first others) where
    pub and_not_first_refused : (before after : ℕ) → IsWithinTree index given before after → IsWithinTree index whole before after
    and_not_first_refused before after within =
        subst (λ t. IsWithinTree index t before after) (sym is) (and_not_refused index first others before after (subst (λ t. IsWithinTree index t before after) same within))

    pub and_not_others_refused : (before between rest after : ℕ) → IsWithinTree index given before (between + rest) → IsWithinTrees index trees between after → IsWithinTree index whole before after
    and_not_others_refused before between rest after within withins =
        subst (λ t. IsWithinTree index t before after) (sym is) (tree_less index (tree.AndNot first others) before after rest
        (and_not_later index first others before between rest after (subst (λ t. IsWithinTree index t before (between + rest)) same within) (subst (λ ts. IsWithinTrees index ts between after) sames withins)))

    pub and_not_node_scored : (one : Node) (more : List Node) (node : Node) → IsNodeOf index given one → AreNodesOf index trees more →
        ((row : ℕ) → node_score node row ≡ unless (some_score row more) (node_score one row)) → IsNodeOf index whole node
    and_not_node_scored one more node own owns by =
        subst (λ t. IsNodeOf index t node) (sym is) (and_not_scored index first others one more node (subst (λ t. IsNodeOf index t one) same own) (subst (λ ts. AreNodesOf index ts more) sames owns) by)

    pub and_not_node_cost : (one : Node) (more : List Node) (node : Node) (before between after : ℕ) → IsWithinTree index given before (between + node_rest one) →
        IsWithinTrees index trees between (after + sum (map node_rest more)) → node_rest node ≡ node_rest one + sum (map node_rest more) → IsWithinTree index whole before (after + node_rest node)
    and_not_node_cost one more node before between after within withins rests =
        subst (λ t. IsWithinTree index t before (after + node_rest node)) (sym is) (and_not_cost index first others one more node before between after
        (subst (λ t. IsWithinTree index t before (between + node_rest one)) same within) (subst (λ ts. IsWithinTrees index ts between (after + sum (map node_rest more))) sames withins) rests)

  module _ (boost : ℤ) (is : whole ≡ tree.Xrank first others boost) where
    pub xrank_first_refused : (before after : ℕ) → IsWithinTree index given before after → IsWithinTree index whole before after
    xrank_first_refused before after within =
        subst (λ t. IsWithinTree index t before after) (sym is) (xrank_refused index first others boost before after (subst (λ t. IsWithinTree index t before after) same within))

    pub xrank_others_refused : (before between rest after : ℕ) → IsWithinTree index given before (between + rest) → IsWithinTrees index trees between after → IsWithinTree index whole before after
    xrank_others_refused before between rest after within withins =
        subst (λ t. IsWithinTree index t before after) (sym is) (tree_less index (tree.Xrank first others boost) before after rest
        (xrank_later index first others boost before between rest after (subst (λ t. IsWithinTree index t before (between + rest)) same within) (subst (λ ts. IsWithinTrees index ts between after) sames withins)))

    pub xrank_node_scored : (one : Node) (more : List Node) (node : Node) → IsNodeOf index given one → AreNodesOf index trees more →
        ((row : ℕ) → node_score node row ≡ with_boost (some_score row more) boost (node_score one row)) → IsNodeOf index whole node
    xrank_node_scored one more node own owns by =
        subst (λ t. IsNodeOf index t node) (sym is) (xrank_scored index first others boost one more node (subst (λ t. IsNodeOf index t one) same own) (subst (λ ts. AreNodesOf index ts more) sames owns) by)

    pub xrank_node_cost : (one : Node) (more : List Node) (node : Node) (before between after : ℕ) → IsWithinTree index given before (between + node_rest one) →
        IsWithinTrees index trees between (after + sum (map node_rest more)) → node_rest node ≡ node_rest one + sum (map node_rest more) → IsWithinTree index whole before (after + node_rest node)
    xrank_node_cost one more node before between after within withins rests =
        subst (λ t. IsWithinTree index t before (after + node_rest node)) (sym is) (xrank_cost index first others boost one more node before between after
        (subst (λ t. IsWithinTree index t before (between + node_rest one)) same within) (subst (λ ts. IsWithinTrees index ts between (after + sum (map node_rest more))) sames withins) rests)

-- ---- the loop over parts, for each corpus

module _ (index : Indexed) (trees : List FTree) (i : ℕ) (t : FTree) (done now : List Node) (node : Node) (l : i < length trees) (is : t ≡ get_or trees i t) (grown : now ≡ done ++ node ∷ []) where
  abbrev pub Scored : List Node → ℕ → Type 0
  Scored nodes k = (corpus : Corpus) → IsValid corpus → StandsFor index corpus → AllByRecursion (PartsSound corpus.schema) trees → (row : ℕ) →
      map (λ n. node_score n row) nodes ++ map (scored corpus.schema (values_at corpus.items row)) (drop k trees) ≡ map (scored corpus.schema (values_at corpus.items row)) trees

  abbrev pub Paid : ℕ → List Node → ℕ → ℕ → Type 0
  Paid before nodes k after = (corpus : Corpus) → IsValid corpus → StandsFor index corpus → AllByRecursion (PartsSound corpus.schema) trees →
      after + sum (map node_rest nodes) + 256 * sum (map (reads corpus) (drop k trees)) ≤ before + 256 * sum (map (reads corpus) trees)

  pub next_scored : IsNodeOf index t node → Scored done i → Scored now (i + 1)
  next_scored own before = λ corpus valid stands sounds row.
      let sound = sound_at (PartsSound corpus.schema) trees i t l is sounds in
      one_done (λ n. node_score n row) (scored corpus.schema (values_at corpus.items row)) done now node trees i t (map (scored corpus.schema (values_at corpus.items row)) trees) l is grown
      (own corpus valid stands sound row) (before corpus valid stands sounds row)

  pub next_paid : (first before after : ℕ) → IsWithinTree index t before (after + node_rest node) → Paid first done i before → Paid first now (i + 1) after
  next_paid first before after own paid = λ corpus valid stands sounds.
      let sound = sound_at (PartsSound corpus.schema) trees i t l is sounds in
      one_paid node_rest (reads corpus) done now node trees i t before after (first + 256 * sum (map (reads corpus) trees)) l is grown
      (own corpus valid stands sound) (paid corpus valid stands sounds)

-- where a part finds no memory
pub part_refused : (index : Indexed) (trees : List FTree) (i : ℕ) (t : FTree) (nodes : List Node) (first before after : ℕ) → i < length trees → t ≡ get_or trees i t → IsWithinTree index t before after →
    ((corpus : Corpus) → IsValid corpus → StandsFor index corpus → AllByRecursion (PartsSound corpus.schema) trees →
    before + sum (map node_rest nodes) + 256 * sum (map (reads corpus) (drop i trees)) ≤ first + 256 * sum (map (reads corpus) trees)) → IsWithinTrees index trees first after
part_refused index trees i t nodes first before after l is own paid = λ corpus valid stands sounds.
    let sound = sound_at (PartsSound corpus.schema) trees i t l is sounds in
    let left : sum (map (reads corpus) (drop i trees)) ≡ reads corpus t + sum (map (reads corpus) (drop (i + 1) trees)) =
    ap (λ rest. sum (map (reads corpus) rest)) (split_at trees i t l is) ∙ sum_by-cons (λ n. n) (reads corpus t) (map (reads corpus) (drop (i + 1) trees)) in
    omega (arith, left, own corpus valid stands sound, paid corpus valid stands sounds)
