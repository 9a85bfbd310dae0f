-- Lists that grow: what a push and a flush leave.
use Rattle.std.proofs.Common.{◌≡◌, ℕ, ◌%◌, ◌<◌, true, ◌&&◌, List, [], ◌∷◌, ◌++◌, length, get_or, set, refl, sym, ap, ◌∙◌, subst, inl, inr, arith, zero, suc, Option, length-append}
use Rattle.std.proofs.lemmas.Bool.{and_parts, and_from}
use Rattle.std.proofs.lemmas.Bool.Decides.{eqb_tells}
use Rattle.std.proofs.lemmas.List.{append-nil, ext_get_or, length-set, get_or-set_same, get_or-set_other, get_or-map, length-map, set-get_or, get_or_default}
use Rattle.std.specs.Prelude.{IsSome, unwrap_or}
use Rattle.sq_pool.specs.Pool.{Held, Holding, chain_at, IsLive, words_of, OthersStay}
use Rattle.sq_coded.specs.Coded.{comes_before, is_small, rises_behind, is_list, may_follow, coded, decoded}
use Rattle.sq_coded.specs.Kept.{postings_of, postings_in, IsCoded, AreChains, AreCoded, IsOpen, lists_of, AreOpen}
use Rattle.sq_coded.specs.declared.posting.Posting.{Posting}
use Rattle.sq_coded.proofs.CodedLemmas.{decoded-coded}

-- ---- lists of postings

rises_behind-front : (before : Posting) (xs ys : List Posting) → rises_behind before (xs ++ ys) ≡ true → rises_behind before xs ≡ true
rises_behind-front before [] ys p = refl
rises_behind-front before (x ∷ xs) ys p =
    let parts = and_parts (comes_before before x && is_small x) (rises_behind x (xs ++ ys)) p in
    and_from (comes_before before x && is_small x) (rises_behind x xs) parts.0 (rises_behind-front x xs ys parts.1)

-- the front of a list is one
pub is_list-front : (xs ys : List Posting) → is_list (xs ++ ys) ≡ true → is_list xs ≡ true
is_list-front [] ys p = refl
is_list-front (x ∷ xs) ys p =
    let parts = and_parts (is_small x) (rises_behind x (xs ++ ys)) p in
    and_from (is_small x) (rises_behind x xs) parts.0 (rises_behind-front x xs ys parts.1)

rises_behind-push : (before : Posting) (xs : List Posting) (e : Posting) → rises_behind before xs ≡ true → may_follow (before ∷ xs) e ≡ true → is_small e ≡ true →
    rises_behind before (xs ++ e ∷ []) ≡ true
rises_behind-push before [] e p q r =
    and_from (comes_before before e && is_small e) true (and_from (comes_before before e) (is_small e) q r) refl
rises_behind-push before (x ∷ xs) e p q r =
    let parts = and_parts (comes_before before x && is_small x) (rises_behind x xs) p in
    and_from (comes_before before x && is_small x) (rises_behind x (xs ++ e ∷ [])) parts.0 (rises_behind-push x xs e parts.1 q r)

-- a list with one more entry behind its last
pub is_list-push : (xs : List Posting) (e : Posting) → is_list xs ≡ true → may_follow xs e ≡ true → is_small e ≡ true → is_list (xs ++ e ∷ []) ≡ true
is_list-push [] e p q r = and_from (is_small e) true r refl
is_list-push (x ∷ xs) e p q r =
    let parts = and_parts (is_small x) (rises_behind x xs) p in
    and_from (is_small x) (rises_behind x (xs ++ e ∷ [])) parts.0 (rises_behind-push x xs e parts.1 q r)

-- ---- one list

-- words that are the code of whole blocks, with an open block behind them
pub IsOpen-coded : (words : List ℕ) (all block : List Posting) → words ≡ coded all → length all % 128 ≡ 0 → is_list (all ++ block) ≡ true → IsOpen words block
IsOpen-coded words all block e whole list =
    let back : decoded words ≡ all = ap decoded e ∙ decoded-coded all (is_list-front all block list) in
    record {
      code = e ∙ ap coded (sym back);
      whole = subst (λ (xs : List Posting). length xs % 128 ≡ 0) (sym back) whole;
      list = subst (λ (xs : List Posting). is_list (xs ++ block) ≡ true) (sym back) list;
    }

pub IsCoded-coded : (words : List ℕ) (all : List Posting) → words ≡ coded all → is_list all ≡ true → IsCoded words
IsCoded-coded words all e list =
    let back : decoded words ≡ all = ap decoded e ∙ decoded-coded all list in
    record {
      code = e ∙ ap coded (sym back);
      list = subst (λ (xs : List Posting). is_list xs ≡ true) (sym back) list;
    }

-- ---- all lists

pub words_stay : (old new : Holding) (chain : ℕ) → chain_at new chain ≡ chain_at old chain → words_of new chain ≡ words_of old chain
words_stay old new chain stays = ap (λ (slot : Option Held). (unwrap_or {T = Held} slot (record { words = []; slices = [] })).words) stays

pub AreChains-changed : (old new : Holding) (chains : List ℕ) (i : ℕ) → AreChains old chains → i < length chains
    → IsLive new (get_or chains i 0) → OthersStay old new (get_or chains i 0) → AreChains new chains
AreChains-changed old new chains i ready below live others = record {
  live = λ j less. elim (eqb_tells j i) [
    | inl same ↦ subst (λ n. IsLive new (get_or chains n 0)) (sym same.1) live
    | inr differ ↦ subst IsSome (sym (others _ (ready.apart j i less below differ.1))) (ready.live j less)
  ];
  apart = ready.apart;
}

pub length-lists_of : (pool : Holding) (chains : List ℕ) (blocks : List (List Posting)) → length (lists_of pool chains blocks) ≡ length chains
length-lists_of pool [] blocks = refl
length-lists_of pool (chain ∷ chains) [] = ap suc (length-lists_of pool chains [])
length-lists_of pool (chain ∷ chains) (block ∷ blocks) = ap suc (length-lists_of pool chains blocks)

pub get_or-lists_of : (pool : Holding) (chains : List ℕ) (blocks : List (List Posting)) (i : ℕ) → i < length chains →
    get_or (lists_of pool chains blocks) i [] ≡ postings_of pool (get_or chains i 0) ++ get_or blocks i []
get_or-lists_of pool [] blocks i less = absurd (omega (arith, less))
get_or-lists_of pool (chain ∷ chains) [] zero less = sym (append-nil (postings_of pool chain))
get_or-lists_of pool (chain ∷ chains) [] (suc i) less = get_or-lists_of pool chains [] i (omega (arith, less))
get_or-lists_of pool (chain ∷ chains) (block ∷ blocks) zero less = refl
get_or-lists_of pool (chain ∷ chains) (block ∷ blocks) (suc i) less = get_or-lists_of pool chains blocks i (omega (arith, less))

pub AreOpen-changed : (old new : Holding) (chains : List ℕ) (blocks : List (List Posting)) (i : ℕ) (block : List Posting) → AreOpen old chains blocks → i < length chains
    → IsLive new (get_or chains i 0) → OthersStay old new (get_or chains i 0) → IsOpen (words_of new (get_or chains i 0)) block → AreOpen new chains (set blocks i block)
AreOpen-changed old new chains blocks i block lists below live others kept = record {
  ready = AreChains-changed old new chains i lists.ready below live others;
  enough = omega (arith, lists.enough, length-set blocks i block);
  spare = λ j more. get_or-set_other blocks i j block [] (omega arith) ∙ lists.spare j more;
  kept = λ j less. elim (eqb_tells j i) [
    | inl same ↦ subst (λ n. IsOpen (words_of new (get_or chains n 0)) (get_or (set blocks i block) n [])) (sym same.1)
        (subst (IsOpen (words_of new (get_or chains i 0))) (sym (get_or-set_same blocks i block [] (omega (arith, lists.enough)))) kept)
    | inr differ ↦ subst (λ words. IsOpen words (get_or (set blocks i block) j [])) (sym (words_stay old new _ (others _ (lists.ready.apart j i less below differ.1))))
        (subst (IsOpen (words_of old (get_or chains j 0))) (sym (get_or-set_other blocks i j block [] differ.1)) (lists.kept j less))
  ];
}

pub lists_of-changed : (old new : Holding) (chains : List ℕ) (blocks : List (List Posting)) (i : ℕ) (block : List Posting) → AreOpen old chains blocks → i < length chains
    → OthersStay old new (get_or chains i 0) → lists_of new chains (set blocks i block) ≡ set (lists_of old chains blocks) i (postings_of new (get_or chains i 0) ++ block)
lists_of-changed old new chains blocks i block lists below others =
    ext_get_or [] _ _ (length-lists_of new chains (set blocks i block) ∙ sym (length-lists_of old chains blocks) ∙ sym (length-set (lists_of old chains blocks) i _))
    (λ j inside. let less : j < length chains = omega (arith, inside, length-lists_of new chains (set blocks i block)) in
    get_or-lists_of new chains (set blocks i block) j less
    ∙ elim (eqb_tells j i) [
      | inl same ↦ subst (λ n. postings_of new (get_or chains n 0) ++ get_or (set blocks i block) n [] ≡ get_or (set (lists_of old chains blocks) i (postings_of new (get_or chains i 0) ++ block)) n []) (sym same.1)
          (ap (λ b. postings_of new (get_or chains i 0) ++ b) (get_or-set_same blocks i block [] (omega (arith, lists.enough)))
          ∙ sym (get_or-set_same (lists_of old chains blocks) i _ [] (omega (arith, below, length-lists_of old chains blocks))))
      | inr differ ↦ ap (λ words. decoded words ++ get_or (set blocks i block) j []) (words_stay old new _ (others _ (lists.ready.apart j i less below differ.1)))
          ∙ ap (λ b. postings_of old (get_or chains j 0) ++ b) (get_or-set_other blocks i j block [] differ.1)
          ∙ sym (get_or-lists_of old chains blocks j less)
          ∙ sym (get_or-set_other (lists_of old chains blocks) i j _ [] differ.1)
    ])

-- ---- a push, as the code makes it

pub length-full : (xs block : List Posting) → length xs % 128 ≡ 0 → length block ≡ 128 → length (xs ++ block) % 128 ≡ 0
length-full xs block p q = omega (arith, p, q, length-append xs block)

pub AreOpen-pushed : (old new : Holding) (chains : List ℕ) (blocks : List (List Posting)) (i chain chain' : ℕ) (block : List Posting) → AreOpen old chains blocks → i < length chains
    → chain ≡ get_or chains i 0 → chain' ≡ chain → IsLive new chain → OthersStay old new chain → IsOpen (words_of new chain) block → AreOpen new (set chains i chain') (set blocks i block)
AreOpen-pushed old new chains blocks i chain chain' block lists below is same live others kept =
    let stays : set chains i chain' ≡ chains = ap (set chains i) (same ∙ is) ∙ set-get_or chains i 0 in
    subst (λ cs. AreOpen new cs (set blocks i block)) (sym stays)
    (AreOpen-changed old new chains blocks i block lists below (subst (IsLive new) is live) (subst (OthersStay old new) is others)
    (subst (λ n. IsOpen (words_of new n) block) is kept))

pub lists_of-pushed : (old new : Holding) (chains : List ℕ) (blocks : List (List Posting)) (i chain chain' : ℕ) (block : List Posting) → AreOpen old chains blocks → i < length chains
    → chain ≡ get_or chains i 0 → chain' ≡ chain → OthersStay old new chain
    → lists_of new (set chains i chain') (set blocks i block) ≡ set (lists_of old chains blocks) i (postings_of new chain ++ block)
lists_of-pushed old new chains blocks i chain chain' block lists below is same others =
    let stays : set chains i chain' ≡ chains = ap (set chains i) (same ∙ is) ∙ set-get_or chains i 0 in
    ap (λ cs. lists_of new cs (set blocks i block)) stays
    ∙ lists_of-changed old new chains blocks i block lists below (subst (OthersStay old new) is others)
    ∙ ap (λ n. set (lists_of old chains blocks) i (postings_of new n ++ block)) (sym is)

-- the list at a place, by the chain and the block that stand there
pub list_there : (pool : Holding) (chains : List ℕ) (blocks : List (List Posting)) (i chain : ℕ) (block : List Posting) → i < length chains → chain ≡ get_or chains i 0 → block ≡ get_or blocks i [] →
    postings_of pool chain ++ block ≡ get_or (lists_of pool chains blocks) i []
list_there pool chains blocks i chain block below is there =
    ap (λ n. postings_of pool n ++ block) is ∙ ap (λ b. postings_of pool (get_or chains i 0) ++ b) there ∙ sym (get_or-lists_of pool chains blocks i below)

-- the words of the chain at a place are the code of the list there
pub list_of_chain : (pool : Holding) (chains : List ℕ) (lists : List (List Posting)) (i chain : ℕ) → AreCoded pool chains → postings_in pool chains ≡ lists → i < length lists → chain ≡ get_or chains i chain →
    words_of pool chain ≡ coded (get_or lists i [])
list_of_chain pool chains lists i chain kept view below is =
    let inside : i < length chains = omega (arith, below, ap length view, length-map chains (postings_of pool)) in
    let here : chain ≡ get_or chains i 0 = is ∙ get_or_default chains i chain 0 inside in
    ap (words_of pool) here ∙ (kept.coded i inside).code ∙ ap coded (sym (get_or-map (postings_of pool) chains i 0 [] inside) ∙ ap (λ ls. get_or ls i []) view)
