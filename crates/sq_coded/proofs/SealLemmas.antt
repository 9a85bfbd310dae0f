-- Lists are sealed one after another.
use Rattle.std.proofs.Common.{◌≡◌, ℕ, ◌+◌, ◌<◌, ◌≤◌, true, List, [], ◌++◌, length, get_or, set, refl, sym, ap, ◌∙◌, subst, inl, inr, arith}
use Rattle.std.proofs.lemmas.Bool.Decides.{eqb_tells}
use Rattle.std.proofs.lemmas.List.{ext_get_or, length-set, get_or-set_other, get_or-map, length-map, set-get_or}
use Rattle.sq_pool.specs.Pool.{Holding, IsLive, words_of, OthersStay}
use Rattle.sq_coded.specs.Coded.{is_list, coded, decoded}
use Rattle.sq_coded.specs.Kept.{postings_of, postings_in, AreChains, AreCoded, IsOpen, lists_of, AreOpen}
use Rattle.sq_coded.specs.declared.posting.Posting.{Posting}
use Rattle.sq_coded.proofs.CodedLemmas.{decoded-coded}
use Rattle.sq_coded.proofs.OpenLemmas.{IsCoded-coded, words_stay, AreChains-changed, length-lists_of, get_or-lists_of}

-- the lists before a place are sealed, and the others as they were
pub record SealedTo (n : ℕ) (pool : Holding) (chains : List ℕ) (blocks : List (List Posting)) (pool0 : Holding) (chains0 : List ℕ) (blocks0 : List (List Posting)) : Type 0 where
  pub same : chains ≡ chains0
  pub count : length blocks ≡ length blocks0
  pub ready : AreChains pool chains0
  pub done : (j : ℕ) → j < n → j < length chains0 → words_of pool (get_or chains0 j 0) ≡ coded (get_or (lists_of pool0 chains0 blocks0) j [])
  pub words : (j : ℕ) → n ≤ j → j < length chains0 → words_of pool (get_or chains0 j 0) ≡ words_of pool0 (get_or chains0 j 0)
  pub left : (j : ℕ) → n ≤ j → get_or blocks j [] ≡ get_or blocks0 j []

pub SealedTo-none : (pool : Holding) (chains : List ℕ) (blocks : List (List Posting)) → AreOpen pool chains blocks → SealedTo 0 pool chains blocks pool chains blocks
SealedTo-none pool chains blocks lists = record {
  same = refl;
  count = refl;
  ready = lists.ready;
  done = λ j none less. absurd (omega (arith, none));
  words = λ j above less. refl;
  left = λ j above. refl;
}

-- the chain and the block at the place are still as they were
pub IsOpen-next : (n : ℕ) (pool : Holding) (chains : List ℕ) (blocks : List (List Posting)) (pool0 : Holding) (chains0 : List ℕ) (blocks0 : List (List Posting)) (chain : ℕ) (block : List Posting)
    → SealedTo n pool chains blocks pool0 chains0 blocks0 → AreOpen pool0 chains0 blocks0 → n < length chains0 → chain ≡ get_or chains n 0 → block ≡ get_or blocks n []
    → IsOpen (words_of pool chain) block
IsOpen-next n pool chains blocks pool0 chains0 blocks0 chain block to lists below is there =
    let chain' : chain ≡ get_or chains0 n 0 = is ∙ ap (λ cs. get_or cs n 0) to.same in
    let block' : block ≡ get_or blocks0 n [] = there ∙ to.left n (omega arith) in
    subst (λ words. IsOpen words block) (sym (ap (words_of pool) chain' ∙ to.words n (omega arith) below))
    (subst (IsOpen (words_of pool0 (get_or chains0 n 0))) (sym block') (lists.kept n below))

pub IsLive-next : (n : ℕ) (pool : Holding) (chains : List ℕ) (blocks : List (List Posting)) (pool0 : Holding) (chains0 : List ℕ) (blocks0 : List (List Posting)) (chain : ℕ)
    → SealedTo n pool chains blocks pool0 chains0 blocks0 → n < length chains0 → chain ≡ get_or chains n 0 → IsLive pool chain
IsLive-next n pool chains blocks pool0 chains0 blocks0 chain to below is =
    subst (IsLive pool) (sym (is ∙ ap (λ cs. get_or cs n 0) to.same)) (to.ready.live n below)

pub SealedTo-more : (n : ℕ) (pool new : Holding) (chains : List ℕ) (blocks : List (List Posting)) (pool0 : Holding) (chains0 : List ℕ) (blocks0 : List (List Posting)) (chain chain' : ℕ) (block block' : List Posting)
    → SealedTo n pool chains blocks pool0 chains0 blocks0 → AreOpen pool0 chains0 blocks0 → n < length chains0 → chain ≡ get_or chains n 0 → block ≡ get_or blocks n []
    → chain' ≡ chain → IsLive new chain → OthersStay pool new chain → words_of new chain ≡ coded (postings_of pool chain ++ block)
    → SealedTo (n + 1) new (set chains n chain') (set blocks n block') pool0 chains0 blocks0
SealedTo-more n pool new chains blocks pool0 chains0 blocks0 chain chain' block block' to lists below is there stays live others words =
    let here : chain ≡ get_or chains0 n 0 = is ∙ ap (λ cs. get_or cs n 0) to.same in
    let here_block : block ≡ get_or blocks0 n [] = there ∙ to.left n (omega arith) in
    let live' : IsLive new (get_or chains0 n 0) = subst (IsLive new) here live in
    let others' : OthersStay pool new (get_or chains0 n 0) = subst (OthersStay pool new) here others in
    let entries : postings_of pool chain ++ block ≡ get_or (lists_of pool0 chains0 blocks0) n [] =
    ap (λ ws. decoded ws ++ block) (ap (words_of pool) here ∙ to.words n (omega arith) below) ∙ ap (λ b. postings_of pool0 (get_or chains0 n 0) ++ b) here_block
    ∙ sym (get_or-lists_of pool0 chains0 blocks0 n below) in
    let now : words_of new (get_or chains0 n 0) ≡ coded (get_or (lists_of pool0 chains0 blocks0) n []) = ap (words_of new) (sym here) ∙ words ∙ ap coded entries in
    record {
      same = ap (set chains n) (stays ∙ is) ∙ set-get_or chains n 0 ∙ to.same;
      count = length-set blocks n block' ∙ to.count;
      ready = AreChains-changed pool new chains0 n to.ready below live' others';
      done = λ j before less. elim (eqb_tells j n) [
        | inl same ↦ subst (λ k. words_of new (get_or chains0 k 0) ≡ coded (get_or (lists_of pool0 chains0 blocks0) k [])) (sym same.1) now
        | inr differ ↦ words_stay pool new _ (others' _ (to.ready.apart j n less below differ.1)) ∙ to.done j (let d = differ.1 in omega arith) less
      ];
      words = λ j above less. words_stay pool new _ (others' _ (to.ready.apart j n less below (omega arith))) ∙ to.words j (omega arith) less;
      left = λ j above. get_or-set_other blocks n j block' [] (omega arith) ∙ to.left j (omega arith);
    }

list_is : (pool : Holding) (chains : List ℕ) (blocks : List (List Posting)) (j : ℕ) → AreOpen pool chains blocks → j < length chains → is_list (get_or (lists_of pool chains blocks) j []) ≡ true
list_is pool chains blocks j lists less = subst (λ (xs : List Posting). is_list xs ≡ true) (sym (get_or-lists_of pool chains blocks j less)) (lists.kept j less).list

pub AreCoded-sealed : (n : ℕ) (pool : Holding) (chains : List ℕ) (blocks : List (List Posting)) (pool0 : Holding) (chains0 : List ℕ) (blocks0 : List (List Posting))
    → SealedTo n pool chains blocks pool0 chains0 blocks0 → AreOpen pool0 chains0 blocks0 → length chains ≤ n → AreCoded pool chains
AreCoded-sealed n pool chains blocks pool0 chains0 blocks0 to lists all =
    let many : length chains ≡ length chains0 = ap length to.same in
    subst (AreCoded pool) (sym to.same) (record {
      ready = to.ready;
      coded = λ j less. IsCoded-coded (words_of pool (get_or chains0 j 0)) (get_or (lists_of pool0 chains0 blocks0) j []) (to.done j (omega arith) less) (list_is pool0 chains0 blocks0 j lists less);
    })

pub postings_in-sealed : (n : ℕ) (pool : Holding) (chains : List ℕ) (blocks : List (List Posting)) (pool0 : Holding) (chains0 : List ℕ) (blocks0 : List (List Posting))
    → SealedTo n pool chains blocks pool0 chains0 blocks0 → AreOpen pool0 chains0 blocks0 → length chains ≤ n → postings_in pool chains ≡ lists_of pool0 chains0 blocks0
postings_in-sealed n pool chains blocks pool0 chains0 blocks0 to lists all =
    let many : length chains ≡ length chains0 = ap length to.same in
    ap (postings_in pool) to.same
    ∙ ext_get_or [] _ _ (length-map chains0 (postings_of pool) ∙ sym (length-lists_of pool0 chains0 blocks0))
    (λ j inside. let less : j < length chains0 = omega (arith, inside, length-map chains0 (postings_of pool)) in
    get_or-map (postings_of pool) chains0 j 0 [] less ∙ ap decoded (to.done j (omega arith) less)
    ∙ decoded-coded (get_or (lists_of pool0 chains0 blocks0) j []) (list_is pool0 chains0 blocks0 j lists less))
