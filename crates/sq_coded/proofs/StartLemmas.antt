-- A list is begun.
use Rattle.std.proofs.Common.{◌≡◌, ◌≢◌, ℕ, ◌+◌, ◌<◌, ◌≤◌, List, [], ◌∷◌, ◌++◌, length, get_or, Option, Some, None, refl, sym, ap, ◌∙◌, subst, inl, inr, arith}
use Rattle.std.proofs.lemmas.Bool.{cases_lt}
use Rattle.std.proofs.lemmas.List.{ext_get_or, get_or_append_left, get_or_push, length_push}
use Rattle.std.specs.Prelude.{IsSome, unwrap_or}
use Rattle.sq_pool.specs.Pool.{Held, Holding, chain_at, IsLive, words_of, OthersStay}
use Rattle.sq_coded.specs.Coded.{decoded}
use Rattle.sq_coded.specs.Kept.{postings_of, AreChains, IsOpen, lists_of, AreOpen}
use Rattle.sq_coded.specs.declared.posting.Posting.{Posting}
use Rattle.sq_coded.proofs.CodedLemmas.{coded_none, decoded-coded}
use Rattle.sq_coded.proofs.OpenLemmas.{words_stay, length-lists_of, get_or-lists_of, IsOpen-coded}

-- the blocks may get longer by empty ones
pub AreOpen-blocks : (pool : Holding) (chains : List ℕ) (blocks more : List (List Posting)) → AreOpen pool chains blocks → length blocks ≤ length more
    → ((i : ℕ) → get_or more i [] ≡ get_or blocks i []) → AreOpen pool chains more
AreOpen-blocks pool chains blocks more lists longer same = record {
  ready = lists.ready;
  enough = omega (arith, lists.enough, longer);
  spare = λ i past. same i ∙ lists.spare i past;
  kept = λ i less. subst (IsOpen (words_of pool (get_or chains i 0))) (sym (same i)) (lists.kept i less);
}

pub lists_of-blocks : (pool : Holding) (chains : List ℕ) (blocks more : List (List Posting)) → ((i : ℕ) → get_or more i [] ≡ get_or blocks i []) → lists_of pool chains more ≡ lists_of pool chains blocks
lists_of-blocks pool chains blocks more same =
    ext_get_or [] _ _ (length-lists_of pool chains more ∙ sym (length-lists_of pool chains blocks))
    (λ i inside. let less : i < length chains = omega (arith, inside, length-lists_of pool chains more) in
    get_or-lists_of pool chains more i less ∙ ap (λ b. postings_of pool (get_or chains i 0) ++ b) (same i) ∙ sym (get_or-lists_of pool chains blocks i less))

-- a chain that wasn't live is none of the lists'
other_chain : (old : Holding) (chains : List ℕ) (chain i : ℕ) → AreChains old chains → chain_at old chain ≡ None → i < length chains → get_or chains i 0 ≢ chain
other_chain old chains chain i ready fresh less same =
    let live : IsSome (chain_at old chain) = subst (λ n. IsSome (chain_at old n)) same (ready.live i less) in
    let empty : IsSome {T = Held} None = subst IsSome fresh live in
    cc

-- with a live chain that is no list's yet
pub AreOpen-others : (old new : Holding) (chains : List ℕ) (blocks : List (List Posting)) (chain : ℕ) → AreOpen old chains blocks → chain_at old chain ≡ None → OthersStay old new chain → AreOpen new chains blocks
AreOpen-others old new chains blocks chain lists fresh others = record {
  ready = record {
    live = λ i less. subst IsSome (sym (others _ (other_chain old chains chain i lists.ready fresh less))) (lists.ready.live i less);
    apart = lists.ready.apart;
  };
  enough = lists.enough;
  spare = lists.spare;
  kept = λ i less. subst (λ words. IsOpen words (get_or blocks i [])) (sym (words_stay old new _ (others _ (other_chain old chains chain i lists.ready fresh less)))) (lists.kept i less);
}

pub lists_of-others : (old new : Holding) (chains : List ℕ) (blocks : List (List Posting)) (chain : ℕ) → AreOpen old chains blocks → chain_at old chain ≡ None → OthersStay old new chain
    → lists_of new chains blocks ≡ lists_of old chains blocks
lists_of-others old new chains blocks chain lists fresh others =
    ext_get_or [] _ _ (length-lists_of new chains blocks ∙ sym (length-lists_of old chains blocks))
    (λ i inside. let less : i < length chains = omega (arith, inside, length-lists_of new chains blocks) in
    get_or-lists_of new chains blocks i less
    ∙ ap (λ words. decoded words ++ get_or blocks i []) (words_stay old new _ (others _ (other_chain old chains chain i lists.ready fresh less)))
    ∙ sym (get_or-lists_of old chains blocks i less))

no_words : (pool : Holding) (chain : ℕ) → chain_at pool chain ≡ Some (record { words = []; slices = [] }) → words_of pool chain ≡ []
no_words pool chain is = ap (λ (slot : Option Held). (unwrap_or {T = Held} slot (record { words = []; slices = [] })).words) is

no_postings : (pool : Holding) (chain : ℕ) → chain_at pool chain ≡ Some (record { words = []; slices = [] }) → postings_of pool chain ≡ []
no_postings pool chain is = ap decoded (no_words pool chain is ∙ sym coded_none) ∙ decoded-coded [] refl

pub AreOpen-started : (old new : Holding) (chains : List ℕ) (blocks : List (List Posting)) (chain : ℕ) → AreOpen old chains blocks → length chains < length blocks → chain_at old chain ≡ None
    → chain_at new chain ≡ Some (record { words = []; slices = [] }) → OthersStay old new chain → AreOpen new (chains ++ chain ∷ []) blocks
AreOpen-started old new chains blocks chain lists room fresh is others =
    let now = AreOpen-others old new chains blocks chain lists fresh others in
    let before : (i : ℕ) → i < length chains → get_or (chains ++ chain ∷ []) i 0 ≡ get_or chains i 0 = λ i less. get_or_append_left chains (chain ∷ []) 0 i less in
    let last : get_or (chains ++ chain ∷ []) (length chains) 0 ≡ chain = get_or_push chains chain 0 (length chains) refl in
    let many : length (chains ++ chain ∷ []) ≡ length chains + 1 = length_push chains chain in
    let live : IsLive new chain = subst IsSome (sym is) refl in
    let open_now : IsOpen (words_of new chain) (get_or blocks (length chains) []) =
    subst (IsOpen (words_of new chain)) (sym (lists.spare (length chains) (omega arith)))
    (IsOpen-coded (words_of new chain) [] [] (no_words new chain is ∙ sym coded_none) refl refl) in
    record {
      ready = record {
        live = λ i less. elim (cases_lt i (length chains)) [
          | inl low ↦ subst (IsLive new) (sym (before i low)) (now.ready.live i low)
          | inr high ↦ (let same : i ≡ length chains = omega arith in subst (λ n. IsLive new (get_or (chains ++ chain ∷ []) n 0)) (sym same) (subst (IsLive new) (sym last) live))
        ];
        apart = λ i j first second differ same. elim (cases_lt i (length chains)) [
          | inl low ↦ elim (cases_lt j (length chains)) [
            | inl low' ↦ lists.ready.apart i j low low' differ (sym (before i low) ∙ same ∙ before j low')
            | inr high' ↦ (let end : j ≡ length chains = omega arith in
                other_chain old chains chain i lists.ready fresh low (sym (before i low) ∙ same ∙ ap (λ n. get_or (chains ++ chain ∷ []) n 0) end ∙ last))
          ]
          | inr high ↦ elim (cases_lt j (length chains)) [
            | inl low' ↦ (let end : i ≡ length chains = omega arith in
                other_chain old chains chain j lists.ready fresh low' (sym (before j low') ∙ sym same ∙ ap (λ n. get_or (chains ++ chain ∷ []) n 0) end ∙ last))
            | inr high' ↦ differ (omega arith)
          ]
        ];
      };
      enough = omega (arith, many, room);
      spare = λ i past. lists.spare i (omega (arith, many, past));
      kept = λ i less. elim (cases_lt i (length chains)) [
        | inl low ↦ subst (λ n. IsOpen (words_of new n) (get_or blocks i [])) (sym (before i low)) (now.kept i low)
        | inr high ↦ (let same : i ≡ length chains = omega arith in
            subst (λ k. IsOpen (words_of new (get_or (chains ++ chain ∷ []) k 0)) (get_or blocks k [])) (sym same) (subst (λ n. IsOpen (words_of new n) (get_or blocks (length chains) [])) (sym last) open_now))
      ];
    }

pub lists_of-started : (old new : Holding) (chains : List ℕ) (blocks : List (List Posting)) (chain : ℕ) → AreOpen old chains blocks → chain_at old chain ≡ None
    → chain_at new chain ≡ Some (record { words = []; slices = [] }) → OthersStay old new chain → lists_of new (chains ++ chain ∷ []) blocks ≡ lists_of old chains blocks ++ [] ∷ []
lists_of-started old new chains blocks chain lists fresh is others =
    let many : length (chains ++ chain ∷ []) ≡ length chains + 1 = length_push chains chain in
    let all : length (lists_of old chains blocks) ≡ length chains = length-lists_of old chains blocks in
    ext_get_or [] _ _ (length-lists_of new (chains ++ chain ∷ []) blocks ∙ many ∙ sym (length_push (lists_of old chains blocks) [] ∙ ap (λ n. n + 1) all))
    (λ i inside. let less : i < length (chains ++ chain ∷ []) = omega (arith, inside, length-lists_of new (chains ++ chain ∷ []) blocks) in
    get_or-lists_of new (chains ++ chain ∷ []) blocks i less
    ∙ elim (cases_lt i (length chains)) [
      | inl low ↦ ap (λ n. postings_of new n ++ get_or blocks i []) (get_or_append_left chains (chain ∷ []) 0 i low)
          ∙ sym (get_or-lists_of new chains blocks i low) ∙ ap (λ ls. get_or ls i []) (lists_of-others old new chains blocks chain lists fresh others)
          ∙ sym (get_or_append_left (lists_of old chains blocks) ([] ∷ []) [] i (omega (arith, all)))
      | inr high ↦ (let same : length chains ≡ i = omega (arith, less, many) in
          ap (λ n. postings_of new n ++ get_or blocks i []) (get_or_push chains chain 0 i same)
          ∙ ap (λ xs. xs ++ get_or blocks i []) (no_postings new chain is) ∙ lists.spare i high
          ∙ sym (get_or_push (lists_of old chains blocks) [] [] i (all ∙ same)))
    ])
