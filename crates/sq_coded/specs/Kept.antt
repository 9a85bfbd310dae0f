-- What lists keep, while they grow and when they are sealed.
use Rattle.std.specs.Prelude.{◌≡◌, ◌≢◌, ℕ, ◌<◌, ◌≤◌, ◌%◌, true, List, length, map, slice_index, slice_index_or, [], ◌∷◌, ◌++◌}
use Rattle.sq_pool.specs.Pool.{Holding, IsLive, words_of}
use Rattle.sq_coded.specs.Coded.{coded, decoded, is_list, block_entries}
use Rattle.sq_coded.specs.declared.posting.Posting.{Posting}

-- ---- sealed lists

abbrev pub postings_of : Holding → ℕ → List Posting
postings_of pool chain = decoded (words_of pool chain)

abbrev pub postings_in : Holding → List ℕ → List (List Posting)
postings_in pool chains = map (postings_of pool) chains

-- the words are the code of a list
pub record IsCoded (words : List ℕ) : Type 0 where
  pub code : words ≡ coded (decoded words)
  pub list : is_list (decoded words) ≡ true

-- the chains are live, and no two are the same
pub record AreChains (pool : Holding) (chains : List ℕ) : Type 0 where
  pub live : (i : ℕ) → i < length chains → IsLive pool (slice_index chains i)
  pub apart : (i j : ℕ) → i < length chains → j < length chains → i ≢ j → slice_index chains i ≢ slice_index chains j

-- the words of each chain are the code of its postings
pub record AreCoded (pool : Holding) (chains : List ℕ) : Type 0 where
  pub ready : AreChains pool chains
  pub coded : (i : ℕ) → i < length chains → IsCoded (words_of pool (slice_index chains i))

-- ---- lists that grow

-- the words are the code of whole blocks, behind which the open entries stand
pub record IsOpen (words : List ℕ) (block : List Posting) : Type 0 where
  pub code : words ≡ coded (decoded words)
  pub whole : length (decoded words) % block_entries ≡ 0
  pub list : is_list (decoded words ++ block) ≡ true

abbrev pub lists_of : Holding → List ℕ → List (List Posting) → List (List Posting)
lists_of pool [] blocks = []
lists_of pool (chain ∷ chains) [] = postings_of pool chain ∷ lists_of pool chains []
lists_of pool (chain ∷ chains) (block ∷ blocks) = (postings_of pool chain ++ block) ∷ lists_of pool chains blocks

-- each list is a chain and an open block; a block without a chain is empty
pub record AreOpen (pool : Holding) (chains : List ℕ) (blocks : List (List Posting)) : Type 0 where
  pub ready : AreChains pool chains
  pub enough : length chains ≤ length blocks
  pub spare : (i : ℕ) → length chains ≤ i → slice_index_or blocks i [] ≡ []
  pub kept : (i : ℕ) → i < length chains → IsOpen (words_of pool (slice_index chains i)) (slice_index_or blocks i [])
