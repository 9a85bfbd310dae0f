-- What a reader of a list keeps.
use Rattle.std.specs.Prelude.{◌≡◌, ℕ, ◌+◌, ◌<◌, ◌≤◌, ◌^◌, true, List, [], ◌∷◌, ◌++◌, take, drop, length, Option, Some, None, slice_get, slice_index_or}
use Rattle.std.specs.Prelude.{⊤, Bool, nat_lt, nat_le, ◌==◌, ◌||◌, ◌&&◌, filter}
use Rattle.sq_coded.specs.Coded.{is_list, coded, word_bytes, unpacked, bytes_behind, last_row}
use Rattle.sq_coded.specs.declared.posting.Posting.{Posting}

-- the bytes of a word that are not read yet, and those of the words behind it
abbrev pub bytes_at : List (List Posting) → ℕ → ℕ → ℕ → ℕ → List ℕ
bytes_at lists list next word left = word_bytes left word ++ unpacked (drop next (coded (slice_index_or lists list [])))

-- there is such a list, and the places of its words have 32 bits
pub record IsWithin (lists : List (List Posting)) (list : ℕ) : Type 0 where
  pub known : list < length lists
  pub short : length (coded (slice_index_or lists list [])) < 2 ^ 32

-- the bytes begin with those
abbrev pub BeginWith : List ℕ → List ℕ → Type 0
BeginWith first bytes = bytes ≡ first ++ drop (length first) bytes

-- Behind the entry at hand the block has more entries, from the n-th of the list on, and the last row of
-- the block if there are any. The next block begins at `end`.
pub record IsInBlock (entries : List Posting) (n : ℕ) (before : Posting) (more : ℕ) (bytes : List ℕ) (last end : ℕ) : Type 0 where
  pub within : n + more ≤ length entries
  pub bytes_are : BeginWith (bytes_behind before (take more (drop n entries))) bytes
  pub last_is : 0 < more → last_row (take more (drop n entries)) ≡ last
  pub behind : drop end (coded entries) ≡ coded (drop (n + more) entries)

abbrev pub IsAtEntry : List Posting → ℕ → Option Posting → ℕ → List ℕ → ℕ → ℕ → Type 0
IsAtEntry entries at None more bytes last end = length entries ≤ at
IsAtEntry entries at (Some e) more bytes last end = (slice_get entries at ≡ Some e) × IsInBlock entries (at + 1) e more bytes last end

pub record IsReading (lists : List (List Posting)) (list at : ℕ) (here : Option Posting) (more : ℕ) (bytes : List ℕ) (last end : ℕ) : Type 0 where
  pub list_is : IsWithin lists list
  pub few : length (slice_index_or lists list []) < 2 ^ 40
  pub rises : is_list (slice_index_or lists list []) ≡ true
  pub entry : IsAtEntry (slice_index_or lists list []) at here more bytes last end

-- ---- what is left of a list

abbrev pub HasEntry : List Posting → Type 0
HasEntry [] = ⊥
HasEntry (e ∷ entries) = ⊤

abbrev pub without_first : List Posting → List Posting
without_first [] = []
without_first (e ∷ entries) = entries

-- the steps of coming to the first entry: one, and none where there is no entry
abbrev pub first_count : List Posting → ℕ
first_count [] = 0
first_count (e ∷ entries) = 1

-- how many entries stand behind the first
abbrev pub count_behind : List Posting → ℕ
count_behind [] = 0
count_behind (e ∷ entries) = length entries

-- the entry is in this passage or a later one
abbrev pub is_from : ℕ → ℕ → Posting → Bool
is_from row ordinal e = nat_lt row e.row || (e.row == row && nat_le ordinal e.ordinal)

abbrev pub entries_from : ℕ → ℕ → List Posting → List Posting
entries_from row ordinal entries = filter (is_from row ordinal) entries
