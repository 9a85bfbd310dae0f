-- Lists of postings by text: a map from texts to numbers of lists.
use Rattle.std.specs.Prelude.{◌≡◌, ◌≢◌, ℕ, ◌<◌, ◌≤◌, true, List, [], length, slice_index_or, Option, Some, None}
use Rattle.sq_coded.specs.declared.posting.Posting.{Posting}
use Rattle.sq_coded.specs.Coded.{may_follow}

abbrev pub list_under : List (List Posting) → Option ℕ → List Posting
list_under lists None = []
list_under lists (Some id) = slice_index_or lists id []

-- the postings under a text, and none where it has no list
abbrev pub found : (List ℕ → Option ℕ) → List (List Posting) → List ℕ → List Posting
found find lists text = list_under lists (find text)

-- each number is that of a list, and of one text
pub record IsGathered (find : List ℕ → Option ℕ) (count : ℕ) : Type 0 where
  pub below : (text : List ℕ) (id : ℕ) → find text ≡ Some id → id < count
  pub one : (text other : List ℕ) (id : ℕ) → find text ≡ Some id → find other ≡ Some id → text ≡ other

-- the posting may stand next in each list
abbrev pub MayFollowAll : (List ℕ → Option ℕ) → List (List Posting) → Posting → Type 0
MayFollowAll find lists next = (text : List ℕ) → may_follow (found find lists text) next ≡ true

-- lists that aren't of this map stay, and aren't of it afterwards
pub record OthersStay (find : List ℕ → Option ℕ) (lists : List (List Posting)) (finds : List ℕ → Option ℕ) (longer : List (List Posting)) : Type 0 where
  pub grows : length lists ≤ length longer
  pub stays : (i : ℕ) → i < length lists → ((text : List ℕ) → find text ≢ Some i)
      → ((text : List ℕ) → finds text ≢ Some i) × (slice_index_or longer i [] ≡ slice_index_or lists i [])
