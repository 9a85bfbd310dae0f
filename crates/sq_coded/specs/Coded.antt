-- The words in which a list of postings is kept, and the postings of words.
use Rattle.std.specs.Prelude.{◌≡◌, ◌<◌, ◌≤◌, ◌^◌, ⊤, ℕ, zero, suc, ◌+◌, ◌-◌, ◌*◌, ◌/◌, ◌%◌, Bool, true, nat_lt, ◌==◌, ◌&&◌, ◌||◌, if◌then◌else◌, List, [], ◌∷◌, ◌++◌, length, take, drop}
use Rattle.sq_base.specs.Limits.{most_items, most_values, most_corpus_bytes}
use Rattle.sq_coded.specs.declared.posting.Posting.{Posting}

-- ---- lists of postings

abbrev pub comes_before : Posting → Posting → Bool
comes_before a b = nat_lt a.row b.row || (a.row == b.row && (nat_lt a.ordinal b.ordinal || (a.ordinal == b.ordinal && nat_lt a.place b.place)))

abbrev pub is_small : Posting → Bool
is_small e = nat_lt e.row most_items && (nat_lt e.ordinal most_values && nat_lt e.place most_corpus_bytes)

abbrev pub rises_behind : Posting → List Posting → Bool
rises_behind before [] = true
rises_behind before (e ∷ entries) = (comes_before before e && is_small e) && rises_behind e entries

-- the entries rise strictly, and are within the limits
abbrev pub is_list : List Posting → Bool
is_list [] = true
is_list (e ∷ entries) = is_small e && rises_behind e entries

-- the entry may stand next in the list, by the order
abbrev pub may_follow : List Posting → Posting → Bool
may_follow [] next = true
may_follow (e ∷ []) next = comes_before e next
may_follow (e ∷ f ∷ entries) next = may_follow (f ∷ entries) next

-- the entry is not before the other one, and is within the limits
pub record Follows (before e : Posting) : Type 0 where
  pub row : before.row ≤ e.row
  pub ordinal : e.row ≡ before.row → before.ordinal ≤ e.ordinal
  pub place : e.row ≡ before.row → e.ordinal ≡ before.ordinal → before.place ≤ e.place
  pub small_row : e.row < most_items
  pub small_ordinal : e.ordinal < most_values
  pub small_place : e.place < most_corpus_bytes

abbrev pub AllFollow : Posting → List Posting → Type 0
AllFollow before [] = ⊤
AllFollow before (e ∷ entries) = Follows before e × AllFollow e entries

-- the numbers of a triple have 32 bits
pub record AreWords (d : Posting) : Type 0 where
  pub row : d.row < 2 ^ 32
  pub ordinal : d.ordinal < 2 ^ 32
  pub place : d.place < 2 ^ 32

-- ---- to words

-- a number in base 128, lowest digit first, with 128 added to each byte but its last
abbrev pub digits : ℕ → ℕ → List ℕ
digits zero n = n ∷ []
digits (suc more) n = if nat_lt n 128 then n ∷ [] else (128 + n % 128) ∷ digits more (n / 128)

-- a number has at most 32 bits, so at most five bytes
unfoldable pub number_bytes : ℕ → List ℕ
number_bytes n = digits 4 n

abbrev pub numbers_bytes : Posting → List ℕ
numbers_bytes d = number_bytes d.row ++ (number_bytes d.ordinal ++ number_bytes d.place)

-- The numbers of an entry behind another one of its block: differences as far as the entries agree.
abbrev pub difference : Posting → Posting → Posting
difference before e =
    if e.row == before.row
    then (if e.ordinal == before.ordinal
    then record { row = 0; ordinal = 0; place = e.place - before.place }
    else record { row = 0; ordinal = e.ordinal - before.ordinal; place = e.place })
    else record { row = e.row - before.row; ordinal = e.ordinal; place = e.place }

abbrev pub bytes_behind : Posting → List Posting → List ℕ
bytes_behind before [] = []
bytes_behind before (e ∷ entries) = numbers_bytes (difference before e) ++ bytes_behind e entries

-- what stands before a block's first entry, whose numbers are therefore its own
abbrev pub origin : Posting
origin = record { row = 0; ordinal = 0; place = 0 }

-- four bytes to a word, the first lowest, filled up with zeros
abbrev pub packed : List ℕ → List ℕ
packed [] = []
packed (a ∷ []) = a ∷ []
packed (a ∷ b ∷ []) = (a + 256 * b) ∷ []
packed (a ∷ b ∷ c ∷ []) = (a + 256 * (b + 256 * c)) ∷ []
packed (a ∷ b ∷ c ∷ d ∷ bytes) = (a + 256 * (b + 256 * (c + 256 * d))) ∷ packed bytes

abbrev pub last_row : List Posting → ℕ
last_row [] = 0
last_row (e ∷ []) = e.row
last_row (e ∷ next ∷ entries) = last_row (next ∷ entries)

abbrev pub block_code : List Posting → List ℕ
block_code entries = packed (bytes_behind origin entries)

-- the row of the last entry, the number of entries and of words, then the words
abbrev pub block_words : List Posting → List ℕ
block_words entries = last_row entries ∷ (65_536 * length entries + length (block_code entries)) ∷ block_code entries

-- the entries of a block
abbrev pub block_entries : ℕ
block_entries = 128

abbrev pub coded_blocks : ℕ → List Posting → List ℕ
coded_blocks more [] = []
coded_blocks zero (e ∷ entries) = []
coded_blocks (suc more) (e ∷ entries) = block_words (take block_entries (e ∷ entries)) ++ coded_blocks more (drop block_entries (e ∷ entries))

-- blocks of so many entries, the last maybe shorter
unfoldable pub coded : List Posting → List ℕ
coded entries = coded_blocks (length entries) entries

-- ---- from words

-- the lowest bytes of a word
abbrev pub word_bytes : ℕ → ℕ → List ℕ
word_bytes zero word = []
word_bytes (suc n) word = word % 256 ∷ word_bytes n (word / 256)

abbrev pub unpacked : List ℕ → List ℕ
unpacked [] = []
unpacked (word ∷ words) = word_bytes 4 word ++ unpacked words

-- the first number and the bytes behind it
abbrev pub number_of : List ℕ → ℕ × List ℕ
number_of [] = (0, [])
number_of (b ∷ bytes) = if nat_lt b 128 then (b, bytes) else (b - 128 + 128 * (number_of bytes).0, (number_of bytes).1)

-- the first three numbers and the bytes behind them
abbrev pub numbers_of : List ℕ → Posting × List ℕ
numbers_of bytes = (
  record { row = (number_of bytes).0; ordinal = (number_of (number_of bytes).1).0; place = (number_of (number_of (number_of bytes).1).1).0 },
  (number_of (number_of (number_of bytes).1).1).1,
)

abbrev pub later_of : Posting → Posting → Posting
later_of before d =
    if d.row == 0
    then (if d.ordinal == 0
    then record { row = before.row; ordinal = before.ordinal; place = before.place + d.place }
    else record { row = before.row; ordinal = before.ordinal + d.ordinal; place = d.place })
    else record { row = before.row + d.row; ordinal = d.ordinal; place = d.place }

-- the next entries of a block, and no more
abbrev pub entries_behind : ℕ → Posting → List ℕ → List Posting
entries_behind zero before bytes = []
entries_behind (suc count) before bytes =
    later_of before (numbers_of bytes).0 ∷ entries_behind count (later_of before (numbers_of bytes).0) (numbers_of bytes).1

abbrev pub decoded_blocks : ℕ → List ℕ → List Posting
decoded_blocks zero words = []
decoded_blocks (suc more) [] = []
decoded_blocks (suc more) (row ∷ []) = []
decoded_blocks (suc more) (row ∷ size ∷ words) =
    entries_behind (size / 65_536) origin (unpacked (take (size % 65_536) words)) ++ decoded_blocks more (drop (size % 65_536) words)

unfoldable pub decoded : List ℕ → List Posting
decoded words = decoded_blocks (length words) words
