-- The limits of a corpus, and of an expression, that no crate below keeps.
use Rattle.std.specs.Prelude.{ℕ, ℤ, pos, neg_ℤ}

-- the bytes of a caller's name or of a claim
abbrev pub most_name_bytes : ℕ
most_name_bytes = 128

-- the claims of an access list
abbrev pub most_claims : ℕ
most_claims = 64

abbrev pub most_callers : ℕ
most_callers = 10_000

-- the bytes of the texts of all items together
abbrev pub most_item_bytes : ℕ
most_item_bytes = 1_000_000_000

abbrev pub greatest_item_number : ℕ
greatest_item_number = 4_294_967_294

-- static ranks
abbrev pub least_rank : ℤ
least_rank = neg_ℤ (pos 1_000_000_000)

abbrev pub greatest_rank : ℤ
greatest_rank = pos 1_000_000_000

-- the copies that a proximity expression may take
abbrev pub most_copies : ℕ
most_copies = 256

-- an FQL expression has fewer tokens
abbrev pub token_bound : ℕ
token_bound = 100_000_000
