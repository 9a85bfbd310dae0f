-- The limits and defaults of FQL's parameters, and of an expression.
use Rattle.std.specs.Prelude.{ℕ}

-- the distance of near, onear and a string where none is given
abbrev pub fql_distance : ℕ
fql_distance = 4

-- the numbers of count
abbrev pub greatest_count : ℕ
greatest_count = 1_000_000

-- the literals of an expression have fewer bytes
abbrev pub fql_byte_bound : ℕ
fql_byte_bound = 100_000_000
