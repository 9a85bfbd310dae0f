-- The limits of a connection.
use Rattle.std.specs.Prelude.{ℕ}

-- the bytes of a head, with the empty line that ends it
abbrev pub most_head_bytes : ℕ
most_head_bytes = 8_192

-- the requests that are answered on one connection
abbrev pub most_requests : ℕ
most_requests = 1_000
