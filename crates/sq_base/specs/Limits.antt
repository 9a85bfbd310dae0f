-- The limits that several crates keep of which none stands on another.
use Rattle.std.specs.Prelude.{ℕ}

-- the bytes of a corpus text: 64 MiB. A url or a value of text is below that
abbrev pub most_corpus_bytes : ℕ
most_corpus_bytes = 67_108_864

-- the items of a corpus
abbrev pub most_items : ℕ
most_items = 1_000_000

-- the values that an item has of one property
abbrev pub most_values : ℕ
most_values = 1_000

-- the bytes of a packet, and so of a request's body
abbrev pub most_packet_bytes : ℕ
most_packet_bytes = 131_072

-- the digits of a whole number in a packet, and of a body's length in a head
abbrev pub most_digits : ℕ
most_digits = 10

-- how many tokens more may lie between the ends of a near than it matches
abbrev pub greatest_distance : ℕ
greatest_distance = 1_000

-- what xrank may add or take away
abbrev pub greatest_boost : ℕ
greatest_boost = 1_000_000

-- an FQL expression has fewer xranks
abbrev pub xrank_bound : ℕ
xrank_bound = 1_000_000

-- the texts of a KQL expression have fewer bytes, and itself fewer nodes
abbrev pub kql_byte_bound : ℕ
kql_byte_bound = 1_000_000

abbrev pub kql_node_bound : ℕ
kql_node_bound = 1_000_000
