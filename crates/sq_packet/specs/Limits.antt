-- The limits of a request.
use Rattle.std.specs.Prelude.{ℕ}

-- the hits of a page
abbrev pub most_hits : ℕ
most_hits = 500

-- where a page begins and how many hits it has come to at most this: a page lies within the first 10,000 hits
abbrev pub greatest_page_end : ℕ
greatest_page_end = 10_001

-- the properties that are shown
abbrev pub most_properties : ℕ
most_properties = 64

abbrev pub most_refiners : ℕ
most_refiners = 16

-- the bounds of a refiner
abbrev pub most_bounds : ℕ
most_bounds = 64

abbrev pub most_sorts : ℕ
most_sorts = 4
