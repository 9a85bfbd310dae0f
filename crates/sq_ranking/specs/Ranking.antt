-- The order that a request asks for, its page, and the counts of a refiner, of hits that are known by what they are ordered by.
use Rattle.std.specs.Prelude.{ℕ, ◌-◌, Bool, true, false, not, ◌&&◌, ◌||◌, nat_lt, if◌then◌else◌, List, [], ◌∷◌, map, filter, flat_map, length, take, drop, Option, Some, None, ℤ, int_lt, int_le}
use Rattle.std.specs.List.{list_any}
use Rattle.std.specs.Ordering.{int_eq}
use Rattle.sq_base.specs.Sorting.{in_order}
use Rattle.sq_packet.specs.declared.request.Direction.{Direction}
use Rattle.sq_packet.specs.declared.request.Direction.TheVariants.{Ascending, Descending}
use Rattle.sq_response.specs.declared.response.Entry.{Entry}
use Rattle.sq_response.specs.declared.response.Entry.TheVariants.{Single, Bucket}

-- a hit by its number, its score, and a key for each sort
pub record Ranked : Type 0 where
  pub number : ℕ
  pub score : ℤ
  pub keys : List (Option ℤ)

-- of two keys the first goes before the second; a hit without a key goes last
abbrev pub goes_before : Direction → Option ℤ → Option ℤ → Bool
goes_before direction None b = false
goes_before direction (Some a) None = true
goes_before Ascending (Some a) (Some b) = int_lt a b
goes_before Descending (Some a) (Some b) = int_lt b a

-- the higher score first, and of equal scores the lower number
abbrev pub by_score : Ranked → Ranked → Bool
by_score a b = int_lt b.score a.score || (not (int_lt a.score b.score) && nat_lt a.number b.number)

-- the first sort by which the keys differ decides
abbrev pub by_keys : List Direction → List (Option ℤ) → List (Option ℤ) → Bool → Bool
by_keys (direction ∷ directions) (a ∷ keys_a) (b ∷ keys_b) otherwise =
    if goes_before direction a b then true else (if goes_before direction b a then false else by_keys directions keys_a keys_b otherwise)
by_keys directions keys_a keys_b otherwise = otherwise

abbrev pub comes_before : List Direction → Ranked → Ranked → Bool
comes_before directions a b = by_keys directions a.keys b.keys (by_score a b)

-- the hits in the order that is asked for, by what each is ordered by
abbrev pub ordered_by : {X : Type 0} → (X → Ranked) → List Direction → List X → List X
ordered_by ranked directions hits = in_order (λ a b. comes_before directions (ranked a) (ranked b)) hits

-- the hits at the places from start on, counted from 1, and at most count of them
abbrev pub page_by : {X : Type 0} → (X → Ranked) → List Direction → ℕ → ℕ → List X → List X
page_by ranked directions start count hits = take count (drop (start - 1) (ordered_by ranked directions hits))

-- ---- refiners, by the numbers of each hit

abbrev pub has : ℤ → List ℤ → Bool
has value numbers = list_any (int_eq value) numbers

abbrev pub distinct : List ℤ → List ℤ
distinct [] = []
distinct (n ∷ ns) = if has n ns then distinct ns else n ∷ distinct ns

-- each number once, the least first
abbrev pub values : List ℤ → List ℤ
values numbers = in_order int_lt (distinct numbers)

-- how many hits have the value
abbrev pub single : List (List ℤ) → ℤ → Entry
single hits value = Single value (length (filter (has value) hits))

abbrev pub not_below : Option ℤ → ℤ → Bool
not_below None n = true
not_below (Some from) n = int_le from n

abbrev pub below : Option ℤ → ℤ → Bool
below None n = true
below (Some to) n = int_lt n to

abbrev pub in_bucket : Option ℤ → Option ℤ → ℤ → Bool
in_bucket from to n = not_below from n && below to n

-- how many hits have a number of the bucket
abbrev pub bucket : List (List ℤ) → Option ℤ → Option ℤ → Entry
bucket hits from to = Bucket from to (length (filter (list_any (in_bucket from to)) hits))

-- below the first bound, from each bound to below the next, and from the last on
abbrev pub buckets : List (List ℤ) → Option ℤ → List ℤ → List Entry
buckets hits from [] = bucket hits from None ∷ []
buckets hits from (bound ∷ bounds) = bucket hits from (Some bound) ∷ buckets hits (Some bound) bounds

-- without bounds an entry for each value that some hit has, the least first; else one for each bucket
abbrev pub entries : List ℤ → List (List ℤ) → List Entry
entries [] hits = map (single hits) (values (flat_map (λ numbers. numbers) hits))
entries (bound ∷ bounds) hits = buckets hits None (bound ∷ bounds)
