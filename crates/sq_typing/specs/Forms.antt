-- Proximity expressions of KQL in which no list is empty, and what is known of the forms that they take by the weights of their parts.
use Rattle.std.specs.Prelude.{◌≡◌, ℕ, ◌+◌, ◌<◌, ◌≤◌, nat_eq, nat_le, Bool, true, false, not, ◌&&◌, List, [], ◌∷◌, ◌++◌, map, filter}
use Rattle.std.specs.List.{flat_map}
use Rattle.sq_base.specs.Limits.{greatest_distance}
use Rattle.sq_model.specs.Lists.{is_empty}
use Rattle.sq_model.specs.KqlSound.{LeafSound, LeavesSound}
use Rattle.sq_model.specs.declared.kql.KTree.{KTree, Free, Words, Group', Near', Or', Row_of-KTree, end_of-KTree, more_of-KTree}
use Rattle.sq_model.specs.Limits.{most_copies}
use Rattle.sq_typing.specs.declared.forms.Forms.{Forms}
use Rattle.sq_typing.specs.declared.forms.Forms.TheVariants.{Many, Few}

abbrev mutual
  -- a proximity expression in which no list is empty
  pub is_filled : KTree → Bool
  is_filled (Free leaf) = true
  is_filled (Words leaves) = not (is_empty leaves)
  is_filled (Group' s inside) = are_filled inside
  is_filled (Or' shape parts) = are_filled parts
  is_filled (Near' s left t right n ordered) = are_filled left && are_filled right
  is_filled _ = false

  -- there is a part, and all are filled
  pub are_filled : {m : _} → Row_of-KTree m → Bool
  are_filled end_of-KTree = false
  are_filled (more_of-KTree part rest) = is_filled part && each_filled rest

  pub each_filled : {m : _} → Row_of-KTree m → Bool
  each_filled end_of-KTree = true
  each_filled (more_of-KTree part rest) = is_filled part && each_filled rest

abbrev mutual
  -- a proximity expression that is sound, but for the number of its copies
  pub ProximitySound : KTree → Type 0
  ProximitySound (Free leaf) = LeafSound leaf
  ProximitySound (Words leaves) = (is_empty leaves ≡ false) × LeavesSound leaves
  ProximitySound (Group' s inside) = SomeProximitySound inside
  ProximitySound (Or' shape parts) = SomeProximitySound parts
  ProximitySound (Near' s left t right n ordered) = SomeProximitySound left × SomeProximitySound right × (nat_le n greatest_distance ≡ true)
  ProximitySound _ = ⊥

  -- there is a part, and all are sound
  pub SomeProximitySound : {m : _} → Row_of-KTree m → Type 0
  SomeProximitySound end_of-KTree = ⊥
  SomeProximitySound (more_of-KTree part rest) = ProximitySound part × EachProximitySound rest

  pub EachProximitySound : {m : _} → Row_of-KTree m → Type 0
  EachProximitySound end_of-KTree = Unit {0}
  EachProximitySound (more_of-KTree part rest) = ProximitySound part × EachProximitySound rest

-- each sum that takes one number of each of two lists
abbrev pub sums_of : List ℕ → List ℕ → List ℕ
sums_of ns ms = flat_map (λ n. map (λ m. n + m) ms) ns

-- the number behind the others, and at no other place
abbrev pub with_last : List ℕ → ℕ → List ℕ
with_last ns n = filter (λ m. not (nat_eq m n)) ns ++ n ∷ []

abbrev pub with_all : List ℕ → List ℕ → List ℕ
with_all ns [] = ns
with_all ns (m ∷ ms) = with_all (with_last ns m) ms

-- what is known of an expression with these weights and so many copies
abbrev pub IsCount : List ℕ → ℕ → Forms → Type 0
IsCount weights copies Many = most_copies < copies
IsCount weights copies (Few found number) = (found.items ≡ weights) × (number ≡ copies) × (number ≤ most_copies)

abbrev pub HasForms : Forms → Type 0
HasForms Many = Unit {0}
HasForms (Few found number) = 0 < number
