-- Laws of near and union: by the weights of matches, and by least matches.
use Rattle.std.specs.Prelude.{◌≡◌, ◌↔◌, ◌+◌, ◌≤◌, ℕ, Bool, nat_eq, List, [], ◌∷◌, map, filter, sum}
use Rattle.sq_model.specs.Lists.{joined}
use Rattle.sq_model.specs.Triples.{near}
use Rattle.sq_model.specs.declared.triple.Triple.{Triple}
use Rattle.sq_model.proofs.Members.{IsIn}

-- ---- by weights

abbrev pub of_weight : ℕ → List Triple → List Triple
of_weight v matches = filter (λ t. nat_eq t.weight v) matches

-- of each list the matches with the weight that stands at its place
abbrev pub of_weights : List ℕ → List (List Triple) → List (List Triple)
of_weights [] parts = []
of_weights (v ∷ vs) [] = []
of_weights (v ∷ vs) (part ∷ parts) = of_weight v part ∷ of_weights vs parts

abbrev pub IsAsLong : List ℕ → List (List Triple) → Type 0
IsAsLong [] [] = Unit {0}
IsAsLong [] (part ∷ parts) = ⊥
IsAsLong (v ∷ vs) [] = ⊥
IsAsLong (v ∷ vs) (part ∷ parts) = IsAsLong vs parts

-- A near has a match of weight v exactly where there are weights of the parts, of sum v, such that the near over the matches with these weights has it.
abbrev pub NearSplitsByWeight : Type 0
NearSplitsByWeight = (n : ℕ) (ordered : Bool) (parts : List (List Triple)) (t : Triple) →
    IsIn t (near n ordered parts) ↔ ((vs : List ℕ) × IsAsLong vs parts × (sum vs ≡ t.weight) × IsIn t (near n ordered (of_weights vs parts)))

-- ---- the width in place of the weights

abbrev pub weightless : Triple → Triple
weightless t = record { first = t.first; last = t.last; weight = 0 }

-- the matches of each list have the weight that stands at its place
abbrev pub HaveWeight : List ℕ → List (List Triple) → Type 0
HaveWeight [] [] = Unit {0}
HaveWeight [] (part ∷ parts) = ⊥
HaveWeight (v ∷ vs) [] = ⊥
HaveWeight (v ∷ vs) (part ∷ parts) = ((t : Triple) → IsIn t part → t.weight ≡ v) × HaveWeight vs parts

-- one of the matches goes from first to last
abbrev pub HasInterval : List Triple → ℕ → ℕ → Type 0
HasInterval matches first last = (t : Triple) × IsIn t matches × (t.first ≡ first) × (t.last ≡ last)

-- Where the matches of each part have one weight, a near allows a distance beyond the tokens matched exactly where one without weights allows the distance and the sum of the weights as its width.
abbrev pub WidthCountsWeights : Type 0
WidthCountsWeights = (n : ℕ) (ordered : Bool) (vs : List ℕ) (parts : List (List Triple)) → HaveWeight vs parts → (first last : ℕ) →
    HasInterval (near n ordered parts) first last ↔ HasInterval (near (n + sum vs) ordered (map (map weightless) parts)) first last

-- ---- least matches

-- t lies inside u
abbrev pub Inside : Triple → Triple → Type 0
Inside t u = (u.first ≤ t.first) × (t.last ≤ u.last)

-- t is one of the matches, and lies inside each that lies inside it
pub record IsLeast (matches : List Triple) (t : Triple) : Type 0 where
  pub here : IsIn t matches
  pub least : (u : Triple) → IsIn u matches → Inside u t → Inside t u

-- Each match has a least one inside.
abbrev pub LeastInside : Type 0
LeastInside = (matches : List Triple) (t : Triple) → IsIn t matches → (u : Triple) × IsLeast matches u × Inside u t

-- of each list, the other has the least matches
abbrev pub AreLeast : List (List Triple) → List (List Triple) → Type 0
AreLeast [] [] = Unit {0}
AreLeast [] (part ∷ parts) = ⊥
AreLeast (few ∷ fews) [] = ⊥
AreLeast (few ∷ fews) (part ∷ parts) = ((t : Triple) → IsIn t few ↔ IsLeast part t) × AreLeast fews parts

abbrev pub HasOneWeight : List Triple → Type 0
HasOneWeight matches = (s t : Triple) → IsIn s matches → IsIn t matches → s.weight ≡ t.weight

abbrev pub OneWeightEach : List (List Triple) → Type 0
OneWeightEach [] = Unit {0}
OneWeightEach (part ∷ parts) = HasOneWeight part × OneWeightEach parts

-- Where the matches of each part have one weight, a near of the parts and a near of their least matches have the same least matches.
abbrev pub NearOfLeast : Type 0
NearOfLeast = (n : ℕ) (ordered : Bool) (parts fews : List (List Triple)) → OneWeightEach parts → AreLeast fews parts →
    (t : Triple) → IsLeast (near n ordered parts) t ↔ IsLeast (near n ordered fews) t

-- A union of the parts and a union of their least matches have the same least matches.
abbrev pub LeastOfUnion : Type 0
LeastOfUnion = (parts fews : List (List Triple)) → AreLeast fews parts → (t : Triple) → IsLeast (joined parts) t ↔ IsLeast (joined fews) t
