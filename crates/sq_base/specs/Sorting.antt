-- Lists put in the order of a test.
use Rattle.std.specs.Prelude.{Bool, if◌then◌else◌, List, [], ◌∷◌}

-- the element stands behind those that come before it
abbrev pub put : {X : Type 0} → (X → X → Bool) → X → List X → List X
put comes_before x [] = x ∷ []
put comes_before x (y ∷ ys) = if comes_before y x then y ∷ put comes_before x ys else x ∷ y ∷ ys

-- the elements in the order of the test
abbrev pub in_order : {X : Type 0} → (X → X → Bool) → List X → List X
in_order comes_before [] = []
in_order comes_before (x ∷ xs) = put comes_before x (in_order comes_before xs)
