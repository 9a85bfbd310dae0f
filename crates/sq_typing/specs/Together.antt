-- Outcomes of several parts together. All parts are judged, and of their faults one goes first.
use Rattle.std.specs.Prelude.{Bool, ◌&&◌, ◌||◌, ◌==◌, nat_lt, nat_le, if◌then◌else◌, List, [], ◌∷◌, Ok, Err}
use Rattle.sq_base.specs.declared.faults.QueryFault.{QueryFault}
use Rattle.sq_base.specs.Outcome.{Outcome}
use Rattle.sq_typing.specs.declared.codes.TheConstants.{TOO_MANY_FORMS}

-- this one stands at the lesser place, or at the same place and has no higher code
abbrev pub stands_first : QueryFault → QueryFault → Bool
stands_first e g = nat_lt e.at g.at || (e.at == g.at && nat_le e.code g.code)

-- Too many forms are looked for only where there is no other fault.
abbrev pub is_last : QueryFault → Bool
is_last e = e.code == TOO_MANY_FORMS

abbrev pub goes_first : QueryFault → QueryFault → Bool
goes_first e g = if is_last e then is_last g && stands_first e g else is_last g || stands_first e g

unfoldable pub first_fault : QueryFault → QueryFault → QueryFault
first_fault e g = if goes_first e g then e else g

abbrev pub mapped : {A B : Type 0} → (A → B) → Outcome A → Outcome B
mapped f (Ok x) = Ok (f x)
mapped f (Err e) = Err e

abbrev pub together : {A B C : Type 0} → (A → B → C) → Outcome A → Outcome B → Outcome C
together f (Ok x) (Ok y) = Ok (f x y)
together f (Ok x) (Err g) = Err g
together f (Err e) (Ok y) = Err e
together f (Err e) (Err g) = Err (first_fault e g)

-- a list of outcomes together
abbrev pub all_of : {A : Type 0} → List (Outcome A) → Outcome (List A)
all_of [] = Ok []
all_of (x ∷ xs) = together (λ y ys. y ∷ ys) x (all_of xs)
