-- The fault that goes first is the same however the parts are grouped.
use Rattle.std.proofs.Common.{◌≡◌, ℕ, suc, ◌+◌, ◌<◌, Bool, true, false, cond, List, [], ◌∷◌, ◌++◌, map, length, get_or, drop, drop-cons, add-one, refl, ap, sym, ◌∙◌, append_assoc, arith}
use Rattle.std.specs.Prelude.{Ok, Err, IfOk}
use Rattle.std.proofs.lemmas.Bool.Decides.{nat_tests}
use Rattle.std.proofs.lemmas.List.{append-nil}
use Rattle.sq_base.specs.declared.faults.QueryFault.{QueryFault}
use Rattle.sq_base.specs.Outcome.{Outcome, ◌>>=◌}
use Rattle.sq_typing.specs.Together.{goes_first, first_fault, mapped, together, all_of}

-- one of two, by a test
abbrev choose : {X : Type 0} → (X → X → Bool) → X → X → X
choose test x y = cond (test x y) x y

choose_assoc : {X : Type 0} (test : X → X → Bool) (x y z : X) (a b : Bool) → test x y ≡ a → test y z ≡ b →
    (a ≡ true → b ≡ true → test x z ≡ true) → (a ≡ false → b ≡ false → test x z ≡ false) → choose test (choose test x y) z ≡ choose test x (choose test y z)
choose_assoc test x y z true true h k both neither = rw (h, k, both refl refl, h) refl
choose_assoc test x y z true false h k both neither = rw (h, k) refl
choose_assoc test x y z false true h k both neither = rw (h, k, h) refl
choose_assoc test x y z false false h k both neither = rw (h, k, neither refl refl) refl

rises : (e f g : QueryFault) → goes_first e f ≡ true → goes_first f g ≡ true → goes_first e g ≡ true
rises e f g h k = grind (arith, nat_tests)

falls : (e f g : QueryFault) → goes_first e f ≡ false → goes_first f g ≡ false → goes_first e g ≡ false
falls e f g h k = grind (arith, nat_tests)

pub first_assoc : (e f g : QueryFault) → first_fault (first_fault e f) g ≡ first_fault e (first_fault f g)
unfolding first_fault
first_assoc e f g = choose_assoc goes_first e f g (goes_first e f) (goes_first f g) refl refl (λ h k. rises e f g h k) (λ h k. falls e f g h k)

-- one more behind what is done, and then the rest
pub pushed_on : {X : Type 0} (done : Outcome (List X)) (next : Outcome X) (rest : Outcome (List X)) →
    together (λ xs ys. xs ++ ys) (together (λ xs x. xs ++ x ∷ []) done next) rest ≡ together (λ xs ys. xs ++ ys) done (together (λ x xs. x ∷ xs) next rest)
pushed_on (Ok xs) (Ok x) (Ok ys) = ap Ok (append_assoc xs (x ∷ []) ys)
pushed_on (Ok xs) (Ok x) (Err g) = refl
pushed_on (Ok xs) (Err f) (Ok ys) = refl
pushed_on (Ok xs) (Err f) (Err g) = refl
pushed_on (Err e) (Ok x) (Ok ys) = refl
pushed_on (Err e) (Ok x) (Err g) = refl
pushed_on (Err e) (Err f) (Ok ys) = refl
pushed_on (Err e) (Err f) (Err g) = ap Err (first_assoc e f g)

pub nothing_done : {X : Type 0} (rest : Outcome (List X)) → together (λ xs ys. xs ++ ys) (Ok []) rest ≡ rest
nothing_done (Ok xs) = refl
nothing_done (Err e) = refl

pub all_done : {X : Type 0} (done : Outcome (List X)) → together (λ xs ys. xs ++ ys) done (Ok []) ≡ done
all_done (Ok xs) = ap Ok (append-nil xs)
all_done (Err e) = refl

-- two together by way of their pair
pub by_pair : {A B C : Type 0} (f : A → B → C) (x : Outcome A) (y : Outcome B) → together f x y ≡ mapped (λ (p : A × B). f p.0 p.1) (together (λ a b. (a, b)) x y)
by_pair f (Ok x) (Ok y) = refl
by_pair f (Ok x) (Err g) = refl
by_pair f (Err e) (Ok y) = refl
by_pair f (Err e) (Err g) = refl

-- the part at a place is done
pub step : {X Y : Type 0} (f : X → Outcome Y) (xs : List X) (i : ℕ) (x : X) (done : Outcome (List Y)) (next : Outcome Y) (more w : Outcome (List Y)) → i < length xs → x ≡ get_or xs i x → next ≡ f x →
    more ≡ together (λ ys y. ys ++ y ∷ []) done next → together (λ ys zs. ys ++ zs) done (all_of (map f (drop i xs))) ≡ w →
    together (λ ys zs. ys ++ zs) more (all_of (map f (drop (i + 1) xs))) ≡ w
step f xs i x done next more w within is typed pushed before =
    let rest = all_of (map f (drop (suc i) xs)) in
    let split = drop-cons xs i x within ∙ ap (λ y. y ∷ drop (suc i) xs) (sym is) in
    rw (add-one, pushed, typed) (pushed_on done (f x) rest ∙ (ap (λ ys. together (λ ys zs. ys ++ zs) done (all_of (map f ys))) (sym split) ∙ before))

pub ruleset together_rules = (nothing_done, all_done)

-- ---- what holds of outcomes

pub if_mapped : {A B : Type 0} (f : A → B) (x : Outcome A) (P : A → Type 0) (Q : B → Type 0) → IfOk x P → ((a : A) → P a → Q (f a)) → IfOk (mapped f x) Q
if_mapped f (Ok a) P Q h k = k a h
if_mapped f (Err e) P Q h k = tt

pub if_together : {A B C : Type 0} (f : A → B → C) (x : Outcome A) (y : Outcome B) (P : A → Type 0) (Q : B → Type 0) (R : C → Type 0) → IfOk x P → IfOk y Q →
    ((a : A) (b : B) → P a → Q b → R (f a b)) → IfOk (together f x y) R
if_together f (Ok x) (Ok y) P Q R h k m = m x y h k
if_together f (Ok x) (Err g) P Q R h k m = tt
if_together f (Err e) (Ok y) P Q R h k m = tt
if_together f (Err e) (Err g) P Q R h k m = tt

pub if_weaker : {A : Type 0} (x : Outcome A) (P Q : A → Type 0) → IfOk x P → ((a : A) → P a → Q a) → IfOk x Q
if_weaker (Ok a) P Q h k = k a h
if_weaker (Err e) P Q h k = tt

pub if_any : {A : Type 0} (x : Outcome A) → IfOk x (λ a. Unit {0})
if_any (Ok a) = tt
if_any (Err e) = tt

pub if_bound : {A B : Type 0} (x : Outcome A) (f : A → Outcome B) (P : A → Type 0) (Q : B → Type 0) → IfOk x P → ((a : A) → P a → IfOk (f a) Q) → IfOk (x >>= f) Q
if_bound (Ok a) f P Q h k = k a h
if_bound (Err e) f P Q h k = tt
