-- What holds of an outcome, step by step.
use Rattle.std.proofs.Common.{◌≡◌, ℕ, Bool, true, false, if◌then◌else◌, Option, Some, None, Ok, Err, IfOk, refl, subst}
use Rattle.sq_base.specs.Outcome.{Outcome, ◌>>=◌, or_refused}

pub if_bind : {A B : Type 0} (o : Outcome A) (f : A → Outcome B) (P : B → Type 0) → ((a : A) → o ≡ Ok a → IfOk (f a) P) → IfOk (o >>= f) P
if_bind (Ok a) f P h = h a refl
if_bind (Err e) f P h = tt

pub if_test : {A : Type 0} (t : Bool) (a b : Outcome A) (P : A → Type 0) → (t ≡ true → IfOk a P) → (t ≡ false → IfOk b P) → IfOk (if t then a else b) P
if_test true a b P holds fails = holds refl
if_test false a b P holds fails = fails refl

pub if_ok : {A : Type 0} (o : Outcome A) (a : A) (P : A → Type 0) → o ≡ Ok a → IfOk o P → P a
if_ok {A} o a P is h = let Of : Outcome A → Type 0 = λ r. IfOk r P in subst Of is h

pub or_some : {A : Type 0} (o : Option A) (code at : ℕ) (a : A) → or_refused o code at ≡ Ok a → o ≡ Some a
or_some (Some x) code at a h = cc
or_some None code at a h = absurd cc

pub if_each : {A : Type 0} (o : Outcome A) (P R : A → Type 0) → IfOk o P → ((a : A) → P a → R a) → IfOk o R
if_each (Ok a) P R h more = more a h
if_each (Err e) P R h more = tt

-- a value, or the fault that there is none
pub if_value : {A : Type 0} (o : Option A) (code at : ℕ) (P : A → Type 0) → ((a : A) → o ≡ Some a → P a) → IfOk (or_refused o code at) P
if_value (Some a) code at P h = h a refl
if_value None code at P h = tt
