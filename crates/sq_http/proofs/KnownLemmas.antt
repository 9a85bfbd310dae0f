-- What was taken or sent by one call after another.
use Rattle.std.proofs.Common.{ℕ, List, [], ◌++◌, Option, Some, None, refl, sym, ap, ◌∙◌, append_assoc, append-nil}
use Rattle.std.specs.Io.KnownBytes.{Appends, Consumes}

pub Appends-nothing : (known : Option (List ℕ)) → Appends known known []
Appends-nothing None = tt
Appends-nothing (Some xs) = sym (append-nil xs)

pub Appends-append : (a b c : Option (List ℕ)) (xs ys : List ℕ) → Appends a b xs → Appends b c ys → Appends a c (xs ++ ys)
Appends-append None b c xs ys first second = tt
Appends-append (Some us) None c xs ys first second = absurd first
Appends-append (Some us) (Some vs) None xs ys first second = absurd second
Appends-append (Some us) (Some vs) (Some ws) xs ys first second = second ∙ ap (λ t. t ++ ys) first ∙ append_assoc us xs ys

pub Consumes-nothing : (known : Option (List ℕ)) → Consumes known known []
Consumes-nothing None = tt
Consumes-nothing (Some xs) = refl

pub Consumes-append : (a b c : Option (List ℕ)) (xs ys : List ℕ) → Consumes a b xs → Consumes b c ys → Consumes a c (xs ++ ys)
Consumes-append None b c xs ys first second = tt
Consumes-append (Some us) None c xs ys first second = absurd first
Consumes-append (Some us) (Some vs) None xs ys first second = absurd second
Consumes-append (Some us) (Some vs) (Some ws) xs ys first second = first ∙ ap (λ t. xs ++ t) second ∙ sym (append_assoc xs ys ws)
