-- The names that a reader keeps, where one caller comes to the others.
use Rattle.std.proofs.Common.{◌≡◌, ℕ, Bool, true, false, cond, ◌||◌, List, [], ◌∷◌, ◌++◌, refl, sym, ◌∙◌}
use Rattle.std.specs.List.{list_any}
use Rattle.std.specs.Str.{bytes_eq}
use Rattle.std.proofs.lemmas.List.Folds.{list_any-append}
use Rattle.sq_model.specs.declared.corpus.Caller.{Caller}
use Rattle.sq_corpus.specs.Lines.{is_named}

either_last : (t a : Bool) → cond t true a ≡ (a || (t || false))
either_last true true = refl
either_last true false = refl
either_last false true = refl
either_last false false = refl

-- one caller more
pub named-more : (name : List ℕ) (callers : List Caller) (caller : Caller)
    → cond (bytes_eq caller.name name) true (list_any (is_named name) callers) ≡ list_any (is_named name) (callers ++ caller ∷ [])
unfolding is_named
named-more name callers caller =
    either_last (bytes_eq caller.name name) (list_any (is_named name) callers) ∙ sym (list_any-append (is_named name) callers (caller ∷ []))
