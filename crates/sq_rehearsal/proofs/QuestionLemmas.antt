-- The questions keep the limits of a request, and come one after the other.
use Rattle.std.proofs.Common.{arith, ◌≡◌, List, [], ◌∷◌, ◌++◌, append_assoc, refl, ℕ}
use Rattle.std.specs.Prelude.{All, codes}
use Rattle.std.proofs.lemmas.List.Elements.{All-from_recursion, All-nil, All-append}
use Rattle.sq_packet.specs.declared.request.Language.{Language}
use Rattle.sq_packet.specs.Asked.{HasBuckets, IsAsked}
use Rattle.sq_rehearsal.specs.Questions.{request, questions_of, questions}

-- six pushes, one after the other
pub six : {X : Type 0} (all : List X) (a b c d e f : X)
    → ((((((all ++ a ∷ []) ++ b ∷ []) ++ c ∷ []) ++ d ∷ []) ++ e ∷ []) ++ f ∷ []) ≡ all ++ (a ∷ (b ∷ (c ∷ (d ∷ (e ∷ (f ∷ []))))))
six all a b c d e f = simp append_assoc refl

asked : (language : Language) (text : List ℕ) → IsAsked (request language text)
asked language text = record {
  start = omega arith;
  some = omega arith;
  count = omega arith;
  range = omega arith;
  properties = omega arith;
  refiners = omega arith;
  buckets = All-nil HasBuckets;
  sorts = omega arith;
}

asked_by : (caller : List ℕ) → All (λ each. IsAsked each.request) (questions_of caller)
unfolding questions_of
asked_by caller = All-from_recursion (λ each. IsAsked each.request) (questions_of caller)
    (asked _ _, (asked _ _, (asked _ _, (asked _ _, (asked _ _, (asked _ _, tt))))))

pub all_asked : All (λ each. IsAsked each.request) questions
unfolding questions
all_asked = All-append (λ each. IsAsked each.request) (questions_of (codes "reader")) (questions_of (codes "chief")) (asked_by (codes "reader")) (asked_by (codes "chief"))
