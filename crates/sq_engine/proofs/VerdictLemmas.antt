-- A caller that is known is never called unknown.
use Rattle.std.proofs.Common.{◌≡◌, ◌↔◌, ℤ, ℕ, List, [], ◌∷◌, Option, Some, None, Result, Ok, Err, option_map, is_some, false, refl}
use Rattle.std.specs.List.{find}
use Rattle.sq_base.specs.Outcome.{Outcome}
use Rattle.sq_schema.specs.declared.property.Property.{Property}
use Rattle.sq_model.specs.declared.corpus.Caller.{Caller}
use Rattle.sq_model.specs.declared.corpus.Corpus.{Corpus}
use Rattle.sq_model.specs.Access.{Seen, view}
use Rattle.sq_packet.specs.declared.request.Direction.{Direction}
use Rattle.sq_packet.specs.declared.request.Request.{Request}
use Rattle.sq_response.specs.declared.response.Found.{Found}
use Rattle.sq_engine.specs.Answer.{Meaning, SortKey, hits, found_of}
use Rattle.sq_engine.specs.Verdict.{Unknown, is_named, said, meaning_of, first_without, is_refinable, sort_keys, unless_empty, sorts_verdict, refiners_verdict, text_verdict}
use Rattle.sq_engine.specs.Leak.{UnknownAreUnnamed}

of_hits : {A : Type 0} (xs : List A) (found : Found) → unless_empty xs found ≡ Unknown → ⊥
of_hits [] found here = cc
of_hits (x ∷ xs) found here = cc

of_sorts : (schema : List Property) (meaning : Meaning) (request : Request) (seen : List Seen) (keys : Result (List (SortKey × Direction)) ℕ)
    → sorts_verdict schema meaning request seen keys ≡ Unknown → ⊥
of_sorts schema meaning request seen (Err i) here = cc
of_sorts schema meaning request seen (Ok sorts) here = of_hits (hits meaning seen) (found_of schema meaning sorts request (hits meaning seen)) here

of_refiners : (schema : List Property) (meaning : Meaning) (request : Request) (seen : List Seen) (first : Option ℕ)
    → refiners_verdict schema meaning request seen first ≡ Unknown → ⊥
of_refiners schema meaning request seen (Some i) here = cc
of_refiners schema meaning request seen None here = of_sorts schema meaning request seen (sort_keys schema 0 request.sorts) here

of_text : (schema : List Property) (request : Request) (seen : List Seen) (outcome : Outcome Meaning)
    → text_verdict schema request seen outcome ≡ Unknown → ⊥
of_text schema request seen (Err fault) here = cc
of_text schema request seen (Ok meaning) here = of_refiners schema meaning request seen (first_without (is_refinable schema) 0 request.refiners) here

of_row : (corpus : Corpus) (moment : ℤ) (request : Request) (row : Option Caller)
    → (said corpus.schema moment request (option_map (λ caller. view corpus caller.claims) row) ≡ Unknown) ↔ (is_some row ≡ false)
unfolding said
of_row corpus moment request None = ((λ unknown. refl), (λ unnamed. refl))
of_row corpus moment request (Some caller) =
    ((λ unknown. absurd (of_text corpus.schema request (view corpus caller.claims) (meaning_of corpus.schema moment request) unknown)), (λ unnamed. absurd (cc)))

pub unknown_are_unnamed : UnknownAreUnnamed
unknown_are_unnamed corpus name moment request = of_row corpus moment request (find (is_named name) corpus.callers)
