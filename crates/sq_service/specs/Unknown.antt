-- A caller is unknown exactly where no caller of the corpus has the name.
use Rattle.std.specs.Prelude.{◌≡◌, ◌↔◌, ℕ, ℤ, false, List, [], ◌∷◌, Option, Some, None, Result, Ok, Err, option_map, is_some, refl}
use Rattle.std.specs.List.{find}
use Rattle.sq_base.specs.Outcome.{Outcome}
use Rattle.sq_schema.specs.declared.property.Property.{Property}
use Rattle.sq_model.specs.declared.corpus.Caller.{Caller}
use Rattle.sq_model.specs.declared.corpus.Corpus.{Corpus}
use Rattle.sq_model.specs.Access.{Seen, view}
use Rattle.sq_packet.specs.declared.request.Direction.{Direction}
use Rattle.sq_packet.specs.declared.request.Request.{Request}
use Rattle.sq_response.specs.declared.response.Found.{Found}
use Rattle.sq_engine.specs.Answer.{Meaning, SortKey}
use Rattle.sq_engine.specs.Verdict.{Unknown, unless_empty, sorts_verdict, refiners_verdict, text_verdict, said, verdict, knows, is_named, meaning_of}

never_found : (seen : List Seen) (found : Found) → unless_empty seen found ≡ Unknown → ⊥
never_found [] found is = cc
never_found (one ∷ seen) found is = cc

never_sorted : (schema : List Property) (meaning : Meaning) (request : Request) (seen : List Seen) (sorts : Result (List (SortKey × Direction)) ℕ)
    → sorts_verdict schema meaning request seen sorts ≡ Unknown → ⊥
never_sorted schema meaning request seen (Err i) is = cc
never_sorted schema meaning request seen (Ok sorts) is = never_found _ _ is

never_refined : (schema : List Property) (meaning : Meaning) (request : Request) (seen : List Seen) (first : Option ℕ)
    → refiners_verdict schema meaning request seen first ≡ Unknown → ⊥
never_refined schema meaning request seen (Some i) is = cc
never_refined schema meaning request seen None is = never_sorted schema meaning request seen _ is

never_read : (schema : List Property) (request : Request) (seen : List Seen) (outcome : Outcome Meaning) → text_verdict schema request seen outcome ≡ Unknown → ⊥
never_read schema request seen (Err fault) is = cc
never_read schema request seen (Ok meaning) is = never_refined schema meaning request seen _ is

by_caller : (corpus : Corpus) (moment : ℤ) (request : Request) (caller : Option Caller)
    → (said corpus.schema moment request (option_map (λ caller. view corpus caller.claims) caller) ≡ Unknown) ↔ (is_some caller ≡ false)
unfolding said
by_caller corpus moment request None = (λ _. refl, λ _. refl)
by_caller corpus moment request (Some caller) = (λ is. absurd (never_read corpus.schema request (view corpus caller.claims) (meaning_of corpus.schema moment request) is), λ is. absurd (cc))

pub unknown_are_unnamed : (corpus : Corpus) (name : List ℕ) (moment : ℤ) (request : Request)
    → (verdict corpus name moment request ≡ Unknown) ↔ (knows corpus name ≡ false)
unknown_are_unnamed corpus name moment request = by_caller corpus moment request (find (is_named name) corpus.callers)
