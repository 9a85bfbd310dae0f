-- What an engine of the tests says: one answer to each caller that is known.
use Rattle.std.specs.Prelude.{◌≡◌, ◌↔◌, true, false, refl, ℕ, ℤ, Bool, List, [], ◌∷◌, if◌then◌else◌, pos}
use Rattle.sq_packet.specs.declared.request.Request.{Request}
use Rattle.sq_response.specs.declared.response.Found.{Found}
use Rattle.sq_engine.specs.Verdict.{Verdict, Unknown, Shows}

abbrev pub fixed_found : Found
fixed_found = record { start = 1; total = 3; hits = record { number = 7; score = pos 70; url = []; values = [] } ∷ []; refiners = [] }

abbrev pub fixed_verdict : (List ℕ → Bool) → List ℕ → ℤ → Request → Verdict
fixed_verdict known caller moment request = if known caller then Shows fixed_found else Unknown

unknown_if : (known : Bool) → ((if known then Shows fixed_found else Unknown) ≡ Unknown) ↔ (known ≡ false)
unknown_if true = (λ same. absurd (cc), λ same. cc)
unknown_if false = (λ _. refl, λ _. refl)

-- it is that the caller is unknown exactly where the name isn't known
pub fixed_verdict-unknown : (known : List ℕ → Bool) (caller : List ℕ) (moment : ℤ) (request : Request) → (fixed_verdict known caller moment request ≡ Unknown) ↔ (known caller ≡ false)
fixed_verdict-unknown known caller moment request = unknown_if (known caller)
