-- Worked examples.
use Rattle.std.proofs.Common.{◌≡◌, ℕ, ℤ, pos, List, [], ◌∷◌, Option, Some, None, refl}
use Rattle.sq_response.specs.declared.response.Entry.TheVariants.{Single, Bucket}
use Rattle.sq_packet.specs.declared.request.Direction.TheVariants.{Ascending, Descending}
use Rattle.sq_ranking.specs.Ranking.{Ranked, page_by, entries}

abbrev hit : ℕ → ℤ → Option ℤ → Option ℤ → Ranked
hit number score first second = record { number = number; score = score; keys = first ∷ (second ∷ []) }

abbrev four : List Ranked
four = hit 1 (pos 9) (Some (pos 5)) None ∷ (hit 2 (pos 0) None (Some (pos 1)) ∷ (hit 3 (pos 0) (Some (pos 5)) (Some (pos 7)) ∷ (hit 4 (pos 3) (Some (pos 6)) (Some (pos 2)) ∷ [])))

-- the greatest first key first, of equal ones the least second key, and none last
by_two_sorts : page_by (λ hit. hit) (Descending ∷ (Ascending ∷ [])) 1 3 four ≡ hit 4 (pos 3) (Some (pos 6)) (Some (pos 2)) ∷ (hit 3 (pos 0) (Some (pos 5)) (Some (pos 7)) ∷ (hit 1 (pos 9) (Some (pos 5)) None ∷ []))
by_two_sorts = refl

-- by score, and of equal scores the lower number: from the second place on
by_scores : page_by (λ hit. hit) [] 2 2 four ≡ hit 4 (pos 3) (Some (pos 6)) (Some (pos 2)) ∷ (hit 2 (pos 0) None (Some (pos 1)) ∷ [])
by_scores = refl

abbrev three : List (List ℤ)
three = (pos 1 ∷ (pos 1 ∷ [])) ∷ ((pos 2 ∷ []) ∷ ((pos 1 ∷ []) ∷ []))

-- a hit that has a number twice counts once
each_number : entries [] three ≡ Single (pos 1) 2 ∷ (Single (pos 2) 1 ∷ [])
each_number = refl

abbrev spread : List (List ℤ)
spread = (pos 9 ∷ (pos 10 ∷ [])) ∷ ((pos 20 ∷ []) ∷ ((pos 19 ∷ (pos 12 ∷ [])) ∷ ([] ∷ [])))

each_bucket : entries (pos 10 ∷ (pos 20 ∷ [])) spread ≡ Bucket None (Some (pos 10)) 1 ∷ (Bucket (Some (pos 10)) (Some (pos 20)) 2 ∷ (Bucket (Some (pos 20)) None 1 ∷ []))
each_bucket = refl
