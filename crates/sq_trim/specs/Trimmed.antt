-- The rows that claims admit.
use Rattle.std.specs.Prelude.{◌≡◌, ◌≤◌, ℕ, ◌+◌, Bool, true, false, List, map, length, sum_by, replicate}
use Rattle.sq_model.specs.Access.{admits}
use Rattle.sq_model.specs.Valid.{IsValid}
use Rattle.sq_model.specs.declared.corpus.Corpus.{Corpus}
use Rattle.sq_model.specs.Cost.{claim_cost}
use Rattle.sq_postings.specs.Indexed.{Indexed, rows_with, claims_in}
use Rattle.sq_postings.specs.Occurrences.{rows_from}
use Rattle.sq_postings.specs.StandsFor.{StandsFor}
use Rattle.sq_trim.specs.Flags.{marked_all}

-- ---- by the index

-- the rows of a claim, among those that admit or those that deny
abbrev pub claim_rows : Indexed → Bool → List ℕ → List ℕ
claim_rows index denied claim = rows_with claim (claims_in index denied)

-- how many rows the claims have
abbrev pub claim_entries : Indexed → Bool → List (List ℕ) → ℕ
claim_entries index denied claims = sum_by (λ claim. length (claim_rows index denied claim)) claims

-- of each row whether a claim admits it and none denies it
abbrev pub flags_by : Indexed → List (List ℕ) → List Bool
flags_by index claims =
    marked_all false (map (claim_rows index true) claims) (marked_all true (map (claim_rows index false) claims) (replicate (length index.rows) false))

-- ---- by a corpus

-- these are the rows of the items that the claims admit, for each corpus that the index stands for
abbrev pub AreAdmitted : Indexed → List (List ℕ) → List ℕ → Type 0
AreAdmitted index claims rows = (corpus : Corpus) → IsValid corpus → StandsFor index corpus → rows ≡ rows_from 0 (admits claims) corpus.items

-- from before to after lie at most the claims' cost, for each such corpus
abbrev pub IsWithinCost : Indexed → List (List ℕ) → ℕ → ℕ → Type 0
IsWithinCost index claims before after = (corpus : Corpus) → IsValid corpus → StandsFor index corpus → after ≤ before + claim_cost corpus claims
