-- What a search looks for.
use Rattle.std.specs.Prelude.{◌≡◌, ℕ, ◌<◌, ◌≤◌, Bool, true, ◌&&◌, ◌||◌, ◌==◌, nat_lt, List, length, slice_index_or}
use Rattle.sq_tokens.specs.Pattern.{is_token_asked}
use Rattle.sq_postings.specs.Rising.{token_before, text_before}
use Rattle.sq_postings.specs.declared.parts.Term.{Term}
use Rattle.sq_postings.specs.declared.parts.Claim.{Claim}
use Rattle.sq_postings.specs.declared.parts.Length.{Length}

abbrev pub comes_before : ℕ → List ℕ → Term → Bool
comes_before property token term = token_before term.property term.token property token

abbrev pub fits_term : ℕ → List ℕ → Bool → Term → Bool
fits_term property wanted prefixed term = (term.property == property) && is_token_asked prefixed wanted term.token

abbrev pub comes_up_to : ℕ → List ℕ → Bool → Term → Bool
comes_up_to property wanted prefixed term = comes_before property wanted term || fits_term property wanted prefixed term

abbrev pub claim_comes_before : List ℕ → Claim → Bool
claim_comes_before claim entry = text_before entry.claim claim

abbrev pub length_comes_before : ℕ → ℕ → Length → Bool
length_comes_before row ordinal entry = nat_lt entry.row row || ((entry.row == row) && nat_lt entry.ordinal ordinal)

-- the terms that fit stand from start to before end
pub record AreFound (terms : List Term) (property : ℕ) (wanted : List ℕ) (prefixed : Bool) (start end : ℕ) : Type 0 where
  pub ordered : start ≤ end
  pub within : end ≤ length terms
  pub inside : (i : ℕ) (d : Term) → start ≤ i → i < end → fits_term property wanted prefixed (slice_index_or terms i d) ≡ true
  pub outside : (i : ℕ) (d : Term) → i < length terms → fits_term property wanted prefixed (slice_index_or terms i d) ≡ true → (start ≤ i) × (i < end)
