-- What the type of an index keeps of its parts, whatever corpus it stands for.
use Rattle.std.specs.Prelude.{◌≡◌, ℕ, ◌<◌, ◌≤◌, ◌^◌, Bool, true, nat_lt, ◌&&◌, List, length}
use Rattle.std.specs.List.{list_all}
use Rattle.sq_schema.specs.Limits.{most_rows}
use Rattle.sq_postings.specs.Rising.{rises, term_before, claim_before, length_before, pair_up_to}
use Rattle.sq_postings.specs.declared.parts.Claim.{Claim}
use Rattle.sq_postings.specs.declared.parts.Term.{Term}
use Rattle.sq_postings.specs.declared.parts.Parts.{Parts}

-- the term has a property and a list
abbrev pub is_term : ℕ → ℕ → Term → Bool
is_term properties lists term = nat_lt term.property properties && nat_lt term.list lists

abbrev pub has_rising_rows : Claim → Bool
has_rising_rows claim = rises nat_lt claim.rows

-- the claims differ and rise, and so do the rows of each
abbrev pub are_claims : List Claim → Bool
are_claims claims = rises claim_before claims && list_all has_rising_rows claims

pub record IsKept (parts : Parts) : Type 0 where
  pub few_shapes : length parts.shapes ≤ most_rows
  pub few_rows : length parts.rows < 2 ^ 32
  pub few_terms : length parts.terms < 2 ^ 32
  pub terms_rise : rises term_before parts.terms ≡ true
  pub terms_stand : list_all (is_term (length parts.shapes) (length parts.lists)) parts.terms ≡ true
  pub values_rise : list_all (rises pair_up_to) parts.values ≡ true
  pub lengths_rise : list_all (rises length_before) parts.lengths ≡ true
  pub allow_rise : are_claims parts.allow ≡ true
  pub deny_rise : are_claims parts.deny ≡ true
