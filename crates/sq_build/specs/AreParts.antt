-- When the parts of an index are those of a corpus.
use Rattle.std.specs.Prelude.{◌≡◌, ℕ, ◌<◌, ◌^◌, true, false, List, length, map}
use Rattle.sq_model.specs.declared.corpus.Corpus.{Corpus}
use Rattle.sq_postings.specs.declared.parts.Parts.{Parts}
use Rattle.sq_postings.specs.Indexed.{rows_with}
use Rattle.sq_postings.specs.Kept.{are_claims}
use Rattle.sq_postings.specs.Occurrences.{rows_from}
use Rattle.sq_postings.specs.StandsFor.{shape_of, row_of}
use Rattle.sq_build.specs.Claims.{has_claim}
use Rattle.sq_build.specs.Dictionary.{AreTerms, lengths_by_property}
use Rattle.sq_build.specs.Numbers.{numbers_by_property}

pub record AreParts (parts : Parts) (corpus : Corpus) : Type 0 where
  pub shapes : parts.shapes ≡ map shape_of corpus.schema
  pub rows : parts.rows ≡ map row_of corpus.items
  pub few : length parts.terms < 2 ^ 32
  pub terms : AreTerms corpus.items (length corpus.schema) parts.terms parts.lists
  pub values : parts.values ≡ numbers_by_property (length corpus.schema) corpus.items
  pub lengths : parts.lengths ≡ lengths_by_property (length corpus.schema) corpus.items
  pub allow_kept : are_claims parts.allow ≡ true
  pub deny_kept : are_claims parts.deny ≡ true
  pub allow : (claim : List ℕ) → rows_with claim parts.allow ≡ rows_from 0 (has_claim false claim) corpus.items
  pub deny : (claim : List ℕ) → rows_with claim parts.deny ≡ rows_from 0 (has_claim true claim) corpus.items
