-- Corpora that are told apart by nothing that a caller is answered: they differ at most in the order of an item's values
-- of different properties, and in how its claims are listed.
use Rattle.std.specs.Prelude.{◌≡◌, ℕ, List, [], ◌∷◌}
use Rattle.sq_model.specs.Access.{allows, denies}
use Rattle.sq_model.specs.Passages.{contents}
use Rattle.sq_model.specs.declared.corpus.Item.{Item}
use Rattle.sq_model.specs.declared.corpus.Corpus.{Corpus}

pub record ItemsAlike (a b : Item) : Type 0 where
  pub number : a.number ≡ b.number
  pub rank : a.rank ≡ b.rank
  pub url : a.url ≡ b.url
  pub allowed : (claim : List ℕ) → allows claim a ≡ allows claim b
  pub denied : (claim : List ℕ) → denies claim a ≡ denies claim b
  pub contents_of : (property : ℕ) → contents a.values property ≡ contents b.values property

-- the items at each place
abbrev pub EachAlike : List Item → List Item → Type 0
EachAlike [] [] = Unit {0}
EachAlike [] (b ∷ more_b) = ⊥
EachAlike (a ∷ more_a) [] = ⊥
EachAlike (a ∷ more_a) (b ∷ more_b) = ItemsAlike a b × EachAlike more_a more_b

pub record Alike (a b : Corpus) : Type 0 where
  pub schema : a.schema ≡ b.schema
  pub callers : a.callers ≡ b.callers
  pub items : EachAlike a.items b.items
