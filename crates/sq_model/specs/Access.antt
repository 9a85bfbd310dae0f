-- Which items a caller may see, and what he sees of them.
use Rattle.std.specs.Prelude.{ℕ, ℤ, Bool, not, ◌&&◌, List, map, filter}
use Rattle.std.specs.List.{list_any}
use Rattle.std.specs.Str.{bytes_eq}
use Rattle.sq_model.specs.declared.corpus.Value.{Value}
use Rattle.sq_model.specs.declared.corpus.Item.{Item}
use Rattle.sq_model.specs.declared.corpus.Corpus.{Corpus}

-- the item's list of claims that admit has the claim
abbrev pub allows : List ℕ → Item → Bool
allows claim item = list_any (bytes_eq claim) item.allow

-- the item's list of claims that deny has the claim
abbrev pub denies : List ℕ → Item → Bool
denies claim item = list_any (bytes_eq claim) item.deny

-- one of the claims is in the list
abbrev pub names_one : List (List ℕ) → List (List ℕ) → Bool
names_one list claims = list_any (λ claim. list_any (bytes_eq claim) list) claims

-- a claim of the allow list is held, and none of the deny list
abbrev pub admits : List (List ℕ) → Item → Bool
admits claims item = names_one item.allow claims && not (names_one item.deny claims)

-- an item as a caller sees it, without its access lists
pub record Seen : Type 0 where
  pub number : ℕ
  pub rank : ℤ
  pub url : List ℕ
  pub values : List Value

abbrev pub seen : Item → Seen
seen item = record { number = item.number; rank = item.rank; url = item.url; values = item.values }

-- what a caller with these claims sees of the corpus, in order of number
abbrev pub view : Corpus → List (List ℕ) → List Seen
view corpus claims = map seen (filter (admits claims) corpus.items)
