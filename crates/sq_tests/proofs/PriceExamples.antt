-- The price of a query over the texts of the worked corpus. Their tokens are a premise, since the tables of Unicode are
-- too long to compute with.
use Rattle.std.proofs.Common.{◌≡◌, ℕ, ◌+◌, Bool, true, false, if◌then◌else◌, List, [], ◌∷◌, ◌++◌, length, pos, refl}
use Rattle.std.specs.Prelude.{codes, ◌==◌}
use Rattle.sq_schema.specs.declared.property.Property.{Property}
use Rattle.sq_schema.specs.declared.property.Kind.TheVariants as kind
use Rattle.sq_tokens.specs.Token.{Token, text_tokens}
use Rattle.sq_model.specs.declared.corpus.Content.TheVariants.{Words}
use Rattle.sq_model.specs.declared.corpus.Corpus.{Corpus}
use Rattle.sq_model.specs.declared.corpus.Item.{Item}
use Rattle.sq_model.specs.declared.corpus.Value.{Value}
use Rattle.sq_model.specs.declared.fql.FTree.{Spans}
use Rattle.sq_model.specs.declared.fql.Look.TheVariants.{Searchable}
use Rattle.sq_model.specs.declared.fql.SpanTree.{Leaf}
use Rattle.sq_model.specs.Cost.{cost, claim_cost}
use Rattle.sq_model.specs.Passages.{Passage}

-- the tokens of lower-case words with a blank between each two
abbrev words_after : List ℕ → List ℕ → List (List ℕ)
words_after word [] = word ∷ []
words_after word (b ∷ bs) = if b == 32 then word ∷ words_after [] bs else words_after (word ++ b ∷ []) bs

abbrev placed : ℕ → List (List ℕ) → List Token
placed at [] = []
placed at (word ∷ rest) = record { text = word; from = at; to = at + length word } ∷ placed (at + length word + 1) rest

abbrev passage : List ℕ → Passage
passage text = placed 0 (words_after [] text)

abbrev row : List ℕ → Property
row name = record { name = name; kind = kind.Text; searchable = true; multi = false; refinable = false }

abbrev value : ℕ → List ℕ → Value
value property text = record { property = property; content = Words text }

abbrev item : ℕ → List ℕ → List ℕ → List ℕ → Item
item number claim title body = record {
  number = number;
  rank = pos 10;
  url = codes "u";
  allow = claim ∷ [];
  deny = [];
  values = value 0 title ∷ value 1 body ∷ [];
}

module _ (title1 body1 title2 body2 title3 body3 : List ℕ)
    (t1 : text_tokens title1 ≡ passage (codes "annual report")) (b1 : text_tokens body1 ≡ passage (codes "merger of the old bank and the new bank"))
    (t2 : text_tokens title2 ≡ passage (codes "debt notes")) (b2 : text_tokens body2 ≡ passage (codes "acquisition of company debt"))
    (t3 : text_tokens title3 ≡ passage (codes "board memo")) (b3 : text_tokens body3 ≡ passage (codes "debt before acquisition")) where
  abbrev corpus : Corpus
  corpus = record {
    schema = row (codes "title") ∷ row (codes "body") ∷ [];
    callers = record { name = codes "Ann"; claims = codes "staff" ∷ [] } ∷ [];
    items = item 1 (codes "staff") title1 body1 ∷ item 2 (codes "staff") title2 body2 ∷ item 3 (codes "board") title3 body3 ∷ [];
  }

  -- `debt` stands three times in title and body, each read at most once for each of 256 copies, and two items admit the claim
  a_word_and_a_claim : cost corpus (Spans Searchable (Leaf (record { text = codes "debt"; pattern = record { texts = codes "debt" ∷ []; prefixed = false } }))) + claim_cost corpus (codes "staff" ∷ []) ≡ 770
  a_word_and_a_claim = rw (t1, b1, t2, b2, t3, b3) refl
