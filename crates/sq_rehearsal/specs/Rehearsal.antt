-- The corpus of a rehearsal. It is made by rule, so that the service can be tried with no corpus text at hand, and so that
-- everybody who follows the rule gets the same answers. Its items are small and alike: a caller of two sees some of them,
-- most words stand in many of them, and each remainder gives a pattern that the others don't have.
use Rattle.std.specs.Prelude.{ℕ, ◌+◌, ◌*◌, ◌%◌, Bool, true, false, ◌==◌, if◌then◌else◌, pos, List, [], ◌∷◌, ◌++◌, map, flat_map, codes, decimal}
use Rattle.std.specs.List.{range_with_len}
use Rattle.sq_schema.specs.declared.property.Kind.{Kind}
use Rattle.sq_schema.specs.declared.property.Kind.TheVariants as kind
use Rattle.sq_schema.specs.declared.property.Property.{Property}
use Rattle.sq_model.specs.declared.corpus.Content.TheVariants.{Words, Number}
use Rattle.sq_model.specs.declared.corpus.Value.{Value}
use Rattle.sq_model.specs.declared.corpus.Item.{Item}
use Rattle.sq_model.specs.declared.corpus.Caller.{Caller}
use Rattle.sq_model.specs.declared.corpus.Corpus.{Corpus}

-- of how many items the corpus is at most
abbrev pub most_rehearsed : ℕ
most_rehearsed = 2_000

-- a property whose items have one value each, and which no refiner counts
abbrev pub property : List ℕ → Kind → Bool → Property
property name kind searchable = record { name = name; kind = kind; searchable = searchable; multi = false; refinable = false }

-- two texts that are searched, and an integer
abbrev pub properties : List Property
properties = property (codes "title") kind.Text true ∷ (property (codes "body") kind.Text true ∷ (property (codes "size") kind.Integer false ∷ []))

-- one who sees what the staff sees, and one whom the board admits too, and whom what is denied to the temporary is denied
abbrev pub callers : List Caller
callers = record { name = codes "reader"; claims = codes "staff" ∷ [] }
    ∷ (record { name = codes "chief"; claims = codes "staff" ∷ (codes "board" ∷ (codes "temp" ∷ [])) } ∷ [])

-- the letter `w` and a number
abbrev pub word : ℕ → List ℕ
word n = codes "w" ++ decimal n

-- word j, counted from 0, of the body of item i
abbrev pub body_word : ℕ → ℕ → List ℕ
body_word i j = word ((i * (j + 1) + j * j) % 50)

-- the first word of the body of item i, and so many more, each behind a blank
unfoldable pub opening : ℕ → ℕ → List ℕ
opening i more = body_word i 0 ++ flat_map (λ j. codes " " ++ body_word i j) (range_with_len 1 more)

-- 20 words with a blank between each two
abbrev pub body : ℕ → List ℕ
body i = opening i 19

abbrev pub title : ℕ → List ℕ
title i = codes "note " ++ word (i % 7)

-- every third item is for the board, and the others for the staff
abbrev pub allow : ℕ → List (List ℕ)
allow i = (if i % 3 == 0 then codes "board" else codes "staff") ∷ []

-- every tenth item is denied to the temporary
abbrev pub deny : ℕ → List (List ℕ)
deny i = if i % 10 == 0 then codes "temp" ∷ [] else []

abbrev pub values : ℕ → List Value
values i = record { property = 0; content = Words (title i) }
    ∷ (record { property = 1; content = Words (body i) } ∷ (record { property = 2; content = Number (pos (i % 13)) } ∷ []))

-- the item with this number
abbrev pub item : ℕ → Item
item i = record {
  number = i;
  rank = pos ((i * 37) % 101);
  url = codes "u" ++ decimal i;
  allow = allow i;
  deny = deny i;
  values = values i;
}

-- the corpus with so many items
unfoldable pub rehearsal : ℕ → Corpus
rehearsal count = record { schema = properties; callers = callers; items = map item (range_with_len 1 count) }
