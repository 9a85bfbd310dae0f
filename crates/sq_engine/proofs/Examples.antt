-- Definitions at work on small rows.
use Rattle.std.proofs.Common.{◌≡◌, ℕ, ℤ, List, [], ◌∷◌, Some, None, Ok, true, false, refl}
use Rattle.std.specs.Prelude.{codes, pos}
use Rattle.sq_schema.specs.declared.property.Property.{Property}
use Rattle.sq_schema.specs.declared.property.Kind.TheVariants as kind
use Rattle.sq_schema.specs.Properties.{has_name}
use Rattle.sq_schema.specs.Words.{is_same_word}
use Rattle.sq_model.specs.declared.corpus.Content.TheVariants as content
use Rattle.sq_model.specs.declared.corpus.Corpus.{Corpus}
use Rattle.sq_model.specs.declared.corpus.Item.{Item}
use Rattle.sq_model.specs.declared.corpus.Value.{Value}
use Rattle.sq_model.specs.Access.{seen}
use Rattle.sq_model.specs.declared.fql.FTree.TheVariants as tree
use Rattle.sq_packet.specs.declared.request.Direction.TheVariants.{Ascending, Descending}
use Rattle.sq_packet.specs.declared.request.Language.TheVariants as language
use Rattle.sq_packet.specs.declared.request.RefinerSpec.{RefinerSpec}
use Rattle.sq_packet.specs.declared.request.Request.{Request}
use Rattle.sq_packet.specs.declared.request.SortSpec.{SortSpec}
use Rattle.sq_engine.specs.Answer.{Meaning, Score, Of, key_of, rows_of}
use Rattle.sq_engine.specs.Price.{refiner_price, sort_price, shown_price, answer_price, text_price, price_to, price}
use Rattle.sq_engine.specs.Verdict.{Unknown, NoRefiner, NoSort, said, key_named, text_verdict, verdict}

abbrev schema : List Property
schema =
    record { name = codes "title"; kind = kind.Text; searchable = true; multi = false; refinable = false }
    ∷ record { name = codes "Size"; kind = kind.Integer; searchable = false; multi = true; refinable = true }
    ∷ []

abbrev corpus : Corpus
corpus = record { schema = schema; callers = record { name = codes "Ann"; claims = [] } ∷ []; items = [] }

abbrev refiner : List ℕ → RefinerSpec
refiner name = record { name = name; bounds = [] }

abbrev asked : List RefinerSpec → List SortSpec → Request
asked refiners sorts = record {
  language = language.Kql;
  text = codes "*";
  start = 1;
  count = 10;
  properties = [];
  refiners = refiners;
  sorts = sorts;
  implicit_and = true;
}

-- every item is a hit
abbrev all : Meaning
all = record { holds = λ values. true; boost = λ values. pos 0 }

abbrev sized : ℤ → Value
sized n = record { property = 1; content = content.Number n }

abbrev sizes : List Value
sizes = sized (pos 5) ∷ sized (pos 2) ∷ sized (pos 9) ∷ []

-- a name is compared byte for byte
unknown_caller : (moment : ℤ) (request : Request) → verdict corpus (codes "ann") moment request ≡ Unknown
unfolding said
unknown_caller moment request = refl

-- the second refiner is no refinable property, and it goes before the sort
second_refiner : text_verdict schema (asked (refiner (codes "size") ∷ refiner (codes "title") ∷ []) (record { name = codes "colour"; direction = Ascending } ∷ [])) [] (Ok all) ≡ NoRefiner 1
unfolding has_name is_same_word
second_refiner = refl

-- a text is nothing to sort by
unknown_sort : text_verdict schema (asked [] (record { name = codes "size"; direction = Ascending } ∷ record { name = codes "title"; direction = Ascending } ∷ [])) [] (Ok all) ≡ NoSort 1
unfolding has_name is_same_word
unknown_sort = refl

by_rank : key_named schema (codes "RANK") ≡ Some Score
unfolding is_same_word
by_rank = refl

-- a property asked for twice is shown once, and an unknown name asks for none
asked_twice : rows_of schema (codes "SIZE" ∷ codes "colour" ∷ codes "title" ∷ codes "size" ∷ []) [] ≡ 1 ∷ 0 ∷ []
unfolding has_name is_same_word
asked_twice = refl

least_size : key_of (pos 7) sizes (Of 1, Ascending) ≡ Some (pos 2)
least_size = refl

greatest_size : key_of (pos 7) sizes (Of 1, Descending) ≡ Some (pos 9)
greatest_size = refl

no_title : key_of (pos 7) sizes (Of 0, Ascending) ≡ None
no_title = refl

-- ---- prices

abbrev item : Item
item = record { number = 1; rank = pos 10; url = codes "http://s/1"; allow = codes "staff" ∷ []; deny = []; values = sizes }

abbrev archive : Corpus
archive = record { schema = schema; callers = corpus.callers; items = item ∷ [] }

unknown_callers_cost_nothing : (moment : ℤ) (request : Request) → price archive (codes "ann") moment request ≡ 0
unfolding price_to
unknown_callers_cost_nothing moment request = refl

refused_refiners_cost_nothing : text_price archive [] (asked (refiner (codes "title") ∷ []) []) (Ok tree.All) ≡ 0
unfolding has_name is_same_word
refused_refiners_cost_nothing = refl

refiner_by_size : refiner_price archive (refiner (codes "size")) ≡ 6
unfolding has_name is_same_word
refiner_by_size = refl

sort_by_size : sort_price archive (Of 1, Descending) ≡ 7
sort_by_size = refl

sort_by_score : sort_price archive (Score, Descending) ≡ 0
sort_by_score = refl

sizes_and_no_title : shown_price (1 ∷ 0 ∷ []) (seen item) ≡ 5
sizes_and_no_title = refl

-- no item names the claim
an_idle_claim : answer_price archive (codes "guest" ∷ []) (asked [] []) tree.All [] ≡ 0
an_idle_claim = refl

a_claim_that_admits : answer_price archive (codes "staff" ∷ []) (asked [] []) tree.All [] ≡ 1
a_claim_that_admits = refl
