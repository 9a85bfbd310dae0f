-- Corpora that are alike answer alike, and at one price.
use Rattle.std.specs.Prelude.{◌≡◌, ℕ, ℤ, List}
use Rattle.sq_model.specs.Alike.{Alike}
use Rattle.sq_model.specs.declared.corpus.Corpus.{Corpus}
use Rattle.sq_packet.specs.declared.request.Request.{Request}
use Rattle.sq_engine.specs.Price.{price}
use Rattle.sq_engine.specs.Verdict.{verdict}

-- what is alike says the same to every caller, at every moment, on every request
abbrev pub AlikeGiveOneVerdict : Type 0
AlikeGiveOneVerdict = (a b : Corpus) → Alike a b → (name : List ℕ) (moment : ℤ) (request : Request) → verdict a name moment request ≡ verdict b name moment request

-- and for the same price
abbrev pub AlikeCostAlike : Type 0
AlikeCostAlike = (a b : Corpus) → Alike a b → (name : List ℕ) (moment : ℤ) (request : Request) → price a name moment request ≡ price b name moment request
