-- Services of a corpus.
use Rattle.std.specs.Prelude.{◌≡◌, ℕ, ℤ, List, length}
use Rattle.sq_model.specs.declared.corpus.Corpus.{Corpus}
use Rattle.sq_packet.specs.declared.request.Request.{Request}
use Rattle.sq_engine.specs.Verdict.{knows, verdict}
use Rattle.sq_holding.specs.Told.{told}
use Rattle.sq_service.specs.declared.service.Service.{Service}

-- The service has the corpus's schema, its numbers and its names, and says what is said of the corpus.
pub record IsServiceOf (service : Service) (corpus : Corpus) : Type 0 where
  pub schema : service.holding.schema ≡ corpus.schema
  pub callers : length service.holding.callers ≡ length corpus.callers
  pub items : length service.holding.index.rows ≡ length corpus.items
  pub names : (name : List ℕ) → knows (told service.holding) name ≡ knows corpus name
  pub says : (name : List ℕ) (moment : ℤ) (request : Request) → verdict (told service.holding) name moment request ≡ verdict corpus name moment request
