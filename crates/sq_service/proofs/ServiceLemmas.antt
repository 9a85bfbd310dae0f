-- A service says what is said of the corpus that it holds.
use Rattle.std.proofs.Common.{◌≡◌, ℕ, ℤ, ◌+◌, ◌≤◌, List, length, sym, ap, ◌∙◌, subst}
use Rattle.std.specs.Prelude.{Result, is_some}
use Rattle.std.specs.List.{find}
use Rattle.std.proofs.lemmas.List.{length-map}
use Rattle.sq_model.specs.declared.corpus.Caller.{Caller}
use Rattle.sq_model.specs.declared.corpus.Corpus.{Corpus}
use Rattle.sq_packet.specs.declared.request.Request.{Request}
use Rattle.sq_response.specs.declared.response.Response.{Response}
use Rattle.sq_postings.specs.StandsFor.{row_of}
use Rattle.sq_holding.specs.Held.{Held}
use Rattle.sq_holding.specs.Holds.{Holds}
use Rattle.sq_holding.specs.Laws.{ToldIsAlike}
use Rattle.sq_holding.specs.Told.{told}
use Rattle.sq_engine.specs.AlikeLaws.{AlikeGiveOneVerdict, AlikeCostAlike}
use Rattle.sq_engine.specs.Answers.{Answers}
use Rattle.sq_engine.specs.Price.{price}
use Rattle.sq_engine.specs.Verdict.{Verdict, is_named, verdict}
use Rattle.sq_engine.specs.declared.refused.Refused.{Refused}
use Rattle.sq_service.specs.ServiceOf.{IsServiceOf}
use Rattle.sq_service.specs.declared.service.Service.{Service}

module _ (alike : ToldIsAlike) (one_verdict : AlikeGiveOneVerdict) where
  pub is_service : (service : Service) (held : Held) (corpus : Corpus) → service.holding ≡ held → Holds held corpus → IsServiceOf service corpus
  is_service service held corpus is there =
      let holds : Holds service.holding corpus = subst (λ (h : Held). Holds h corpus) (sym is) there in
      record {
        schema = holds.schema;
        callers = ap length holds.callers;
        items = ap length holds.index.rows ∙ length-map corpus.items row_of;
        names = λ name. ap (λ (callers : List Caller). is_some (find (is_named name) callers)) holds.callers;
        says = λ name moment request. one_verdict (told service.holding) corpus (alike service.holding corpus holds) name moment request;
      }

  pub says_told : (held : Held) (corpus : Corpus) → Holds held corpus → (name : List ℕ) (moment : ℤ) (request : Request) (result : Result Response Refused)
      → Answers (verdict corpus name moment request) result → Answers (verdict (told held) name moment request) result
  says_told held corpus holds name moment request result answers =
      subst (λ (v : Verdict). Answers v result) (sym (one_verdict (told held) corpus (alike held corpus holds) name moment request)) answers

pub costs_told : ToldIsAlike → AlikeCostAlike → (held : Held) (corpus : Corpus) → Holds held corpus → (name : List ℕ) (moment : ℤ) (request : Request) (before after : ℕ)
    → after ≤ before + price corpus name moment request → after ≤ before + price (told held) name moment request
costs_told alike one_price held corpus holds name moment request before after cost =
    subst (λ (n : ℕ). after ≤ before + n) (sym (one_price (told held) corpus (alike held corpus holds) name moment request)) cost
