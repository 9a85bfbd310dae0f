-- Nothing of what a caller doesn't see is told.
use Rattle.std.specs.Prelude.{◌≡◌, ◌↔◌, ℕ, ℤ, false, List, IfSome}
use Rattle.std.specs.List.{find}
use Rattle.sq_model.specs.declared.corpus.Corpus.{Corpus}
use Rattle.sq_model.specs.Access.{view}
use Rattle.sq_packet.specs.declared.request.Request.{Request}
use Rattle.sq_engine.specs.Verdict.{Unknown, is_named, knows, verdict}

-- Two corpora look the same to a name: equal schemas, equal rows of the name or none in both, and equal views.
pub record LooksSame (name : List ℕ) (a b : Corpus) : Type 0 where
  pub schema : a.schema ≡ b.schema
  pub row : find (is_named name) a.callers ≡ find (is_named name) b.callers
  pub view : IfSome (find (is_named name) a.callers) (λ caller. view a caller.claims ≡ view b caller.claims)

-- what looks the same to a name is answered alike
abbrev pub NothingLeaks : Type 0
NothingLeaks = (name : List ℕ) (a b : Corpus) (moment : ℤ) (request : Request) → LooksSame name a b → verdict a name moment request ≡ verdict b name moment request

-- a caller is unknown exactly where no row has the name
abbrev pub UnknownAreUnnamed : Type 0
UnknownAreUnnamed = (corpus : Corpus) (name : List ℕ) (moment : ℤ) (request : Request) → (verdict corpus name moment request ≡ Unknown) ↔ (knows corpus name ≡ false)
