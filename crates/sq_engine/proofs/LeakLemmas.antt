-- What is told depends on the view.
use Rattle.std.proofs.Common.{◌≡◌, Option, Some, None, IfSome, option_map, refl, ap, sym}
use Rattle.std.specs.List.{find}
use Rattle.sq_model.specs.declared.corpus.Corpus.{Corpus}
use Rattle.sq_model.specs.declared.corpus.Caller.{Caller}
use Rattle.sq_model.specs.Access.{view}
use Rattle.sq_engine.specs.Verdict.{is_named}
use Rattle.sq_engine.specs.Leak.{NothingLeaks}

same_view : (a b : Corpus) (one two : Option Caller) → one ≡ two → IfSome one (λ caller. view a caller.claims ≡ view b caller.claims)
    → option_map (λ caller. view a caller.claims) one ≡ option_map (λ caller. view b caller.claims) two
same_view a b None two same views = rw (sym same) refl
same_view a b (Some caller) two same views = rw (sym same) (ap Some views)

pub nothing_leaks : NothingLeaks
nothing_leaks name a b moment request same =
    rw (same.schema, same_view a b (find (is_named name) a.callers) (find (is_named name) b.callers) same.row same.view) refl
