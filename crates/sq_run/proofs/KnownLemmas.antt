-- What is written of what an engine knows is written of its corpus.
use Rattle.std.proofs.Common.{◌≡◌, ℕ, ℤ, ◌≤◌, List, length, Option, Some, None, Result, Ok, Err, true, IfSome, IfOk, sym, subst, arith}
use Rattle.std.specs.Prelude.{nat_le}
use Rattle.std.proofs.lemmas.Bool.Decides.{nat_tests}
use Rattle.sq_base.specs.Limits.{most_corpus_bytes}
use Rattle.sq_schema.specs.Intervals.{clamped}
use Rattle.sq_model.specs.declared.corpus.Corpus.{Corpus}
use Rattle.sq_engine.specs.declared.engine.Engine.{Ghosts}
use Rattle.sq_engine.specs.Verdict.{Says}
use Rattle.sq_run.specs.declared.reply.Reply.{Reply}
use Rattle.sq_run.specs.declared.reply.Stop.{Stop}
use Rattle.sq_run.specs.Command.{Work, Working}
use Rattle.sq_run.specs.Output.{IsLoaded, loaded, order_outcome}
use Rattle.sq_run.specs.Replies.{Printed, Known, known_by, IsReply, work_outcome}

within : (n : ℕ) → n ≤ most_corpus_bytes → nat_le n most_corpus_bytes ≡ true
within n h = grind (arith, nat_tests)

module _ {E : Type 0} (meaning : Ghosts E) (said_of : Corpus → Says) (engine : E) where
  over_engine : (left : Option (List ℕ)) (next : Known → Option Printed) (reply : Reply) → IsLoaded meaning said_of left (Ok engine)
      → IfSome (next (known_by meaning engine)) (λ outcome. IsReply outcome reply) → IfSome (loaded said_of next left) (λ outcome. IsReply outcome reply)
  unfolding loaded
  over_engine None next reply h told = tt
  over_engine (Some bytes) next reply h told = rw (within (length bytes) h.0, h.1.1, sym h.1.2) told

  -- the same of a reply that may not be there
  pub reply_over : (left : Option (List ℕ)) (next : Known → Option Printed) (result : Result Reply Stop) → IsLoaded meaning said_of left (Ok engine)
      → IfOk result (λ reply. IfSome (next (known_by meaning engine)) (λ outcome. IsReply outcome reply))
      → IfOk result (λ reply. IfSome (loaded said_of next left) (λ outcome. IsReply outcome reply))
  reply_over left next (Ok reply) h told = over_engine left next reply h told
  reply_over left next (Err stop) h told = tt

  -- and of what is done with a corpus at a moment that was clamped
  pub work_over : (left input : Option (List ℕ)) (work : Work) (now handed : ℤ) (result : Result Reply Stop) → IsLoaded meaning said_of left (Ok engine)
      → handed ≡ clamped now → IfOk result (λ reply. IfSome (work_outcome (known_by meaning engine) handed input work) (λ outcome. IsReply outcome reply))
      → IfOk result (λ reply. IfSome (order_outcome said_of now left input (Working work)) (λ outcome. IsReply outcome reply))
  unfolding order_outcome
  work_over left input work now handed result h same told =
      reply_over left (λ known. work_outcome known (clamped now) input work) result h
      (subst (λ moment. IfOk result (λ reply. IfSome (work_outcome (known_by meaning engine) moment input work) (λ outcome. IsReply outcome reply))) same told)
