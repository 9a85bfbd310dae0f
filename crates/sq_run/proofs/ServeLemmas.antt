-- One more connection was served, and what was served over an engine was served over its corpus.
use Rattle.std.proofs.Common.{ℕ, ◌+◌, List, [], ◌∷◌, ◌++◌, Option, Some, None, Ok, refl, sym, ap, subst, ◌∙◌, append_assoc, append-nil, arith, length-append}
use Rattle.sq_base.specs.Queues.{TakesFirst, Gains}
use Rattle.sq_model.specs.declared.corpus.Corpus.{Corpus}
use Rattle.sq_engine.specs.declared.engine.Engine.{Ghosts}
use Rattle.sq_engine.specs.Verdict.{Says}
use Rattle.sq_run.specs.Command.{Serving}
use Rattle.sq_run.specs.Output.{IsLoaded}
use Rattle.sq_run.specs.Replies.{Known, known_by}
use Rattle.sq_run.specs.Serving.{Paired, Moves, ServesBy, ServesOver}

Paired-more : {A B : Type 0} (R : A → B → Type 0) (xs : List A) (ys : List B) (x : A) (y : B) → Paired R xs ys → R x y → Paired R (xs ++ x ∷ []) (ys ++ y ∷ [])
Paired-more R [] [] x y all one = (one, tt)
Paired-more R [] (v ∷ vs) x y all one = absurd all
Paired-more R (u ∷ us) [] x y all one = absurd all
Paired-more R (u ∷ us) (v ∷ vs) x y all one = (all.0, Paired-more R us vs x y all.1 one)

module _ {A B : Type 0} (R : A → B → Type 0) where
  pub Moves-none : (waiting : Option (List A)) (ended : Option (List B)) → Moves R 0 waiting waiting ended ended
  Moves-none None ended = tt
  Moves-none (Some all) None = tt
  Moves-none (Some all) (Some ends) = ([], [], refl, sym (append-nil ends), tt, refl)

  pub Moves-more : (n : ℕ) (first mid last : Option (List A)) (before between after : Option (List B)) (x : A) (y : B) → Moves R n first mid before between
      → TakesFirst mid last x → Gains between after y → R x y → Moves R (n + 1) first last before after
  Moves-more n None mid last before between after x y moves takes gains one = tt
  Moves-more n (Some all) None last before between after x y moves takes gains one = absurd moves
  Moves-more n (Some all) (Some rest) None before between after x y moves takes gains one = absurd takes
  Moves-more n (Some all) (Some rest) (Some left) None between after x y moves takes gains one = tt
  Moves-more n (Some all) (Some rest) (Some left) (Some olds) None after x y moves takes gains one = absurd moves
  Moves-more n (Some all) (Some rest) (Some left) (Some olds) (Some ends) None x y moves takes gains one = absurd gains
  Moves-more n (Some all) (Some rest) (Some left) (Some olds) (Some ends) (Some more) x y moves takes gains one = (
    moves.0 ++ x ∷ [],
    moves.1 ++ y ∷ [],
    moves.2 ∙ ap (λ t. moves.0 ++ t) takes ∙ sym (append_assoc moves.0 (x ∷ []) left),
    gains ∙ ap (λ t. t ++ y ∷ []) moves.3 ∙ append_assoc olds moves.1 (y ∷ []),
    Paired-more R moves.0 moves.1 x y moves.4 one,
    omega (arith, length-append moves.0 (x ∷ []), moves.5),
  )

pub served_over : {E : Type 0} (meaning : Ghosts E) (said_of : Corpus → Says) (engine : E) (left : Option (List ℕ)) (Served : Known → ℕ → Type 0) (count status : ℕ)
    → IsLoaded meaning said_of left (Ok engine) → ServesBy (Served (known_by meaning engine)) count status
    → ServesOver said_of left (Some (Serving count)) Served status
served_over meaning said_of engine None Served count status loaded served = tt
served_over meaning said_of engine (Some bytes) Served count status loaded served =
    λ done. (loaded.1.0, loaded.1.1, subst (λ known. ServesBy (Served known) count status) loaded.1.2 served)
