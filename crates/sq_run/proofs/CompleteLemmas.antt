-- Nothing is refused of what is good.
use Rattle.std.proofs.Common.{◌≡◌, ℕ, ℤ, ◌≤◌, true, List, [], ◌∷◌, length, is_some, refl, ap, arith}
use Rattle.std.specs.Prelude.{nat_le}
use Rattle.std.proofs.lemmas.Bool.Decides.{nat_tests}
use Rattle.sq_base.specs.Limits.{most_corpus_bytes, most_packet_bytes}
use Rattle.sq_model.specs.declared.corpus.Caller.{Caller}
use Rattle.sq_model.specs.declared.corpus.Corpus.{Corpus}
use Rattle.sq_packet.specs.declared.request.Direction.{Direction}
use Rattle.sq_packet.specs.declared.request.Request.{Request}
use Rattle.sq_response.specs.declared.response.Found.{Found}
use Rattle.sq_engine.specs.Answer.{SortKey}
use Rattle.sq_engine.specs.Query.{Query, lowered_of}
use Rattle.sq_engine.specs.Verdict.{verdict, knows, said, unless_empty}
use Rattle.sq_run.specs.Complete.{IsGood, PacketsAreAnswered, TextsAreAnswered, TextsAreLowered, RequestsAreAnswered, answer_of}
use Rattle.sq_run.specs.Desk.{desk_response, response_of}
use Rattle.sq_run.specs.Output.{order_outcome, loaded}
use Rattle.sq_run.specs.Replies.{answer_outcome, packet_outcome, status_of, work_outcome}

short_corpus : (n : ℕ) → n ≤ most_corpus_bytes → nat_le n most_corpus_bytes ≡ true
short_corpus n h = grind (arith, nat_tests)

short_packet : (n : ℕ) → n ≤ most_packet_bytes → nat_le n most_packet_bytes ≡ true
short_packet n h = grind (arith, nat_tests)

module _ {corpus : Corpus} {moment : ℤ} {name : List ℕ} {request : Request} {caller : Caller} {query : Query} {sorts : List (SortKey × Direction)}
    (good : IsGood corpus moment name request caller query sorts) where
  said_good : verdict corpus name moment request ≡ answer_of corpus caller request query sorts
  unfolding said
  said_good = rw (good.known, good.text, good.refiners, good.keys) refl

  known_good : knows corpus name ≡ true
  known_good = ap is_some good.known

answered_response : {A : Type 0} (xs : List A) (found : Found) → status_of (response_of (unless_empty xs found)) ≡ 0
answered_response [] found = refl
answered_response (x ∷ xs) found = refl

answered_outcome : {A : Type 0} (xs : List A) (found : Found) → (answer_outcome (unless_empty xs found)).status ≡ 0
answered_outcome [] found = refl
answered_outcome (x ∷ xs) found = refl

pub packets_answered : PacketsAreAnswered
unfolding order_outcome loaded work_outcome packet_outcome desk_response
packets_answered bytes corpus body moment name request caller query sorts spells few read good =
    rw (short_corpus (length bytes) spells.0, spells.1, short_packet (length body) few, known_good good, read, said_good good, answered_response _ _) refl

pub texts_answered : TextsAreAnswered
unfolding order_outcome loaded work_outcome
texts_answered bytes corpus moment name word text language caller query spells named good =
    (rw (named, short_corpus (length bytes) spells.0, spells.1, said_good good) refl, answered_outcome _ _)

pub texts_lowered : TextsAreLowered
unfolding order_outcome loaded work_outcome lowered_of
texts_lowered bytes corpus moment text tree spells typed = rw (short_corpus (length bytes) spells.0, spells.1, typed) refl

pub requests_answered : RequestsAreAnswered
unfolding desk_response
requests_answered corpus body moment closing name request caller query sorts read good = rw (known_good good, read, said_good good) refl
