-- Whoever is known and asks what nothing is refused of is answered.
use Rattle.std.specs.Prelude.{◌≡◌, ℕ, ℤ, ◌≤◌, Bool, List, [], ◌∷◌, ◌++◌, length, codes, Some, None, Ok}
use Rattle.std.specs.List.{find}
use Rattle.sq_base.specs.Limits.{most_corpus_bytes, most_packet_bytes}
use Rattle.sq_schema.specs.Intervals.{clamped}
use Rattle.sq_model.specs.declared.corpus.Caller.{Caller}
use Rattle.sq_model.specs.declared.corpus.Corpus.{Corpus}
use Rattle.sq_model.specs.declared.kql.Joiner.TheVariants as joiner
use Rattle.sq_model.specs.declared.kql.KTree.{KTree}
use Rattle.sq_model.specs.Access.{view}
use Rattle.sq_corpus.specs.CorpusText.{corpus_of}
use Rattle.sq_fql.specs.Canon.{canon}
use Rattle.sq_lower.specs.Lowered.{lowered}
use Rattle.sq_packet.specs.declared.request.Direction.{Direction}
use Rattle.sq_packet.specs.declared.request.Language.{Language}
use Rattle.sq_packet.specs.declared.request.Request.{Request}
use Rattle.sq_packet.specs.Packet.{packet_of}
use Rattle.sq_response.specs.Response.{response_text}
use Rattle.sq_http.specs.Owed.{Asking}
use Rattle.sq_http.specs.Replies.{text_of, reply_text}
use Rattle.sq_engine.specs.Answer.{Meaning, SortKey, hits, found_of}
use Rattle.sq_engine.specs.Query.{Query, query_of, kql_typed, joiner_of, holds, boost}
use Rattle.sq_engine.specs.Verdict.{Verdict, is_named, verdict, is_refinable, first_without, sort_keys, unless_empty}
use Rattle.sq_run.specs.Command.{language_of}
use Rattle.sq_run.specs.Desk.{response_of}
use Rattle.sq_run.specs.Output.{output}
use Rattle.sq_run.specs.Replies.{known_of, request_of, answer_outcome}
use Rattle.sq_run.specs.Serving.{known_reply}

-- what a request's text means that was read as this query
abbrev pub meaning_as : Corpus → Request → Query → Meaning
meaning_as corpus request query = record {
  holds = holds corpus.schema (joiner_of request) query;
  boost = boost corpus.schema (joiner_of request) query;
}

-- The answer that is defined for a caller with this row, by the query and the keys of the sorts.
abbrev pub answer_of : Corpus → Caller → Request → Query → List (SortKey × Direction) → Verdict
answer_of corpus caller request query sorts =
    unless_empty (hits (meaning_as corpus request query) (view corpus caller.claims))
    (found_of corpus.schema (meaning_as corpus request query) sorts request (hits (meaning_as corpus request query) (view corpus caller.claims)))

-- Nothing of the request is refused: the caller is known, the text has no fault, each refiner may be counted, and each sort has a key.
pub record IsGood (corpus : Corpus) (moment : ℤ) (name : List ℕ) (request : Request) (caller : Caller) (query : Query) (sorts : List (SortKey × Direction)) : Type 0 where
  pub known : find (is_named name) corpus.callers ≡ Some caller
  pub text : query_of corpus.schema moment request.language request.text ≡ Ok query
  pub refiners : first_without (is_refinable corpus.schema) 0 request.refiners ≡ None
  pub keys : sort_keys corpus.schema 0 request.sorts ≡ Ok sorts

-- the bytes spell the corpus, and are not too many
abbrev pub Spells : List ℕ → Corpus → Type 0
Spells bytes corpus = (length bytes ≤ most_corpus_bytes) × (corpus_of bytes ≡ Ok corpus)

-- a packet is answered with status 0
abbrev pub PacketsAreAnswered : Type 0
PacketsAreAnswered = (bytes : List ℕ) (corpus : Corpus) (body : List ℕ) (moment : ℤ) (name : List ℕ) (request : Request) (caller : Caller) (query : Query)
    (sorts : List (SortKey × Direction)) → Spells bytes corpus → length body ≤ most_packet_bytes → packet_of body ≡ Ok request
    → IsGood corpus (clamped moment) name request caller query sorts
    → output verdict (codes "packet" ∷ (name ∷ [])) moment (Some bytes) (Some body)
    ≡ Some (record { status = 0; text = response_text (response_of (answer_of corpus caller request query sorts)) })

-- a text of either language is answered with status 0
abbrev pub TextsAreAnswered : Type 0
TextsAreAnswered = (bytes : List ℕ) (corpus : Corpus) (moment : ℤ) (name word text : List ℕ) (language : Language) (caller : Caller) (query : Query)
    → Spells bytes corpus → language_of word ≡ Some language → IsGood corpus (clamped moment) name (request_of language text) caller query []
    → (output verdict (codes "ask" ∷ (name ∷ (word ∷ (text ∷ [])))) moment (Some bytes) None
    ≡ Some (answer_outcome (answer_of corpus caller (request_of language text) query [])))
    × ((answer_outcome (answer_of corpus caller (request_of language text) query [])).status ≡ 0)

-- and a KQL text is lowered with status 0
abbrev pub TextsAreLowered : Type 0
TextsAreLowered = (bytes : List ℕ) (corpus : Corpus) (moment : ℤ) (text : List ℕ) (tree : KTree) → Spells bytes corpus
    → kql_typed corpus.schema (clamped moment) text ≡ Ok tree
    → output verdict (codes "lower" ∷ (text ∷ [])) moment (Some bytes) None
    ≡ Some (record { status = 0; text = canon (lowered corpus.schema joiner.All tree) ++ 10 ∷ [] })

-- On a connection such a packet, in a request that nothing else is refused of, has the reply 200 with its answer.
abbrev pub RequestsAreAnswered : Type 0
RequestsAreAnswered = (corpus : Corpus) (body : List ℕ) (moment : ℤ) (closing : Bool) (name : List ℕ) (request : Request) (caller : Caller) (query : Query)
    (sorts : List (SortKey × Direction)) → packet_of body ≡ Ok request → IsGood corpus (clamped moment) name request caller query sorts
    → text_of (known_reply (known_of verdict corpus) moment) (Asking name body closing)
    ≡ reply_text 200 closing (response_text (response_of (answer_of corpus caller request query sorts)))
