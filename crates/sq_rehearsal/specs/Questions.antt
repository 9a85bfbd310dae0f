-- What is asked in a rehearsal: six queries, first by the reader and then by the chief, each for the first 500 hits.
use Rattle.std.specs.Prelude.{ℕ, true, List, [], ◌∷◌, ◌++◌, codes}
use Rattle.sq_packet.specs.declared.request.Language.{Language}
use Rattle.sq_packet.specs.declared.request.Language.TheVariants.{Kql, Fql}
use Rattle.sq_packet.specs.declared.request.Request.{Request}
use Rattle.sq_packet.specs.Limits.{most_hits}
use Rattle.sq_rehearsal.specs.declared.asking.Question.{Question}

-- a query by itself: no properties are shown, nothing is refined or sorted, and loose operands must all hold
abbrev pub request : Language → List ℕ → Request
request language text = record {
  language = language;
  text = text;
  start = 1;
  count = most_hits;
  properties = [];
  refiners = [];
  sorts = [];
  implicit_and = true;
}

abbrev pub question : List ℕ → ℕ → Language → List ℕ → Question
question caller number language text = record { caller = caller; number = number; request = request language text }

-- the six questions of one caller
unfoldable pub questions_of : List ℕ → List Question
questions_of caller = question caller 1 Kql (codes "w1")
    ∷ (question caller 2 Kql (codes "w1 NEAR(n=3) w2")
    ∷ (question caller 3 Kql (codes "w1 ONEAR(n=3) w2")
    ∷ (question caller 4 Fql (codes "near(or(\"w2 w1\",w3),w10,N=1)")
    ∷ (question caller 5 Kql (codes "size<4 -w5")
    ∷ (question caller 6 Kql (codes "w* XRANK(cb=50) w9") ∷ [])))))

-- all twelve, in the order in which they are asked
unfoldable pub questions : List Question
questions = questions_of (codes "reader") ++ questions_of (codes "chief")
