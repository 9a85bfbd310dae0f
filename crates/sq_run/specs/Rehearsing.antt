-- What a rehearsal writes: a line for each question that its corpus is asked.
use Rattle.std.specs.Prelude.{◌≡◌, ℕ, ℤ, List, [], ◌∷◌, ◌++◌, flat_map, codes, Result}
use Rattle.std.specs.Fmt.{decimal, signed_decimal}
use Rattle.sq_response.specs.declared.response.Hit.{Hit}
use Rattle.sq_response.specs.declared.response.Response.{Response}
use Rattle.sq_engine.specs.Verdict.{Verdict, Unknown, Faulty, NoRefiner, NoSort, Nothing, Shows, Says}
use Rattle.sq_schema.specs.Intervals.{clamped}
use Rattle.sq_model.specs.declared.corpus.Corpus.{Corpus}
use Rattle.sq_engine.specs.declared.refused.Refused.{Refused}
use Rattle.sq_engine.specs.Answers.{Answers}
use Rattle.sq_rehearsal.specs.declared.asking.Question.{Question}
use Rattle.sq_rehearsal.specs.Questions.{questions}
use Rattle.sq_rehearsal.specs.Rehearsal.{rehearsal}
use Rattle.sq_run.specs.Replies.{Printed}

abbrev pub no_hit : List ℕ
no_hit = codes "0\n"

abbrev pub first_hit : ℕ → List Hit → List ℕ
first_hit total [] = no_hit
first_hit total (hit ∷ hits) = decimal total ++ (codes " first " ++ (decimal hit.number ++ (codes " score " ++ (signed_decimal hit.score ++ 10 ∷ []))))

-- how many hits there are, and the first one that is listed; 0 where none is listed
abbrev pub hits_told : Verdict → List ℕ
hits_told Unknown = no_hit
hits_told (Faulty refused) = no_hit
hits_told (NoRefiner i) = no_hit
hits_told (NoSort i) = no_hit
hits_told Nothing = no_hit
hits_told (Shows found) = first_hit found.total found.hits

-- the line of a question: who asks, the question's number, and the hits
unfoldable pub question_line : Says → ℤ → Question → List ℕ
question_line says moment question =
    question.caller ++ (codes " " ++ (decimal question.number ++ (codes " total " ++ hits_told (says question.caller moment question.request))))

abbrev pub rehearsed_lines : Says → ℤ → List ℕ
rehearsed_lines says moment = flat_map (question_line says moment) questions

-- the twelve lines, by what is said of each corpus
abbrev pub rehearsal_outcome : (Corpus → Says) → ℤ → ℕ → Printed
rehearsal_outcome said_of moment count = record { status = 0; text = rehearsed_lines (said_of (rehearsal count)) (clamped moment) }

-- the text tells the hits of whatever verdict was answered
abbrev pub TellsHits : Result Response Refused → List ℕ → Type 0
TellsHits answered text = (verdict : Verdict) → Answers verdict answered → text ≡ hits_told verdict
