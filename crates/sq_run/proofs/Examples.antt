-- Words and what they write, by evaluation.
use Rattle.std.proofs.Common.{◌≡◌, ℕ, pos, List, [], ◌∷◌, Some, None, refl}
use Rattle.std.specs.Prelude.{codes}
use Rattle.std.specs.Fmt.{digits}
use Rattle.sq_model.specs.declared.corpus.Corpus.{Corpus}
use Rattle.sq_packet.specs.declared.request.Language.TheVariants.{Kql}
use Rattle.sq_engine.specs.Verdict.{Says, Nothing, NoSort}
use Rattle.std.specs.Str.{is_utf8, chars}
use lib.Utf8.{encode}
use Rattle.sq_base.specs.Xml.{is_xml_char}
use Rattle.sq_corpus.specs.CorpusText.{at_end, corpus_of}
use Rattle.sq_corpus.specs.Lines.{with_known, with_fields, with_line}
use Rattle.sq_corpus.specs.Words.{line_kind}
use Rattle.sq_rehearsal.specs.Questions.{questions, questions_of}
use Rattle.sq_run.specs.Command.{Working, Serving, Asking, order_of}
use Rattle.sq_run.specs.Output.{output, order_outcome, loaded}
use Rattle.sq_run.specs.Replies.{work_outcome}
use Rattle.sq_run.specs.Rehearsing.{question_line}

-- says that there is no hit
abbrev nothing_said : Corpus → Says
nothing_said corpus name moment request = Nothing

twelve_served : order_of (codes "serve" ∷ (codes "12" ∷ [])) ≡ Some (Serving 12)
twelve_served = refl

as_many_as_may_be : order_of (codes "serve" ∷ (codes "1000000" ∷ [])) ≡ Some (Serving 1_000_000)
as_many_as_may_be = refl

one_too_many : order_of (codes "serve" ∷ (codes "1000001" ∷ [])) ≡ None
one_too_many = refl

none_served : order_of (codes "serve" ∷ (codes "0" ∷ [])) ≡ None
none_served = refl

no_leading_zero : order_of (codes "rehearse" ∷ (codes "07" ∷ [])) ≡ None
no_leading_zero = refl

no_sign : order_of (codes "rehearse" ∷ (codes "+7" ∷ [])) ≡ None
no_sign = refl

no_order : order_of (codes "ask" ∷ (codes "Ann" ∷ [])) ≡ None
no_order = refl

asked : order_of (codes "ask" ∷ (codes "Ann" ∷ (codes "kql" ∷ (codes "debt" ∷ [])))) ≡ Some (Working (Asking (codes "Ann") Kql (codes "debt")))
asked = refl

-- a rehearsal reads nothing, and writes twelve lines
rehearsed : output nothing_said (codes "rehearse" ∷ (codes "7" ∷ [])) (pos 0) None None ≡ Some (record {
  status = 0;
  text = codes "reader 1 total 0\nreader 2 total 0\nreader 3 total 0\nreader 4 total 0\nreader 5 total 0\nreader 6 total 0\nchief 1 total 0\nchief 2 total 0\nchief 3 total 0\nchief 4 total 0\nchief 5 total 0\nchief 6 total 0\n";
})
unfolding order_outcome question_line questions questions_of digits
rehearsed = refl

-- words that are no command need no corpus
no_command : output nothing_said [] (pos 0) None None ≡ Some (record { status = 2; text = [] })
no_command = refl

-- the corpus without properties, callers and items
abbrev smallest : List ℕ
smallest = codes "SQCORPUS 1\n"

checked : output nothing_said (codes "check" ∷ []) (pos 0) (Some smallest) None ≡ Some (record { status = 0; text = codes "ok 0 properties 0 callers 0 items\n" })
unfolding order_outcome loaded work_outcome digits corpus_of at_end with_line with_fields with_known line_kind is_utf8 chars is_xml_char encode
checked = refl

-- the sort of number 3, counted from 0, goes by nothing
refused : output (λ corpus name moment request. NoSort 3) (codes "ask" ∷ (codes "Ann" ∷ (codes "fql" ∷ (codes "x" ∷ [])))) (pos 0) (Some smallest) None
    ≡ Some (record { status = 1; text = codes "fault 516 at 3\n" })
unfolding order_outcome loaded work_outcome digits corpus_of at_end with_line with_fields with_known line_kind is_utf8 chars is_xml_char encode
refused = refl

served : output nothing_said (codes "serve" ∷ (codes "1" ∷ [])) (pos 0) (Some smallest) None ≡ Some (record { status = 0; text = [] })
unfolding order_outcome loaded corpus_of at_end with_line with_fields with_known line_kind is_utf8 chars is_xml_char encode
served = refl

no_corpus : output nothing_said (codes "packet" ∷ (codes "Ann" ∷ [])) (pos 0) (Some []) None ≡ Some (record { status = 3; text = codes "corpus fault 602 line 1\n" })
unfolding order_outcome loaded digits corpus_of at_end
no_corpus = refl

-- nothing is said where the bytes aren't told
untold : output nothing_said (codes "check" ∷ []) (pos 0) None None ≡ None
unfolding order_outcome loaded
untold = refl
