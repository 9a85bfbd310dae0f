-- The text that is written of a corpus is read back.
use Rattle.std.proofs.Common.{◌≡◌, ℕ, ◌+◌, true, cond, List, [], ◌++◌, append-nil, ap, sym, ◌∙◌, arith, None, Ok}
use Rattle.std.specs.Prelude.{codes}
use Rattle.std.specs.List.{flat_map}
use Rattle.sq_schema.specs.Laws.{NamesFindRows, NumbersReadBack, MomentsAreWritten, MomentsReadBack}
use Rattle.sq_corpus.specs.declared.before.Before.{Before}
use Rattle.sq_corpus.specs.declared.before.Stage.TheVariants.{InProperties}
use Rattle.sq_corpus.specs.CorpusText.{nothing_before, may_end, corpus_after, faulty, at_end, corpus_from, corpus_of}
use Rattle.sq_corpus.specs.Laws.{WrittenTextsReadBack}
use Rattle.sq_corpus.specs.Pieces.{lines_of}
use Rattle.sq_corpus.specs.Written.{line, property_line, caller_line, item_text, corpus_text}
use Rattle.sq_corpus.proofs.LeadLemmas.{Leads, leads_then, state}
use Rattle.sq_corpus.proofs.RowLemmas.{heading_leads, rows_lead, opens_properties, callers_lead}
use Rattle.sq_corpus.proofs.ItemLemmas.{items_lead}

ends_there : (number : ℕ) (before : Before) → may_end before.stage ≡ true → corpus_from number before (lines_of []) ≡ Ok (corpus_after before)
unfolding at_end
ends_there number before ends = ap (λ t. cond t (Ok (corpus_after before)) (faulty 602 number)) ends

-- the text leads to the end
whole_text : (text : List ℕ) (after : Before) → Leads nothing_before text after → may_end after.stage ≡ true → corpus_of text ≡ Ok (corpus_after after)
unfolding corpus_of
whole_text text after leads ends =
    ap (λ t. corpus_from 1 nothing_before (lines_of t)) (sym (append-nil text))
    ∙ leads.reads 1 []
    ∙ ends_there (1 + leads.lines) after ends

pub read_back : NamesFindRows → NumbersReadBack → MomentsAreWritten → MomentsReadBack → WrittenTextsReadBack
read_back names numbers texts moments corpus valid =
    let rows = corpus.schema in
    let callers_text : List ℕ = flat_map caller_line corpus.callers in
    let items_text : List ℕ = flat_map (item_text rows) corpus.items in
    let begun : Before = state InProperties [] [] [] None in
    let listed : Before = state InProperties rows [] [] None in
    let callers = callers_lead InProperties rows [] corpus.callers opens_properties valid.callers valid.names valid.few_callers in
    let known : Before = state callers.last rows corpus.callers [] None in
    let items = items_lead names numbers texts moments rows corpus.callers valid.schema callers.last [] None corpus.items callers.opens.item callers.opens.ends
    valid.items valid.numbers (omega (arith, valid.few_items)) in
    let after : Before = state items.stage_then rows corpus.callers items.items_then items.last_then in
    whole_text (corpus_text corpus) after
    (leads_then nothing_before begun after (line (codes "SQCORPUS 1") []) (flat_map property_line rows ++ (callers_text ++ items_text)) heading_leads
    (leads_then begun listed after (flat_map property_line rows) (callers_text ++ items_text) (rows_lead [] rows valid.schema)
    (leads_then listed known after callers_text items_text callers.leads items.leads)))
    items.ends
    ∙ ap (λ all. Ok (record { schema = rows; callers = corpus.callers; items = all })) items.are
