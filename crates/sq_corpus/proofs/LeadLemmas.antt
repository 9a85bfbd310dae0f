-- Where the lines of a written text lead, one after another.
use Rattle.std.proofs.Common.{◌≡◌, ℕ, ◌+◌, ◌<◌, nat_le, nat_lt, Bool, true, false, cond, ◌&&◌, List, [], ◌∷◌, ◌++◌, append_assoc, refl, ap, sym, subst, ◌∙◌, arith, Option, Ok, Err}
use Rattle.std.specs.List.{AllByRecursion}
use Rattle.std.proofs.lemmas.Bool.Decides.{nat_tests}
use Rattle.sq_base.specs.Xml.{is_xml_text}
use Rattle.sq_schema.specs.declared.property.Property.{Property}
use Rattle.sq_model.specs.declared.corpus.Caller.{Caller}
use Rattle.sq_model.specs.declared.corpus.Item.{Item}
use Rattle.sq_corpus.specs.declared.before.Before.{Before}
use Rattle.sq_corpus.specs.declared.before.Stage.{Stage}
use Rattle.sq_corpus.specs.CorpusText.{corpus_from}
use Rattle.sq_corpus.specs.Lines.{with_fields, with_text, at_most_607, with_line}
use Rattle.sq_corpus.specs.Pieces.{fields_of, lines_of}
use Rattle.sq_corpus.specs.Written.{line}
use Rattle.sq_corpus.proofs.CleanLemmas.{left_true, right_true}
use Rattle.sq_corpus.proofs.LineLemmas.{after_line, from_cons, begins_pieces}
use Rattle.sq_corpus.proofs.PlainLemmas.{in_line, in_field, Plain, spelt_nil, body, line_body, fields_of_body, spelt_body, spelt_utf8, line_xml_text, line_ends, pieces_front}
use Rattle.sq_corpus.proofs.SpelledLemmas.{cons_visible}
use Rattle.sq_corpus.proofs.SoundLemmas.{by_le}

-- The text takes what stands before it to this.
pub record Leads (before : Before) (text : List ℕ) (after : Before) : Type 0 where
  pub lines : ℕ
  pub reads : (number : ℕ) (rest : List ℕ) → corpus_from number before (lines_of (text ++ rest)) ≡ corpus_from (number + lines) after (lines_of rest)

pub leads_nil : (before : Before) → Leads before [] before
leads_nil before = record {
  lines = 0;
  reads = λ number rest. let same : number ≡ number + 0 = omega arith in ap (λ n. corpus_from n before (lines_of rest)) same;
}

pub leads_then : (before middle after : Before) (a b : List ℕ) → Leads before a middle → Leads middle b after → Leads before (a ++ b) after
leads_then before middle after a b first second = record {
  lines = first.lines + second.lines;
  reads = λ number rest.
      let sum : (number + first.lines) + second.lines ≡ number + (first.lines + second.lines) = omega arith in
      ap (λ t. corpus_from number before (lines_of t)) (append_assoc a b rest)
      ∙ first.reads number (b ++ rest)
      ∙ second.reads (number + first.lines) rest
      ∙ ap (λ n. corpus_from n after (lines_of rest)) sum;
}

pub leads_along : (before after : Before) (text other : List ℕ) → other ≡ text → Leads before text after → Leads before other after
leads_along before after text other is leads = let P : List ℕ → Type 0 = λ t. Leads before t after in subst P (sym is) leads

pub leads_so : (before after other : Before) (text : List ℕ) → after ≡ other → Leads before text after → Leads before text other
leads_so before after other text is leads = let P : Before → Type 0 = λ b. Leads before text b in subst P is leads

read_text : (t : Bool) (before : Before) (text : List ℕ) → t ≡ true
    → cond t (with_fields before (fields_of text)) (at_most_607 (with_fields before (fields_of text))) ≡ with_fields before (fields_of text)
read_text true before text is = refl
read_text false before text is = cc

pub read_line : (before : Before) (word : List ℕ) (fields : List (List ℕ)) → Plain word → AllByRecursion Plain fields
    → with_line before (body word fields) ≡ with_fields before (word ∷ fields)
unfolding with_line
read_line before word fields plain others =
    let spelt = spelt_body word fields plain others in
    ap (λ t. cond t (with_text before (body word fields)) (Err 601)) (spelt_utf8 in_line (body word fields) spelt)
    ∙ read_text (is_xml_text (body word fields)) before (body word fields) (line_xml_text (body word fields) spelt)
    ∙ ap (with_fields before) (fields_of_body word fields plain others)

pub leads_line : (before : Before) (word : List ℕ) (fields : List (List ℕ)) (after : Before) → Plain word → AllByRecursion Plain fields
    → with_fields before (word ∷ fields) ≡ Ok after → Leads before (line word fields) after
leads_line before word fields after plain others taken = record {
  lines = 1;
  reads = λ number rest.
      let whole : line word fields ++ rest ≡ body word fields ++ 10 ∷ rest =
      ap (λ t. t ++ rest) (line_body word fields) ∙ append_assoc (body word fields) (10 ∷ []) rest in
      let cut : lines_of (body word fields ++ 10 ∷ rest) ≡ body word fields ∷ lines_of rest =
      pieces_front 10 (body word fields) rest (line_ends (body word fields) (spelt_body word fields plain others)) in
      ap (λ t. corpus_from number before (lines_of t)) whole
      ∙ ap (corpus_from number before) cut
      ∙ from_cons number before (body word fields) (lines_of rest) (begins_pieces 10 rest)
      ∙ ap (after_line number (lines_of rest)) (read_line before word fields plain others ∙ taken);
}

-- a word of visible ASCII characters, which a test finds
abbrev pub all_visible : List ℕ → Bool
all_visible [] = true
all_visible (c ∷ cs) = nat_le 32 c && nat_lt c 127 && all_visible cs

by_lt : (a b : ℕ) → nat_lt a b ≡ true → a < b
by_lt a b e = grind (arith, nat_tests, e)

pub word_plain : (word : List ℕ) → all_visible word ≡ true → Plain word
word_plain [] good = spelt_nil in_field
word_plain (c ∷ cs) good =
    let here : (nat_le 32 c && nat_lt c 127) ≡ true = left_true (nat_le 32 c && nat_lt c 127) (all_visible cs) good in
    cons_visible c cs (by_le 32 c (left_true (nat_le 32 c) (nat_lt c 127) here)) (by_lt c 127 (right_true (nat_le 32 c) (nat_lt c 127) here))
    (word_plain cs (right_true (nat_le 32 c && nat_lt c 127) (all_visible cs) good))

abbrev pub state : Stage → List Property → List Caller → List Item → Option Item → Before
state stage rows callers items item = record { stage = stage; rows = rows; callers = callers; items = items; item = item }
