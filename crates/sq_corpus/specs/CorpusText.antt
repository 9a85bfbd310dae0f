-- Corpus texts. Each line ends with LF, and its fields are separated by one TAB. The first line is `SQCORPUS 1`. Then come the
-- properties, the callers and the items, each item with its allow line, its deny line and its values.
use Rattle.std.specs.Prelude.{ℕ, ◌+◌, Bool, true, false, if◌then◌else◌, List, [], ◌∷◌, None, Result, Ok, Err}
use Rattle.std.specs.Str.{is_utf8}
use Rattle.sq_model.specs.declared.corpus.Corpus.{Corpus}
use Rattle.sq_corpus.specs.declared.before.Before.{Before}
use Rattle.sq_corpus.specs.declared.before.Stage.{Stage}
use Rattle.sq_corpus.specs.declared.before.Stage.TheVariants.{Start, InProperties, InCallers, BeforeAllow, BeforeDeny, InValues}
use Rattle.sq_corpus.specs.Lines.{with_line, items_of}
use Rattle.sq_corpus.specs.Pieces.{lines_of}

-- the code of a faulty line, and its number from 1
pub record LineFault : Type 0 where
  pub code : ℕ
  pub line : ℕ

abbrev pub faulty : ℕ → ℕ → Result Corpus LineFault
faulty code line = Err (record { code = code; line = line })

abbrev pub nothing_before : Before
nothing_before = record { stage = Start; rows = []; callers = []; items = []; item = None }

-- no line is missing where the text ends
abbrev pub may_end : Stage → Bool
may_end Start = false
may_end InProperties = true
may_end InCallers = true
may_end BeforeAllow = false
may_end BeforeDeny = false
may_end InValues = true

abbrev pub corpus_after : Before → Corpus
corpus_after before = record { schema = before.rows; callers = before.callers; items = items_of before }

abbrev pub code_of_rest : List ℕ → ℕ
code_of_rest rest = if is_utf8 rest then 602 else 601

-- the text ends with what stands behind its last LF; anything there is a line without its LF
unfoldable pub at_end : ℕ → Before → List ℕ → Result Corpus LineFault
at_end line before [] = if may_end before.stage then Ok (corpus_after before) else faulty 602 line
at_end line before (byte ∷ bytes) = faulty (code_of_rest (byte ∷ bytes)) line

-- the lines from this one on, of which the first has this number
abbrev pub corpus_from : ℕ → Before → List (List ℕ) → Result Corpus LineFault
corpus_from number before [] = faulty 602 number
corpus_from number before (rest ∷ []) = at_end number before rest
corpus_from number before (line ∷ (next ∷ rest)) =
    elim (with_line before line) [ Ok after ↦ corpus_from (number + 1) after (next ∷ rest) | Err code ↦ faulty code number ]

-- the corpus that a text spells, or its first faulty line with the lowest code there
unfoldable pub corpus_of : List ℕ → Result Corpus LineFault
corpus_of bytes = corpus_from 1 nothing_before (lines_of bytes)
