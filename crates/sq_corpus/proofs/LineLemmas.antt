-- How the corpus of a text follows from its lines, one after another.
use Rattle.std.proofs.Common.{◌≡◌, ℕ, ◌+◌, ◌<◌, length, arith, Bool, true, false, cond, ◌==◌, List, [], ◌∷◌, Result, Ok, Err, refl, ap, sym, ◌∙◌, IsUtf8}
use Rattle.std.specs.Str.{is_utf8}
use Rattle.std.proofs.lemmas.Str.{IsUtf8-from_is_utf8, is_utf8-from_IsUtf8}
use Rattle.std.proofs.lemmas.Bool.{false_from_ne_true}
use Rattle.sq_model.specs.declared.corpus.Corpus.{Corpus}
use Rattle.sq_corpus.specs.declared.before.Before.{Before}
use Rattle.sq_corpus.specs.CorpusText.{LineFault, faulty, may_end, corpus_after, code_of_rest, at_end, corpus_from}
use Rattle.sq_corpus.specs.declared.fault.Refusal.{Refusal}
use Rattle.sq_corpus.specs.declared.fault.Refusal.TheVariants.{Code, Memory}
use Rattle.sq_corpus.specs.Lines.{with_line, with_text}
use Rattle.sq_corpus.specs.Reads.{IsAnswer, Takes, fault_at}
use Rattle.sq_corpus.specs.Pieces.{onto_first, pieces, lines_of}

pub utf8_test : (text : List ℕ) → IsUtf8 text → is_utf8 text ≡ true
utf8_test text utf8 = is_utf8-from_IsUtf8 text utf8

pub is_utf8-false : (line : List ℕ) → ¬ (IsUtf8 line) → is_utf8 line ≡ false
is_utf8-false line bad = false_from_ne_true (is_utf8 line) (λ t. bad (IsUtf8-from_is_utf8 line t))

pub with_line-text : (before : Before) (line : List ℕ) → IsUtf8 line → with_line before line ≡ with_text before line
unfolding with_line
with_line-text before line utf8 =
    let test = is_utf8-from_IsUtf8 line utf8 in
    ap (λ t. cond t (with_text before line) (Err 601)) test

pub with_line-bad : (before : Before) (line : List ℕ) → ¬ (IsUtf8 line) → with_line before line ≡ Err 601
unfolding with_line
with_line-bad before line bad = ap (λ t. cond t (with_text before line) (Err 601)) (is_utf8-false line bad)

-- a text has a first piece
pub record Begins (lines : List (List ℕ)) : Type 0 where
  pub first : List ℕ
  pub rest : List (List ℕ)
  pub is : lines ≡ first ∷ rest

begins_onto : (byte : ℕ) (lines : List (List ℕ)) → Begins (onto_first byte lines)
begins_onto byte [] = record { first = byte ∷ []; rest = []; is = refl }
begins_onto byte (line ∷ lines) = record { first = byte ∷ line; rest = lines; is = refl }

begins_at : (t : Bool) (lines others : List (List ℕ)) → Begins others → Begins (cond t ([] ∷ lines) others)
begins_at true lines others begins = record { first = []; rest = lines; is = refl }
begins_at false lines others begins = begins

pub begins_pieces : (separator : ℕ) (bytes : List ℕ) → Begins (pieces separator bytes)
begins_pieces separator [] = record { first = []; rest = []; is = refl }
begins_pieces separator (byte ∷ bytes) = begins_at (byte == separator) (pieces separator bytes) _ (begins_onto byte (pieces separator bytes))

-- what a line makes of the lines behind it
abbrev pub after_line : ℕ → List (List ℕ) → Result Before ℕ → Result Corpus LineFault
after_line number lines (Ok after) = corpus_from (number + 1) after lines
after_line number lines (Err code) = faulty code number

pub from_cons : (number : ℕ) (before : Before) (line : List ℕ) (lines : List (List ℕ)) → Begins lines
    → corpus_from number before (line ∷ lines) ≡ after_line number lines (with_line before line)
from_cons number before line [] begins = cc
from_cons number before line (next ∷ rest) begins = refl

-- The first line is cut off the lines that are left.
module _ (number : ℕ) (before : Before) (line behind : List ℕ) (whole : Result Corpus LineFault) (all : List (List ℕ))
    (cut : all ≡ line ∷ lines_of behind) (kept : corpus_from number before all ≡ whole) where
  opened : after_line number (lines_of behind) (with_line before line) ≡ whole
  opened = sym (from_cons number before line (lines_of behind) (begins_pieces 10 behind)) ∙ (rw cut at kept)

  pub step-taken : (after : Before) → with_line before line ≡ Ok after → corpus_from (number + 1) after (lines_of behind) ≡ whole
  step-taken after taken = sym (ap (after_line number (lines_of behind)) taken) ∙ opened

  pub step-refused : (after : Before) (refusal : Refusal) → Takes (with_line before line) after (Err refusal) → IsAnswer whole (Err (fault_at refusal number))
  step-refused after (Code code) refused = sym opened ∙ ap (after_line number (lines_of behind)) refused
  step-refused after Memory refused = tt

-- nothing but the rest behind the last line is left
pub step-end : (number : ℕ) (before : Before) (rest : List ℕ) (whole : Result Corpus LineFault)
    → lines_of rest ≡ rest ∷ [] → corpus_from number before (lines_of rest) ≡ whole → at_end number before rest ≡ whole
step-end number before rest whole last kept = rw last at kept

pub at_end-whole : (line : ℕ) (before : Before) (rest : List ℕ) → length rest ≡ 0 → may_end before.stage ≡ true
    → at_end line before rest ≡ Ok (corpus_after before)
unfolding at_end
at_end-whole line before [] none ended = ap (λ t. cond t (Ok (corpus_after before)) (faulty 602 line)) ended
at_end-whole line before (byte ∷ rest) none ended = absurd (omega arith)

pub at_end-missing : (line : ℕ) (before : Before) (rest : List ℕ) → length rest ≡ 0 → may_end before.stage ≡ false
    → at_end line before rest ≡ faulty 602 line
unfolding at_end
at_end-missing line before [] none ended = ap (λ t. cond t (Ok (corpus_after before)) (faulty 602 line)) ended
at_end-missing line before (byte ∷ rest) none ended = absurd (omega arith)

pub at_end-rest : (line : ℕ) (before : Before) (rest : List ℕ) → 0 < length rest → at_end line before rest ≡ faulty (code_of_rest rest) line
unfolding at_end
at_end-rest line before [] some = absurd (omega arith)
at_end-rest line before (byte ∷ rest) some = refl
