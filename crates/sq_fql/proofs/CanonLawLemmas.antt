-- Canonical texts are read as their trees: by induction on the tree, from the end of its text to the front.
use Rattle.std.proofs.Common.{◌≡◌, ℕ, zero, suc, ◌+◌, ◌<◌, ◌≤◌, nat_lt, true, false, List, [], ◌∷◌, ◌++◌, length, drop, codes, Some, Result, Ok, Err, IfOk, refl, sym, ◌∙◌, ap, subst, arith, append_assoc, append-nil, length-append}
use Rattle.std.proofs.lemmas.Bool.Decides.{nat_tests}
use Rattle.sq_lex.specs.declared.fql_lexeme.FLexeme.{FLexeme}
use Rattle.sq_lex.specs.Bytes.{TextBytes}
use Rattle.sq_lex.specs.Fql.{fql_lexemes_of}
use Rattle.sq_lex.specs.Limits.{most_text_bytes, most_levels}
use Rattle.sq_fql.specs.declared.raw.FRaw.{FRaw, All, Literal, Scope', Apply', Row_of-FRaw, end_of-FRaw, more_of-FRaw}
use Rattle.sq_fql.specs.declared.raw.FRaw.TheVariants as tree
use Rattle.sq_fql.specs.declared.raw.Op.{Op}
use Rattle.sq_fql.specs.declared.raw.Op.TheVariants as op
use Rattle.sq_fql.specs.declared.operator.Operator.{Operator}
use Rattle.sq_fql.specs.declared.parameter.Given.{Given}
use Rattle.sq_fql.specs.Operators.{operator_of, operands_of}
use Rattle.sq_fql.specs.Parameters.{nothing_given}
use Rattle.sq_fql.specs.Canon.{canon, canon_each, listed, operator_word, parameters_text}
use Rattle.sq_fql.specs.Read.{read_of, whole_of}
use Rattle.sq_fql.specs.WellFormed.{IsName, HasForm, HaveForm, AreOperands, AreLiterals, IsWithinLimits, is_literal, operator_in}
use Rattle.sq_fql.specs.CanonLaw.{levels, levels_each, unplaced, unplaced_each, AreTexts, EachTexts, IsReadAs, ReadsBack, CanonReadsBack}
use Rattle.sq_fql.proofs.CanonLexLemmas.{Lexes, lexes_end, rest_behind, rest_behind_one}
use Rattle.sq_fql.proofs.CanonReadLemmas.{IsEnd, literal_reads}
use Rattle.sq_fql.proofs.CanonTreeLemmas.{ReadsTree, leaf_tree, star_tree, scope_tree, Closes, ReadsMore, list_reads, more_end, more_on, apply_tree}
use Rattle.sq_fql.proofs.CanonParameterLemmas.{parameters_read}

-- ---- the table of operators

operator_is : (o : Op) → operator_of (operator_word o) ≡ Some (operator_in o)
operator_is op.And = refl
operator_is op.Or = refl
operator_is op.Any = refl
operator_is op.AndNot = refl
operator_is op.Not = refl
operator_is (op.Near n) = refl
operator_is (op.Onear n) = refl
operator_is op.Words = refl
operator_is (op.Count from to) = refl
operator_is (op.Range above below) = refl
operator_is op.StartsWith = refl
operator_is op.EndsWith = refl
operator_is op.Equals = refl
operator_is op.Filter = refl
operator_is (op.Str m n) = refl
operator_is op.Int = refl
operator_is op.DateTime = refl
operator_is op.Phrase = refl
operator_is (op.Xrank cb) = refl

operator_name : (o : Op) → IsName (operator_word o)
operator_name op.And = record { letter = refl; word = refl }
operator_name op.Or = record { letter = refl; word = refl }
operator_name op.Any = record { letter = refl; word = refl }
operator_name op.AndNot = record { letter = refl; word = refl }
operator_name op.Not = record { letter = refl; word = refl }
operator_name (op.Near n) = record { letter = refl; word = refl }
operator_name (op.Onear n) = record { letter = refl; word = refl }
operator_name op.Words = record { letter = refl; word = refl }
operator_name (op.Count from to) = record { letter = refl; word = refl }
operator_name (op.Range above below) = record { letter = refl; word = refl }
operator_name op.StartsWith = record { letter = refl; word = refl }
operator_name op.EndsWith = record { letter = refl; word = refl }
operator_name op.Equals = record { letter = refl; word = refl }
operator_name op.Filter = record { letter = refl; word = refl }
operator_name (op.Str m n) = record { letter = refl; word = refl }
operator_name op.Int = record { letter = refl; word = refl }
operator_name op.DateTime = record { letter = refl; word = refl }
operator_name op.Phrase = record { letter = refl; word = refl }
operator_name (op.Xrank cb) = record { letter = refl; word = refl }

operator_some : (o : Op) → 0 < (operands_of (operator_in o)).least
operator_some op.And = omega arith
operator_some op.Or = omega arith
operator_some op.Any = omega arith
operator_some op.AndNot = omega arith
operator_some op.Not = omega arith
operator_some (op.Near n) = omega arith
operator_some (op.Onear n) = omega arith
operator_some op.Words = omega arith
operator_some (op.Count from to) = omega arith
operator_some (op.Range above below) = omega arith
operator_some op.StartsWith = omega arith
operator_some op.EndsWith = omega arith
operator_some op.Equals = omega arith
operator_some op.Filter = omega arith
operator_some (op.Str m n) = omega arith
operator_some op.Int = omega arith
operator_some op.DateTime = omega arith
operator_some op.Phrase = omega arith
operator_some (op.Xrank cb) = omega arith

-- ---- texts of trees

apply_split : (w x l p r : TextBytes) → w ++ codes "(" ++ (x ++ l) ++ p ++ codes ")" ++ r ≡ w ++ 40 ∷ (x ++ (l ++ (p ++ 41 ∷ r)))
apply_split w x l p r =
    append_assoc (w ++ codes "(" ++ (x ++ l) ++ p) (codes ")") r
    ∙ (append_assoc (w ++ codes "(" ++ (x ++ l)) p (41 ∷ r)
    ∙ (append_assoc (w ++ codes "(") (x ++ l) (p ++ 41 ∷ r)
    ∙ (append_assoc w (codes "(") ((x ++ l) ++ (p ++ 41 ∷ r)) ∙ ap (λ m. w ++ 40 ∷ m) (append_assoc x l (p ++ 41 ∷ r)))))

apply_length : (w x l p : TextBytes) → length (w ++ codes "(" ++ (x ++ l) ++ p ++ codes ")") ≡ length w + 1 + length x + length l + length p + 1
apply_length w x l p =
    omega (arith, length-append (w ++ codes "(" ++ (x ++ l) ++ p) (codes ")"), length-append (w ++ codes "(" ++ (x ++ l)) p, length-append (w ++ codes "(") (x ++ l), length-append w (codes "("), length-append x l)

mutual
  reads_tree : (k : ℕ) (z : TextBytes) (t : FRaw) (at : ℕ) (r : TextBytes) (xs : List FLexeme) → HasForm t → AreTexts t → levels t ≤ k → drop at z ≡ canon t ++ r
      → IsEnd (drop (at + length (canon t)) z) xs → Lexes z (at + length (canon t)) xs → ReadsTree k z at t xs
  reads_tree k z (All old) at r xs form texts deep e end more = star_tree k z r at old xs e (subst (λ l. IsEnd l xs) (rest_behind z (codes "*") r at e) end) more
  reads_tree k z (Literal p) at r xs form texts deep e end more =
      leaf_tree k z at p.at p.text xs (literal_reads z r p.text at xs (subst (λ l. IsEnd l xs) (rest_behind z (canon (Literal p)) r at e) end) form texts e more)
  reads_tree zero z (Scope' old name s (more_of-FRaw t end_of-FRaw)) at r xs form texts deep e end more = absurd (omega arith)
  reads_tree (suc k) z (Scope' old name s (more_of-FRaw t end_of-FRaw)) at r xs form texts deep e end more =
      let there : drop at z ≡ name ++ 58 ∷ (canon t ++ r) = e ∙ (append_assoc (name ++ codes ":") (canon t) r ∙ append_assoc name (codes ":") (canon t ++ r)) in
      let inner : drop (at + length name + 1) z ≡ canon t ++ r = rest_behind_one z (canon t ++ r) 58 (at + length name) (rest_behind z name (58 ∷ (canon t ++ r)) at there) in
      let place : at + length (name ++ codes ":" ++ canon t) ≡ at + length name + 1 + length (canon t) = omega (arith, length-append (name ++ codes ":") (canon t), length-append name (codes ":")) in
      scope_tree k z name at old t xs form.0 (canon t ++ r) there
      (reads_tree k z t (at + length name + 1) r xs form.1.0 texts.0 (omega arith) inner (subst (λ n. IsEnd (drop n z) xs) place end) (subst (λ n. Lexes z n xs) place more))
  reads_tree zero z (Apply' old o s row) at r xs form texts deep e end more = absurd (omega arith)
  reads_tree (suc k) z (Apply' old o s row) at r xs form texts deep e end more =
      reads_apply k z row o at old r xs form.0 form.1 form.2 texts (omega arith) e more (Apply' old o s row) refl refl

  reads_apply : {m : _} (k : ℕ) (z : TextBytes) (row : Row_of-FRaw m) (o : Op) (at old : ℕ) (r : TextBytes) (xs : List FLexeme) → AreOperands (operands_of (operator_in o)) row → IsWithinLimits o
      → HaveForm row → EachTexts row → levels_each row ≤ k → drop at z ≡ operator_word o ++ codes "(" ++ listed false (canon_each row) ++ parameters_text o ++ codes ")" ++ r
      → Lexes z (at + length (operator_word o ++ codes "(" ++ listed false (canon_each row) ++ parameters_text o ++ codes ")")) xs → (u : FRaw) → is_literal u ≡ false
      → unplaced u ≡ tree.Apply 0 o (unplaced_each row) → ReadsTree (suc k) z at u xs
  reads_apply k z end_of-FRaw o at old r xs arity limits form texts deep e more u other plain = let some = operator_some o in let few = arity.least in absurd (omega arith)
  reads_apply k z (more_of-FRaw t rest) o at old r xs arity limits form texts deep e more u other plain =
      let w = operator_word o in
      let x = canon t in
      let l = listed true (canon_each rest) in
      let p = parameters_text o in
      let there : drop at z ≡ w ++ 40 ∷ (x ++ (l ++ (p ++ 41 ∷ r))) = e ∙ apply_split w x l p r in
      let first : drop (at + length w + 1) z ≡ x ++ (l ++ (p ++ 41 ∷ r)) = rest_behind_one z (x ++ (l ++ (p ++ 41 ∷ r))) 40 (at + length w) (rest_behind z w (40 ∷ (x ++ (l ++ (p ++ 41 ∷ r)))) at there) in
      let others : drop (at + length w + 1 + length x) z ≡ l ++ (p ++ 41 ∷ r) = rest_behind z x (l ++ (p ++ 41 ∷ r)) (at + length w + 1) first in
      let last : drop (at + length w + 1 + length x + length l) z ≡ p ++ 41 ∷ r = rest_behind z l (p ++ 41 ∷ r) (at + length w + 1 + length x) others in
      let place : at + length (w ++ codes "(" ++ (x ++ l) ++ p ++ codes ")") ≡ at + length w + 1 + length x + length l + length p + 1 = omega (arith, apply_length w x l p) in
      let c = parameters_read k z r (at + length w + 1 + length x + length l) xs o limits last (subst (λ n. Lexes z n xs) place more) in
      let m = reads_more k z rest (operator_in o) (at + length w + 1 + length x) (p ++ 41 ∷ r) c.given xs form.1 texts.1 (omega arith) (λ is. (arity.literals is).1) others c.closes in
      let i = reads_tree k z t (at + length w + 1) (l ++ (p ++ 41 ∷ r)) m.lexemes form.0 texts.0 (omega arith) first m.end m.lexed in
      apply_tree k z (x ++ (l ++ (p ++ 41 ∷ r))) at old o (more_of-FRaw t rest) c.given xs there (operator_name o) (operator_is o)
      (list_reads k z r (operator_in o) (at + length w + 1) (at + length w + 1 + length x) t rest c.given xs m (λ is. (arity.literals is).0) i)
      arity.least arity.most c.makes u other plain

  reads_more : {m : _} (k : ℕ) (z : TextBytes) (row : Row_of-FRaw m) (op : Operator) (at : ℕ) (q : TextBytes) (g : Given) (xs : List FLexeme) → HaveForm row → EachTexts row → levels_each row ≤ k
      → ((operands_of op).literals ≡ true → AreLiterals row) → drop at z ≡ listed true (canon_each row) ++ q → Closes k z op (at + length (listed true (canon_each row))) nothing_given g xs
      → ReadsMore k z op at row g xs
  reads_more k z end_of-FRaw op at q g xs form texts deep literals e c =
      let place : at + 0 ≡ at = omega arith in more_end k z op at g xs (subst (λ n. Closes k z op n nothing_given g xs) place c)
  reads_more k z (more_of-FRaw t rest) op at q g xs form texts deep literals e c =
      let x = canon t in
      let l = listed true (canon_each rest) in
      let there : drop at z ≡ 44 ∷ (x ++ (l ++ q)) = e ∙ ap (λ m. 44 ∷ m) (append_assoc x l q) in
      let first : drop (at + 1) z ≡ x ++ (l ++ q) = rest_behind_one z (x ++ (l ++ q)) 44 at there in
      let others : drop (at + 1 + length x) z ≡ l ++ q = rest_behind z x (l ++ q) (at + 1) first in
      let place : at + length (listed true (canon_each (more_of-FRaw t rest))) ≡ at + 1 + length x + length l = omega (arith, length-append x l) in
      let m = reads_more k z rest op (at + 1 + length x) q g xs form.1 texts.1 (omega arith) (λ is. (literals is).1) others (subst (λ n. Closes k z op n nothing_given g xs) place c) in
      let i = reads_tree k z t (at + 1) (l ++ q) m.lexemes form.0 texts.0 (omega arith) first m.end m.lexed in
      more_on k z (x ++ (l ++ q)) op at (at + 1 + length x) t rest g xs m (λ is. (literals is).0) there i

-- ---- the law

read_whole : (z : TextBytes) (t : FRaw) (i : ReadsTree most_levels z 0 t []) → length z ≤ most_text_bytes → read_of z ≡ Ok i.found
unfolding read_of fql_lexemes_of whole_of
read_whole z t i short =
    let test : nat_lt most_text_bytes (length z) ≡ false = grind (arith, nat_tests) in
    rw (test, i.lexed (length z) (omega arith), i.read) refl

pub reads_back : CanonReadsBack
reads_back t well texts deep short =
    let z = canon t in
    let there : drop 0 z ≡ canon t ++ [] = sym (append-nil z) in
    let done : drop (0 + length z) z ≡ [] = rest_behind z z [] 0 there in
    let end : IsEnd (drop (0 + length z) z) [] = subst (λ l. IsEnd l []) (sym done) (record { term = refl; parameter = refl; role = refl }) in
    let i = reads_tree most_levels z t 0 [] [] well.form texts deep there end (lexes_end z (0 + length z) done) in
    record { found = i.found; read = read_whole z t i short; same = i.same }

pub printed_reads_back : {E : Type 0} (r : Result (List ℕ) E) (z : TextBytes) (t : FRaw) → IfOk r (λ text. text ≡ z) → z ≡ canon t → AreTexts t → IfOk r (λ text. ReadsBack text t)
printed_reads_back (Ok text) z t same is texts = λ well deep short. subst (λ l. IsReadAs l t) (sym (same ∙ is)) (reads_back t well texts deep (subst (λ l. length l ≤ most_text_bytes) (same ∙ is) short))
printed_reads_back (Err e) z t same is texts = tt
