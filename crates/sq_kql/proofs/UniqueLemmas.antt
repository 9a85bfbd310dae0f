-- Lexemes that spell a tree are read as that tree.
use Rattle.std.proofs.Common.{◌≡◌, ℕ, ◌==◌, ◌≤◌, ℤ, Bool, false, length, List, [], ◌∷◌, ◌++◌, Option, Some, None, refl, sym, ap, ap₂, ◌∙◌, append_assoc, length-append, arith}
use Rattle.std.proofs.lemmas.Bool.Decides.{nat_tests}
use Rattle.std.proofs.lemmas.List.{append-nil}
use Rattle.std.proofs.lemmas.List.Sums.{fold-append}
use Rattle.sq_lex.specs.declared.lexeme.KKind.{KKind}
use Rattle.sq_lex.specs.declared.lexeme.KKind.TheVariants as kind
use Rattle.sq_lex.specs.declared.lexeme.KLexeme.{KLexeme}
use Rattle.sq_lex.specs.Bytes.{TextBytes}
use Rattle.sq_kql.specs.declared.raw.Piece.{Piece}
use Rattle.sq_kql.specs.declared.raw.RawSign.{RawSign}
use Rattle.sq_kql.specs.declared.raw.RawSign.TheVariants as sign
use Rattle.sq_kql.specs.declared.raw.KRawOperand.{KRawOperand}
use Rattle.sq_kql.specs.declared.raw.KRaw.{KRaw}
use Rattle.sq_kql.specs.declared.raw.KRaw.TheVariants as tree
use Rattle.sq_kql.specs.declared.level.Sign.{Sign}
use Rattle.sq_kql.specs.declared.level.Placed.{Placed}
use Rattle.sq_kql.specs.declared.level.Operand.{Operand}
use Rattle.sq_kql.specs.declared.level.Parts.{Parts}
use Rattle.sq_kql.specs.declared.level.Ranking.{Ranking}
use Rattle.sq_kql.specs.declared.level.Level.{Level}
use Rattle.sq_kql.specs.declared.level.Outer.{Outer}
use Rattle.sq_kql.specs.declared.level.Reading.{Reading}
use Rattle.sq_kql.specs.Node.{piece, operand_of}
use Rattle.sq_kql.specs.Tree.{placed, operand, operand_node, run_node, no_parts, with_part, one_or, and_node, or_node, join_run, closed, with_operand_by, with_operand, with_sign, with_proximity, end_run, with_and, end_and, with_or, ranked_by, end_or, whole, with_xrank, at_level, shift_kind, shift, with_close, tree_of}
use Rattle.sq_kql.specs.Grammar.{IsSign, plus, minus, negation, IsProximity, unordered, ordered, Lists, no_items, more_items, first_at, SpellsBasic, free, all, restrict, words, group, SpellsChain, basic, near, SpellsSigned, signed, SpellsOperand, plain, behind_sign, SpellsOperands, one_operand, more_operands, SpellsRun, lone, lone_signed, run, SpellsRuns, one_run, more_runs, SpellsAnd, lone_run, and, SpellsAnds, one_and, more_ands, SpellsOr, lone_and, or, Spells, unranked, xrank}
use Rattle.sq_kql.proofs.LevelLemmas.{reading, reads, start, running, parts, join_last, join_sign, closed_nearing, closed_last, closed_none, new_operand}
use Rattle.sq_kql.proofs.ListLemmas.{split_last_is}

-- ---- the first lexeme

-- a list that isn't empty
abbrev pub Filled : List KLexeme → Type 0
Filled xs = (zs : List KLexeme) → first_at (xs ++ zs) ≡ first_at xs

pub filled_append : (xs ys : List KLexeme) → Filled xs → Filled (xs ++ ys)
filled_append xs ys filled zs = ap first_at (append_assoc xs ys zs) ∙ (filled (ys ++ zs) ∙ sym (filled ys))

filled_basic : (z : TextBytes) (xs : List KLexeme) (t : KRaw) → SpellsBasic z xs t → Filled xs
filled_basic z _ _ (free x c is) zs = refl
filled_basic z _ _ (all x is) zs = refl
filled_basic z _ _ (restrict x name_to rel c upper is) zs = refl
filled_basic z _ _ (words x y xs ps is items end) zs = refl
filled_basic z _ _ (group x y xs t is inner end) zs = refl

pub filled_chain : (z : TextBytes) (xs : List KLexeme) (t : KRaw) → SpellsChain z xs t → Filled xs
filled_chain z _ _ (basic xs t b) = filled_basic z xs t b
filled_chain z _ _ (near x xs ys t u n o left is right) = filled_append xs (x ∷ ys) (filled_chain z xs t left)

filled_signed : (z : TextBytes) (xs : List KLexeme) (o : KRawOperand) → SpellsSigned z xs o → Filled xs
filled_signed z _ _ (signed x xs s t is chain) zs = refl

filled_operand : (z : TextBytes) (xs : List KLexeme) (o : KRawOperand) → SpellsOperand z xs o → Filled xs
filled_operand z _ _ (plain xs t chain) = filled_chain z xs t chain
filled_operand z _ _ (behind_sign xs o s) = filled_signed z xs o s

pub filled_operands : (z : TextBytes) (xs : List KLexeme) (os : List KRawOperand) → SpellsOperands z xs os → Filled xs
filled_operands z _ _ (one_operand xs o s) = filled_operand z xs o s
filled_operands z _ _ (more_operands xs ys os o front last) = filled_append xs ys (filled_operands z xs os front)

filled_run : (z : TextBytes) (xs : List KLexeme) (t : KRaw) → SpellsRun z xs t → Filled xs
filled_run z _ _ (lone xs t chain) = filled_chain z xs t chain
filled_run z _ _ (lone_signed xs o s) = filled_signed z xs o s
filled_run z _ _ (run xs os s many) = filled_operands z xs os s

pub filled_runs : (z : TextBytes) (xs : List KLexeme) (ts : List KRaw) → SpellsRuns z xs ts → Filled xs
filled_runs z _ _ (one_run xs t s) = filled_run z xs t s
filled_runs z _ _ (more_runs x xs ys ts t front is last) = filled_append xs (x ∷ ys) (filled_runs z xs ts front)

filled_and : (z : TextBytes) (xs : List KLexeme) (t : KRaw) → SpellsAnd z xs t → Filled xs
filled_and z _ _ (lone_run xs t s) = filled_run z xs t s
filled_and z _ _ (and xs ts s many) = filled_runs z xs ts s

pub filled_ands : (z : TextBytes) (xs : List KLexeme) (ts : List KRaw) → SpellsAnds z xs ts → Filled xs
filled_ands z _ _ (one_and xs t s) = filled_and z xs t s
filled_ands z _ _ (more_ands x xs ys ts t front is last) = filled_append xs (x ∷ ys) (filled_ands z xs ts front)

filled_or : (z : TextBytes) (xs : List KLexeme) (t : KRaw) → SpellsOr z xs t → Filled xs
filled_or z _ _ (lone_and xs t s) = filled_and z xs t s
filled_or z _ _ (or xs ts s many) = filled_ands z xs ts s

pub filled : (z : TextBytes) (xs : List KLexeme) (t : KRaw) → Spells z xs t → Filled xs
filled z _ _ (unranked xs t s) = filled_or z xs t s
filled z _ _ (xrank x xs ys t u cb left is right) = filled_append xs (x ∷ ys) (filled z xs t left)

-- ---- what each rule's lexemes do

-- reading goes on behind the first lexemes
pub reads_on : (z : TextBytes) (r s : Reading) (xs ys : List KLexeme) → reads z r xs ≡ s → reads z r (xs ++ ys) ≡ reads z s ys
reads_on z r s xs ys front = fold-append (shift z) r xs ys ∙ ap (λ q. reads z q ys) front

-- one lexeme of a kind
pub shifted : (z : TextBytes) (r : Reading) (x : KLexeme) (k : KKind) → x.kind ≡ k → shift z r x ≡ shift_kind z k x.from r
shifted z r x k is = ap (λ j. shift_kind z j x.from r) is

pub proximity_shift : (z : TextBytes) (k : KKind) (n : ℕ) (o : Bool) (at : ℕ) (r : Reading) → IsProximity k n o → shift_kind z k at r ≡ at_level r (with_proximity n o r.level)
proximity_shift z _ _ _ at r unordered = refl
proximity_shift z _ _ _ at r ordered = refl

pub sign_shift : (z : TextBytes) (k : KKind) (s : RawSign) (at : ℕ) (r : Reading) → IsSign k s → shift_kind z k at r ≡ at_level r (with_sign s at r.level)
sign_shift z _ _ at r plus = refl
sign_shift z _ _ at r minus = refl
sign_shift z _ _ at r negation = refl

abbrev pub BasicReads : TextBytes → List KLexeme → KRaw → Type 0
BasicReads z xs t = (l : Level) (outer : List Outer) → reads z (reading l outer) xs ≡ reading (with_operand l (placed (first_at xs) t)) outer

abbrev pub ChainReads : TextBytes → List KLexeme → KRaw → Type 0
ChainReads z xs t = (l : Level) (outer : List Outer) → l.nearing ≡ None → reads z (reading l outer) xs ≡ reading (with_operand_by None l (placed (first_at xs) t)) outer

-- an operand joins the run of a level
pub record OperandRead (z : TextBytes) (xs : List KLexeme) (o : Operand) (l : Level) (outer : List Outer) : Type 0 where
  pub level : Level
  pub same : reads z (reading l outer) xs ≡ reading level outer
  pub nearing : level.nearing ≡ None
  pub closes : closed level ≡ join_run (closed l).first o (closed l)

abbrev pub Joins : TextBytes → List KLexeme → Operand → Type 0
Joins z xs o = (l : Level) (outer : List Outer) → l.nearing ≡ None → (closed l).sign ≡ None → OperandRead z xs o l outer

pub record OperandReads (z : TextBytes) (xs : List KLexeme) (o : KRawOperand) : Type 0 where
  pub joined : Operand
  pub node : operand_node joined ≡ o
  pub place : joined.at ≡ first_at xs
  pub joins : Joins z xs joined

pub record OperandsRead (z : TextBytes) (xs : List KLexeme) (os : List KRawOperand) (ranking : Option Ranking) (ors ands : Parts) (outer : List Outer) : Type 0 where
  pub level : Level
  pub same : reads z (reading (start ranking ors ands) outer) xs ≡ reading level outer
  pub nearing : level.nearing ≡ None
  pub first : Operand
  pub others : List KRawOperand
  pub nodes : operand_node first ∷ others ≡ os
  pub place : first.at ≡ first_at xs
  pub closes : closed level ≡ running ranking ors ands first others

abbrev pub OperandsReads : TextBytes → List KLexeme → List KRawOperand → Type 0
OperandsReads z xs os = (ranking : Option Ranking) (ors ands : Parts) (outer : List Outer) → OperandsRead z xs os ranking ors ands outer

-- what stands at the end of a run
pub record RunRead (z : TextBytes) (xs : List KLexeme) (t : KRaw) (ranking : Option Ranking) (ors ands : Parts) (outer : List Outer) : Type 0 where
  pub level : Level
  pub same : reads z (reading (start ranking ors ands) outer) xs ≡ reading level outer
  pub closes : with_and level ≡ start ranking ors (with_part ands (placed (first_at xs) t))

abbrev pub RunReads : TextBytes → List KLexeme → KRaw → Type 0
RunReads z xs t = (ranking : Option Ranking) (ors ands : Parts) (outer : List Outer) → RunRead z xs t ranking ors ands outer

pub record RunsRead (z : TextBytes) (xs : List KLexeme) (ts : List KRaw) (ranking : Option Ranking) (ors : Parts) (outer : List Outer) : Type 0 where
  pub level : Level
  pub same : reads z (reading (start ranking ors no_parts) outer) xs ≡ reading level outer
  pub closes : with_and level ≡ start ranking ors (parts (first_at xs) ts)
  pub some : (length ts == 0) ≡ false

abbrev pub RunsReads : TextBytes → List KLexeme → List KRaw → Type 0
RunsReads z xs ts = (ranking : Option Ranking) (ors : Parts) (outer : List Outer) → RunsRead z xs ts ranking ors outer

pub record AndRead (z : TextBytes) (xs : List KLexeme) (t : KRaw) (ranking : Option Ranking) (ors : Parts) (outer : List Outer) : Type 0 where
  pub level : Level
  pub same : reads z (reading (start ranking ors no_parts) outer) xs ≡ reading level outer
  pub closes : with_or level ≡ start ranking (with_part ors (placed (first_at xs) t)) no_parts

abbrev pub AndReads : TextBytes → List KLexeme → KRaw → Type 0
AndReads z xs t = (ranking : Option Ranking) (ors : Parts) (outer : List Outer) → AndRead z xs t ranking ors outer

pub record AndsRead (z : TextBytes) (xs : List KLexeme) (ts : List KRaw) (ranking : Option Ranking) (outer : List Outer) : Type 0 where
  pub level : Level
  pub same : reads z (reading (start ranking no_parts no_parts) outer) xs ≡ reading level outer
  pub closes : with_or level ≡ start ranking (parts (first_at xs) ts) no_parts
  pub some : (length ts == 0) ≡ false

abbrev pub AndsReads : TextBytes → List KLexeme → List KRaw → Type 0
AndsReads z xs ts = (ranking : Option Ranking) (outer : List Outer) → AndsRead z xs ts ranking outer

-- what stands at the end of a level
pub record WholeRead (z : TextBytes) (xs : List KLexeme) (t : Placed) (ranking : Option Ranking) (outer : List Outer) : Type 0 where
  pub level : Level
  pub same : reads z (reading (start ranking no_parts no_parts) outer) xs ≡ reading level outer
  pub closes : whole level ≡ t

abbrev pub OrReads : TextBytes → List KLexeme → KRaw → Type 0
OrReads z xs t = (ranking : Option Ranking) (outer : List Outer) → WholeRead z xs (ranked_by ranking (placed (first_at xs) t)) ranking outer

abbrev pub WholeReads : TextBytes → List KLexeme → KRaw → Type 0
WholeReads z xs t = (outer : List Outer) → WholeRead z xs (placed (first_at xs) t) None outer

-- ---- basic

abbrev pub listed_reading : Level → List Outer → ℕ → List Piece → Reading
listed_reading l outer at ps = record { level = l; outer = outer; listing = Some (record { at = at; pieces = ps }) }

pub items_read : (z : TextBytes) (xs : List KLexeme) (ps : List Piece) → Lists z xs ps → (front : List Piece) (at : ℕ) (l : Level) (outer : List Outer)
    → reads z (listed_reading l outer at front) xs ≡ listed_reading l outer at (front ++ ps)
items_read z _ _ no_items front at l outer = ap (listed_reading l outer at) (sym (append-nil front))
items_read z _ _ (more_items x xs ps c is items) front at l outer =
    ap (λ r. reads z r xs) (shifted z (listed_reading l outer at front) x (kind.Free c) is)
    ∙ (items_read z xs ps items (front ++ piece z c ∷ []) at l outer ∙ ap (listed_reading l outer at) (append_assoc front (piece z c ∷ []) ps))

words_read : (z : TextBytes) (x y : KLexeme) (xs : List KLexeme) (ps : List Piece) (n : ℕ) → x.kind ≡ kind.Words n → Lists z xs ps → y.kind ≡ kind.WordsEnd
    → BasicReads z (x ∷ (xs ++ y ∷ [])) (tree.Words x.from ps)
words_read z x y xs ps n is items end l outer =
    ap (λ r. reads z r (xs ++ y ∷ [])) (shifted z (reading l outer) x (kind.Words n) is)
    ∙ (reads_on z (listed_reading l outer x.from []) (listed_reading l outer x.from ps) xs (y ∷ []) (items_read z xs ps items [] x.from l outer)
    ∙ shifted z (listed_reading l outer x.from ps) y kind.WordsEnd end)

group_read : (z : TextBytes) (x y : KLexeme) (xs : List KLexeme) (t : KRaw) → x.kind ≡ kind.LeftParen → WholeReads z xs t → y.kind ≡ kind.RightParen
    → BasicReads z (x ∷ (xs ++ y ∷ [])) (tree.Group x.from t)
group_read z x y xs t is inner end l outer =
    let around : Outer = record { level = l; at = x.from } in
    let w = inner (outer ++ around ∷ []) in
    let r = reading w.level (outer ++ around ∷ []) in
    ap (λ q. reads z q (xs ++ y ∷ [])) (shifted z (reading l outer) x kind.LeftParen is)
    ∙ (reads_on z (reading (start None no_parts no_parts) (outer ++ around ∷ [])) r xs (y ∷ []) w.same
    ∙ (shifted z r y kind.RightParen end
    ∙ (ap (λ s. with_close s r) (split_last_is _ outer around refl)
    ∙ ap (λ (p : Placed). reading (with_operand l (placed x.from (tree.Group x.from p.tree))) outer) w.closes)))

-- ---- chains

basic_read : (z : TextBytes) (xs : List KLexeme) (t : KRaw) → BasicReads z xs t → ChainReads z xs t
basic_read z xs t b l outer none = b l outer ∙ ap (λ m. reading m outer) (new_operand l (placed (first_at xs) t) none)

pub near_level : (l : Level) (p q : Placed) (n : ℕ) (o : Bool) (at : ℕ) → l.nearing ≡ None → p.at ≡ at
    → with_operand (with_proximity n o (with_operand_by None l p)) q ≡ with_operand_by None l (placed at (tree.Near p.at p.tree q.tree n o))
unfolding with_operand with_proximity
near_level l p q n o at none place =
    ap₂ (λ a b. record (closed l) { nearing = a; last = Some (placed b (tree.Near p.at p.tree q.tree n o)) }) (sym (closed_nearing l ∙ none)) place

near_read : (z : TextBytes) (x : KLexeme) (xs ys : List KLexeme) (t u : KRaw) (n : ℕ) (o : Bool) → Filled xs → ChainReads z xs t → IsProximity x.kind n o → BasicReads z ys u
    → ChainReads z (xs ++ x ∷ ys) (tree.Near (first_at xs) t u n o)
near_read z x xs ys t u n o some left is right l outer none =
    let p = placed (first_at xs) t in
    let m = with_operand_by None l p in
    reads_on z (reading l outer) (reading m outer) xs (x ∷ ys) (left l outer none)
    ∙ (ap (λ r. reads z r ys) (proximity_shift z x.kind n o x.from (reading m outer) is)
    ∙ (right (with_proximity n o m) outer
    ∙ ap (λ k. reading k outer) (near_level l p (placed (first_at ys) u) n o (first_at (xs ++ x ∷ ys)) none (sym (some (x ∷ ys))))))

-- ---- operands

abbrev pub of_sign : RawSign → ℕ → KRaw → Operand
of_sign s at t = record { sign = s; at = at; tree = t }

joins_with : (c : Level) (p : Placed) (s : Option Sign) → c.sign ≡ s → closed (record c { last = Some p }) ≡ join_run c.first (operand s p) c
unfolding closed
joins_with c p s is = ap (λ q. join_run c.first (operand q p) (record c { last = Some p })) is ∙ join_last c.first (operand s p) c (Some p)

plain_joins : (z : TextBytes) (xs : List KLexeme) (t : KRaw) → ChainReads z xs t → Joins z xs (of_sign sign.Plain (first_at xs) t)
plain_joins z xs t chain l outer none unsigned =
    let p = placed (first_at xs) t in
    record { level = with_operand_by None l p; same = chain l outer none; nearing = closed_nearing l ∙ none; closes = joins_with (closed l) p None unsigned }

pub sign_level : (s : RawSign) (at : ℕ) (l : Level) → with_sign s at l ≡ record (closed l) { sign = Some (record { sign = s; at = at }) }
unfolding with_sign
sign_level s at l = refl

signed_joins : (z : TextBytes) (x : KLexeme) (xs : List KLexeme) (s : RawSign) (t : KRaw) → IsSign x.kind s → ChainReads z xs t → Joins z (x ∷ xs) (of_sign s x.from t)
signed_joins z x xs s t is chain l outer none unsigned =
    let p = placed (first_at xs) t in
    let waits : Sign = record { sign = s; at = x.from } in
    let k : Level = record (closed l) { sign = Some waits } in
    record {
      level = record k { last = Some p };
      same = ap (λ r. reads z r xs) (sign_shift z x.kind s x.from (reading l outer) is ∙ ap (λ m. reading m outer) (sign_level s x.from l))
          ∙ (chain k outer (closed_nearing l ∙ none) ∙ ap (λ (m : Level). reading (record m { last = Some p }) outer) (closed_none k (closed_last l)));
      nearing = closed_nearing l ∙ none;
      closes = joins_with k p (Some waits) refl ∙ join_sign (closed l).first (of_sign s x.from t) (closed l) (Some waits);
    }

one_read : (z : TextBytes) (xs : List KLexeme) (o : KRawOperand) → OperandReads z xs o → OperandsReads z xs (o ∷ [])
one_read z xs o s ranking ors ands outer =
    let begin = closed_none (start ranking ors ands) refl in
    let r = s.joins (start ranking ors ands) outer refl (ap (λ (l : Level). l.sign) begin) in
    record {
      level = r.level;
      same = r.same;
      nearing = r.nearing;
      first = s.joined;
      others = [];
      nodes = ap (λ n. n ∷ []) s.node;
      place = s.place;
      closes = r.closes ∙ ap (λ (c : Level). join_run c.first s.joined c) begin;
    }

more_read : (z : TextBytes) (xs ys : List KLexeme) (os : List KRawOperand) (o : KRawOperand) → Filled xs → OperandsReads z xs os → OperandReads z ys o
    → OperandsReads z (xs ++ ys) (os ++ o ∷ [])
more_read z xs ys os o some front s ranking ors ands outer =
    let f = front ranking ors ands outer in
    let r = s.joins f.level outer f.nearing (ap (λ (l : Level). l.sign) f.closes) in
    record {
      level = r.level;
      same = reads_on z (reading (start ranking ors ands) outer) (reading f.level outer) xs ys f.same ∙ r.same;
      nearing = r.nearing;
      first = f.first;
      others = f.others ++ operand_node s.joined ∷ [];
      nodes = ap₂ (λ (a : List KRawOperand) (b : KRawOperand). a ++ b ∷ []) f.nodes s.node;
      place = f.place ∙ sym (some ys);
      closes = r.closes ∙ ap (λ (c : Level). join_run c.first s.joined c) f.closes;
    }

-- ---- runs

pub run_end : (ranking : Option Ranking) (ors ands : Parts) (first : Operand) (others : List KRawOperand) (l : Level) (p : Placed)
    → closed l ≡ running ranking ors ands first others → run_node (Some first) others ≡ p → with_and l ≡ start ranking ors (with_part ands p)
unfolding with_and
run_end ranking ors ands first others l p closes node = ap end_run closes ∙ ap (λ q. start ranking ors (with_part ands q)) node

-- a run of one operand
joins_run : (z : TextBytes) (xs : List KLexeme) (o : Operand) (t : KRaw) → Joins z xs o → run_node (Some o) [] ≡ placed (first_at xs) t → RunReads z xs t
joins_run z xs o t joins node ranking ors ands outer =
    let begin = closed_none (start ranking ors ands) refl in
    let r = joins (start ranking ors ands) outer refl (ap (λ (l : Level). l.sign) begin) in
    record { level = r.level; same = r.same; closes = run_end ranking ors ands o [] r.level _ (r.closes ∙ ap (λ (c : Level). join_run c.first o c) begin) node }

pub plain_node : (at : ℕ) (t : KRaw) → run_node (Some (of_sign sign.Plain at t)) [] ≡ placed at t
unfolding run_node
plain_node at t = refl

pub signed_node : (k : KKind) (s : RawSign) (at : ℕ) (t : KRaw) → IsSign k s → run_node (Some (of_sign s at t)) [] ≡ placed at (tree.Run at (operand_of s at t ∷ []))
unfolding run_node
signed_node _ _ at t plus = refl
signed_node _ _ at t minus = refl
signed_node _ _ at t negation = refl

pub many_node : (first : Operand) (others os : List KRawOperand) (at : ℕ) → operand_node first ∷ others ≡ os → first.at ≡ at → 2 ≤ length os
    → run_node (Some first) others ≡ placed at (tree.Run at os)
unfolding run_node
many_node first [] os at nodes place many = absurd (omega (arith, ap length nodes))
many_node first (p ∷ ps) os at nodes place many = ap₂ (λ a ns. placed a (tree.Run a ns)) place nodes

run_read : (z : TextBytes) (xs : List KLexeme) (os : List KRawOperand) → OperandsReads z xs os → 2 ≤ length os → RunReads z xs (tree.Run (first_at xs) os)
run_read z xs os s many ranking ors ands outer =
    let r = s ranking ors ands outer in
    record { level = r.level; same = r.same; closes = run_end ranking ors ands r.first r.others r.level _ r.closes (many_node r.first r.others os (first_at xs) r.nodes r.place many) }

-- ---- AND and OR

pub not_zero : (n : ℕ) → 1 ≤ n → (n == 0) ≡ false
not_zero n some = grind (arith, nat_tests)

pub some_more : (ts : List KRaw) (t : KRaw) → (length (ts ++ t ∷ []) == 0) ≡ false
some_more ts t = let some : 1 ≤ length (ts ++ t ∷ []) = omega (arith, length-append ts (t ∷ [])) in not_zero _ some

pub part_one : (p : Placed) → with_part no_parts p ≡ parts p.at (p.tree ∷ [])
unfolding with_part
part_one p = refl

pub part_more : (at to : ℕ) (ts : List KRaw) (p : Placed) → (length ts == 0) ≡ false → at ≡ to → with_part (parts at ts) p ≡ parts to (ts ++ p.tree ∷ [])
unfolding with_part
part_more at to ts p some is = rw (some, is) refl

many_or : (t : KRaw) (ts : List KRaw) → 2 ≤ length ts → one_or t ts ≡ t
many_or t [] many = refl
many_or t (u ∷ []) many = absurd (omega arith)
many_or t (u ∷ (v ∷ ts)) many = refl

pub and_one : (at : ℕ) (t : KRaw) → and_node (parts at (t ∷ [])) ≡ placed at t
unfolding and_node
and_one at t = refl

pub and_many : (at : ℕ) (ts : List KRaw) → 2 ≤ length ts → and_node (parts at ts) ≡ placed at (tree.And at ts)
unfolding and_node
and_many at ts many = ap (placed at) (many_or (tree.And at ts) ts many)

pub or_one : (at : ℕ) (t : KRaw) → or_node (parts at (t ∷ [])) ≡ placed at t
unfolding or_node
or_one at t = refl

pub or_many : (at : ℕ) (ts : List KRaw) → 2 ≤ length ts → or_node (parts at ts) ≡ placed at (tree.Or at ts)
unfolding or_node
or_many at ts many = ap (placed at) (many_or (tree.Or at ts) ts many)

pub and_level : (ranking : Option Ranking) (ors ands : Parts) (l : Level) (p : Placed) → with_and l ≡ start ranking ors ands → and_node ands ≡ p → with_or l ≡ start ranking (with_part ors p) no_parts
unfolding with_or
and_level ranking ors ands l p closes node = ap end_and closes ∙ ap (λ q. start ranking (with_part ors q) no_parts) node

pub or_level : (ranking : Option Ranking) (ors : Parts) (l : Level) (p : Placed) → with_or l ≡ start ranking ors no_parts → or_node ors ≡ p → whole l ≡ ranked_by ranking p
unfolding whole
or_level ranking ors l p closes node = ap end_or closes ∙ ap (ranked_by ranking) node

one_run_read : (z : TextBytes) (xs : List KLexeme) (t : KRaw) → RunReads z xs t → RunsReads z xs (t ∷ [])
one_run_read z xs t s ranking ors outer =
    let r = s ranking ors no_parts outer in
    record { level = r.level; same = r.same; closes = r.closes ∙ ap (start ranking ors) (part_one (placed (first_at xs) t)); some = refl }

more_runs_read : (z : TextBytes) (x : KLexeme) (xs ys : List KLexeme) (ts : List KRaw) (t : KRaw) → Filled xs → RunsReads z xs ts → x.kind ≡ kind.And → RunReads z ys t
    → RunsReads z (xs ++ x ∷ ys) (ts ++ t ∷ [])
more_runs_read z x xs ys ts t some front is s ranking ors outer =
    let f = front ranking ors outer in
    let r = s ranking ors (parts (first_at xs) ts) outer in
    record {
      level = r.level;
      same = reads_on z (reading (start ranking ors no_parts) outer) (reading f.level outer) xs (x ∷ ys) f.same
          ∙ (ap (λ q. reads z q ys) (shifted z (reading f.level outer) x kind.And is ∙ ap (λ l. reading l outer) f.closes) ∙ r.same);
      closes = r.closes ∙ ap (start ranking ors) (part_more (first_at xs) (first_at (xs ++ x ∷ ys)) ts (placed (first_at ys) t) f.some (sym (some (x ∷ ys))));
      some = some_more ts t;
    }

lone_run_read : (z : TextBytes) (xs : List KLexeme) (t : KRaw) → RunReads z xs t → AndReads z xs t
lone_run_read z xs t s ranking ors outer =
    let r = s ranking ors no_parts outer in
    record { level = r.level; same = r.same; closes = and_level ranking ors _ r.level _ r.closes (ap and_node (part_one (placed (first_at xs) t)) ∙ and_one (first_at xs) t) }

and_read : (z : TextBytes) (xs : List KLexeme) (ts : List KRaw) → RunsReads z xs ts → 2 ≤ length ts → AndReads z xs (tree.And (first_at xs) ts)
and_read z xs ts s many ranking ors outer =
    let r = s ranking ors outer in record { level = r.level; same = r.same; closes = and_level ranking ors _ r.level _ r.closes (and_many (first_at xs) ts many) }

one_and_read : (z : TextBytes) (xs : List KLexeme) (t : KRaw) → AndReads z xs t → AndsReads z xs (t ∷ [])
one_and_read z xs t s ranking outer =
    let r = s ranking no_parts outer in
    record { level = r.level; same = r.same; closes = r.closes ∙ ap (λ ors. start ranking ors no_parts) (part_one (placed (first_at xs) t)); some = refl }

more_ands_read : (z : TextBytes) (x : KLexeme) (xs ys : List KLexeme) (ts : List KRaw) (t : KRaw) → Filled xs → AndsReads z xs ts → x.kind ≡ kind.Or → AndReads z ys t
    → AndsReads z (xs ++ x ∷ ys) (ts ++ t ∷ [])
more_ands_read z x xs ys ts t some front is s ranking outer =
    let f = front ranking outer in
    let r = s ranking (parts (first_at xs) ts) outer in
    record {
      level = r.level;
      same = reads_on z (reading (start ranking no_parts no_parts) outer) (reading f.level outer) xs (x ∷ ys) f.same
          ∙ (ap (λ q. reads z q ys) (shifted z (reading f.level outer) x kind.Or is ∙ ap (λ l. reading l outer) f.closes) ∙ r.same);
      closes = r.closes
          ∙ ap (λ ors. start ranking ors no_parts) (part_more (first_at xs) (first_at (xs ++ x ∷ ys)) ts (placed (first_at ys) t) f.some (sym (some (x ∷ ys))));
      some = some_more ts t;
    }

lone_and_read : (z : TextBytes) (xs : List KLexeme) (t : KRaw) → AndReads z xs t → OrReads z xs t
lone_and_read z xs t s ranking outer =
    let r = s ranking no_parts outer in
    record { level = r.level; same = r.same; closes = or_level ranking _ r.level _ r.closes (ap or_node (part_one (placed (first_at xs) t)) ∙ or_one (first_at xs) t) }

or_read : (z : TextBytes) (xs : List KLexeme) (ts : List KRaw) → AndsReads z xs ts → 2 ≤ length ts → OrReads z xs (tree.Or (first_at xs) ts)
or_read z xs ts s many ranking outer =
    let r = s ranking outer in record { level = r.level; same = r.same; closes = or_level ranking _ r.level _ r.closes (or_many (first_at xs) ts many) }

-- ---- XRANK

pub xrank_level : (cb : ℤ) (l : Level) (p : Placed) → whole l ≡ p → with_xrank cb l ≡ start (Some (record { matched = p; cb = cb })) no_parts no_parts
unfolding with_xrank
xrank_level cb l p closes = ap (λ q. start (Some (record { matched = q; cb = cb })) no_parts no_parts) closes

xrank_read : (z : TextBytes) (x : KLexeme) (xs ys : List KLexeme) (t u : KRaw) (cb : ℤ) → Filled xs → WholeReads z xs t → x.kind ≡ kind.Xrank cb → OrReads z ys u
    → WholeReads z (xs ++ x ∷ ys) (tree.Xrank (first_at xs) t u cb)
xrank_read z x xs ys t u cb some left is s outer =
    let f = left outer in
    let r = s (Some (record { matched = placed (first_at xs) t; cb = cb })) outer in
    record {
      level = r.level;
      same = reads_on z (reading (start None no_parts no_parts) outer) (reading f.level outer) xs (x ∷ ys) f.same
          ∙ (ap (λ q. reads z q ys) (shifted z (reading f.level outer) x (kind.Xrank cb) is ∙ ap (λ l. reading l outer) (xrank_level cb f.level (placed (first_at xs) t) f.closes)) ∙ r.same);
      closes = r.closes ∙ ap (λ at. placed at (tree.Xrank (first_at xs) t u cb)) (sym (some (x ∷ ys)));
    }

-- ---- each rule

mutual
  pub basic_reads : (z : TextBytes) (xs : List KLexeme) (t : KRaw) → SpellsBasic z xs t → BasicReads z xs t
  basic_reads z _ _ (free x c is) = λ l outer. shifted z (reading l outer) x (kind.Free c) is
  basic_reads z _ _ (all x is) = λ l outer. shifted z (reading l outer) x kind.All is
  basic_reads z _ _ (restrict x name_to rel c upper is) = λ l outer. shifted z (reading l outer) x (kind.Restrict name_to rel c upper) is
  basic_reads z _ _ (words x y xs ps is items end) = words_read z x y xs ps (length ps) is items end
  basic_reads z _ _ (group x y xs t is inner end) = group_read z x y xs t is (whole_reads z xs t inner) end

  chain_reads : (z : TextBytes) (xs : List KLexeme) (t : KRaw) → SpellsChain z xs t → ChainReads z xs t
  chain_reads z _ _ (basic xs t b) = basic_read z xs t (basic_reads z xs t b)
  chain_reads z _ _ (near x xs ys t u n o left is right) = near_read z x xs ys t u n o (filled_chain z xs t left) (chain_reads z xs t left) is (basic_reads z ys u right)

  signed_reads : (z : TextBytes) (xs : List KLexeme) (o : KRawOperand) → SpellsSigned z xs o → OperandReads z xs o
  signed_reads z _ _ (signed x xs s t is chain) = record { joined = of_sign s x.from t; node = refl; place = refl; joins = signed_joins z x xs s t is (chain_reads z xs t chain) }

  operand_reads : (z : TextBytes) (xs : List KLexeme) (o : KRawOperand) → SpellsOperand z xs o → OperandReads z xs o
  operand_reads z _ _ (plain xs t chain) = record { joined = of_sign sign.Plain (first_at xs) t; node = refl; place = refl; joins = plain_joins z xs t (chain_reads z xs t chain) }
  operand_reads z _ _ (behind_sign xs o s) = signed_reads z xs o s

  operands_reads : (z : TextBytes) (xs : List KLexeme) (os : List KRawOperand) → SpellsOperands z xs os → OperandsReads z xs os
  operands_reads z _ _ (one_operand xs o s) = one_read z xs o (operand_reads z xs o s)
  operands_reads z _ _ (more_operands xs ys os o front last) =
      more_read z xs ys os o (filled_operands z xs os front) (operands_reads z xs os front) (operand_reads z ys o last)

  run_reads : (z : TextBytes) (xs : List KLexeme) (t : KRaw) → SpellsRun z xs t → RunReads z xs t
  run_reads z _ _ (lone xs t chain) = joins_run z xs (of_sign sign.Plain (first_at xs) t) t (plain_joins z xs t (chain_reads z xs t chain)) (plain_node (first_at xs) t)
  run_reads z _ _ (lone_signed _ _ (signed x xs s t is chain)) =
      joins_run z (x ∷ xs) (of_sign s x.from t) _ (signed_joins z x xs s t is (chain_reads z xs t chain)) (signed_node x.kind s x.from t is)
  run_reads z _ _ (run xs os s many) = run_read z xs os (operands_reads z xs os s) many

  runs_reads : (z : TextBytes) (xs : List KLexeme) (ts : List KRaw) → SpellsRuns z xs ts → RunsReads z xs ts
  runs_reads z _ _ (one_run xs t s) = one_run_read z xs t (run_reads z xs t s)
  runs_reads z _ _ (more_runs x xs ys ts t front is last) =
      more_runs_read z x xs ys ts t (filled_runs z xs ts front) (runs_reads z xs ts front) is (run_reads z ys t last)

  and_reads : (z : TextBytes) (xs : List KLexeme) (t : KRaw) → SpellsAnd z xs t → AndReads z xs t
  and_reads z _ _ (lone_run xs t s) = lone_run_read z xs t (run_reads z xs t s)
  and_reads z _ _ (and xs ts s many) = and_read z xs ts (runs_reads z xs ts s) many

  ands_reads : (z : TextBytes) (xs : List KLexeme) (ts : List KRaw) → SpellsAnds z xs ts → AndsReads z xs ts
  ands_reads z _ _ (one_and xs t s) = one_and_read z xs t (and_reads z xs t s)
  ands_reads z _ _ (more_ands x xs ys ts t front is last) =
      more_ands_read z x xs ys ts t (filled_ands z xs ts front) (ands_reads z xs ts front) is (and_reads z ys t last)

  or_reads : (z : TextBytes) (xs : List KLexeme) (t : KRaw) → SpellsOr z xs t → OrReads z xs t
  or_reads z _ _ (lone_and xs t s) = lone_and_read z xs t (and_reads z xs t s)
  or_reads z _ _ (or xs ts s many) = or_read z xs ts (ands_reads z xs ts s) many

  whole_reads : (z : TextBytes) (xs : List KLexeme) (t : KRaw) → Spells z xs t → WholeReads z xs t
  whole_reads z _ _ (unranked xs t s) = λ outer. or_reads z xs t s None outer
  whole_reads z _ _ (xrank x xs ys t u cb left is right) = xrank_read z x xs ys t u cb (filled z xs t left) (whole_reads z xs t left) is (or_reads z ys u right)

-- lexemes spell at most one tree, the one that is read
pub spells_read : (z : TextBytes) (xs : List KLexeme) (t : KRaw) → Spells z xs t → t ≡ tree_of z xs
unfolding tree_of
spells_read z xs t s =
    let w = whole_reads z xs t s [] in
    sym (ap (λ (r : Reading). (whole r.level).tree) w.same ∙ ap (λ (p : Placed). p.tree) w.closes)
