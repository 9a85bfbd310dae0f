-- What is read of lexemes that stand in order is spelled by them.
use Rattle.std.proofs.Common.{◌≡◌, ℕ, ◌==◌, ◌≤◌, ℤ, Bool, false, List, [], ◌∷◌, ◌++◌, length, Option, Some, None, refl, sym, subst, ap, ◌∙◌, append_assoc, arith}
use Rattle.sq_lex.specs.declared.lexeme.KKind.TheVariants as kind
use Rattle.sq_lex.specs.declared.lexeme.KLexeme.{KLexeme}
use Rattle.sq_lex.specs.Bytes.{TextBytes}
use Rattle.sq_kql.specs.declared.raw.RawSign.{RawSign}
use Rattle.sq_kql.specs.declared.raw.RawSign.TheVariants as sign
use Rattle.sq_kql.specs.declared.raw.KRawOperand.{KRawOperand}
use Rattle.sq_kql.specs.declared.raw.KRaw.{KRaw}
use Rattle.sq_kql.specs.declared.raw.KRaw.TheVariants as tree
use Rattle.sq_kql.specs.declared.order.State.{State}
use Rattle.sq_kql.specs.declared.order.State.TheVariants as state
use Rattle.sq_kql.specs.declared.level.Sign.{Sign}
use Rattle.sq_kql.specs.declared.level.Placed.{Placed}
use Rattle.sq_kql.specs.declared.level.Operand.{Operand}
use Rattle.sq_kql.specs.declared.level.Parts.{Parts}
use Rattle.sq_kql.specs.declared.level.Nearing.{Nearing}
use Rattle.sq_kql.specs.declared.level.Ranking.{Ranking}
use Rattle.sq_kql.specs.declared.level.Level.{Level}
use Rattle.sq_kql.specs.Tree.{placed, operand, operand_node, join_run, run_node, no_parts, with_part, and_node, or_node, closed, with_and, with_or, ranked_by, whole}
use Rattle.sq_kql.specs.Grammar.{IsSign, IsProximity, first_at, SpellsChain, signed, SpellsOperand, plain, behind_sign, SpellsOperands, one_operand, more_operands, SpellsRun, lone, lone_signed, run, SpellsRuns, one_run, more_runs, SpellsAnd, lone_run, and, SpellsAnds, one_and, more_ands, SpellsOr, lone_and, or, Spells, unranked, xrank}
use Rattle.sq_kql.proofs.LevelLemmas.{start, running, parts, closed_some}
use Rattle.sq_kql.proofs.UniqueLemmas.{Filled, not_zero, filled_operands, filled_runs, filled_ands, filled, of_sign, plain_node, signed_node, many_node, run_end, part_one, part_more, and_one, and_many, or_one, or_many, and_level, or_level}

-- ---- what the parts of a level spell

-- the left side of XRANK, with its word
pub data RankPart (z : TextBytes) : List KLexeme → Option Ranking → Type 0 where
  no_rank : RankPart z [] None
  some_rank : (x : KLexeme) (xs : List KLexeme) (t : KRaw) (cb : ℤ) → Spells z xs t → x.kind ≡ kind.Xrank cb
      → RankPart z (xs ++ x ∷ []) (Some (record { matched = placed (first_at xs) t; cb = cb }))

-- the parts of OR before its last word, with that
pub data OrsPart (z : TextBytes) : List KLexeme → Parts → Type 0 where
  no_ors : OrsPart z [] no_parts
  some_ors : (x : KLexeme) (xs : List KLexeme) (ts : List KRaw) → SpellsAnds z xs ts → 1 ≤ length ts → x.kind ≡ kind.Or → OrsPart z (xs ++ x ∷ []) (parts (first_at xs) ts)

pub data AndsPart (z : TextBytes) : List KLexeme → Parts → Type 0 where
  no_ands : AndsPart z [] no_parts
  some_ands : (x : KLexeme) (xs : List KLexeme) (ts : List KRaw) → SpellsRuns z xs ts → 1 ≤ length ts → x.kind ≡ kind.And → AndsPart z (xs ++ x ∷ []) (parts (first_at xs) ts)

-- operands of a run, and the run that they are alone
pub record RunOf (z : TextBytes) (xs : List KLexeme) (first : Operand) (others : List KRawOperand) : Type 0 where
  pub operands : SpellsOperands z xs (operand_node first ∷ others)
  pub place : first.at ≡ first_at xs
  pub tree : KRaw
  pub spells : SpellsRun z xs tree
  pub node : run_node (Some first) others ≡ placed (first_at xs) tree

pub data RunPart (z : TextBytes) : List KLexeme → Option Operand → List KRawOperand → Type 0 where
  no_run : RunPart z [] None []
  some_run : (xs : List KLexeme) (first : Operand) (others : List KRawOperand) → RunOf z xs first others → RunPart z xs (Some first) others

pub record OperandOf (z : TextBytes) (xs : List KLexeme) (o : Operand) : Type 0 where
  pub operand : SpellsOperand z xs (operand_node o)
  pub place : o.at ≡ first_at xs
  pub tree : KRaw
  pub spells : SpellsRun z xs tree
  pub node : run_node (Some o) [] ≡ placed (first_at xs) tree

abbrev pub sign_of : RawSign → ℕ → Sign
sign_of s at = record { sign = s; at = at }

abbrev pub near_of : ℕ → KRaw → ℕ → Bool → Nearing
near_of at t n o = record { left = placed at t; n = n; ordered = o }

-- what stands behind the operands of the run, by state
pub data Pending (z : TextBytes) : List KLexeme → State → Option Sign → Option Nearing → Option Placed → Type 0 where
  wanted : Pending z [] state.Wanted None None None
  waits : (x : KLexeme) (s : RawSign) → IsSign x.kind s → Pending z (x ∷ []) state.Signed (Some (sign_of s x.from)) None None
  near_plain : (x : KLexeme) (xs : List KLexeme) (t : KRaw) (n : ℕ) (o : Bool) → SpellsChain z xs t → IsProximity x.kind n o
      → Pending z (xs ++ x ∷ []) state.Nearing None (Some (near_of (first_at xs) t n o)) None
  near_signed : (y : KLexeme) (s : RawSign) (x : KLexeme) (xs : List KLexeme) (t : KRaw) (n : ℕ) (o : Bool) → IsSign y.kind s → SpellsChain z xs t → IsProximity x.kind n o
      → Pending z (y ∷ (xs ++ x ∷ [])) state.Nearing (Some (sign_of s y.from)) (Some (near_of (first_at xs) t n o)) None
  had_plain : (xs : List KLexeme) (t : KRaw) (at : ℕ) → SpellsChain z xs t → at ≡ first_at xs → Pending z xs state.Had None None (Some (placed at t))
  had_signed : (y : KLexeme) (s : RawSign) (xs : List KLexeme) (t : KRaw) (at : ℕ) → IsSign y.kind s → SpellsChain z xs t → at ≡ first_at xs
      → Pending z (y ∷ xs) state.Had (Some (sign_of s y.from)) None (Some (placed at t))

abbrev pub level_of : Option Ranking → Parts → Parts → Option Operand → List KRawOperand → Option Sign → Option Nearing → Option Placed → Level
level_of ranking ors ands first others s n last =
    record { ranking = ranking; ors = ors; ands = ands; first = first; others = others; sign = s; nearing = n; last = last }

-- what stands before the pending part of a level
pub record Stretch (z : TextBytes) (xs : List KLexeme) (ranking : Option Ranking) (ors ands : Parts) (first : Option Operand) (others : List KRawOperand) : Type 0 where
  pub ranks : List KLexeme
  pub alternatives : List KLexeme
  pub conjuncts : List KLexeme
  pub operands : List KLexeme
  pub split : xs ≡ ranks ++ (alternatives ++ (conjuncts ++ operands))
  pub rank_part : RankPart z ranks ranking
  pub ors_part : OrsPart z alternatives ors
  pub ands_part : AndsPart z conjuncts ands
  pub run_part : RunPart z operands first others

pub record LevelOf (z : TextBytes) (xs : List KLexeme) (now : State) (l : Level) : Type 0 where
  pub ranking : Option Ranking
  pub ors : Parts
  pub ands : Parts
  pub first : Option Operand
  pub others : List KRawOperand
  pub sg : Option Sign
  pub nr : Option Nearing
  pub last : Option Placed
  pub is : l ≡ level_of ranking ors ands first others sg nr last
  pub front : List KLexeme
  pub end : List KLexeme
  pub split : xs ≡ front ++ end
  pub stretch : Stretch z front ranking ors ands first others
  pub pending : Pending z end now sg nr last

-- ---- an operand joins the run

pub operand_plain : (z : TextBytes) (xs : List KLexeme) (t : KRaw) (at : ℕ) → SpellsChain z xs t → at ≡ first_at xs → OperandOf z xs (of_sign sign.Plain at t)
operand_plain z xs t at chain is = record {
  operand = let Of : ℕ → Type 0 = λ n. SpellsOperand z xs (operand_node (of_sign sign.Plain n t)) in subst Of (sym is) (plain xs t chain);
  place = is;
  tree = t;
  spells = lone xs t chain;
  node = plain_node at t ∙ ap (λ n. placed n t) is;
}

pub operand_signed : (z : TextBytes) (y : KLexeme) (s : RawSign) (xs : List KLexeme) (t : KRaw) → IsSign y.kind s → SpellsChain z xs t → OperandOf z (y ∷ xs) (of_sign s y.from t)
operand_signed z y s xs t is chain = record {
  operand = behind_sign (y ∷ xs) _ (signed y xs s t is chain);
  place = refl;
  tree = tree.Run y.from (operand_node (of_sign s y.from t) ∷ []);
  spells = lone_signed (y ∷ xs) _ (signed y xs s t is chain);
  node = signed_node y.kind s y.from t is;
}

pub more_some : {X : Type 0} (xs : List X) (x : X) → 1 ≤ length xs → 2 ≤ length (xs ++ x ∷ [])
more_some [] x some = absurd (omega arith)
more_some (y ∷ []) x some = omega arith
more_some (y ∷ (w ∷ xs)) x some = omega arith

pub run_more : (z : TextBytes) (xs ys : List KLexeme) (first : Operand) (others : List KRawOperand) (o : Operand) → RunOf z xs first others → OperandOf z ys o
    → RunOf z (xs ++ ys) first (others ++ operand_node o ∷ [])
run_more z xs ys first others o r s =
    let nodes = operand_node first ∷ others in
    let all : SpellsOperands z (xs ++ ys) (nodes ++ operand_node o ∷ []) = more_operands xs ys nodes (operand_node o) r.operands s.operand in
    let place : first.at ≡ first_at (xs ++ ys) = r.place ∙ sym (filled_operands z xs nodes r.operands ys) in
    let many : 2 ≤ length (nodes ++ operand_node o ∷ []) = more_some nodes (operand_node o) (omega arith) in
    record {
      operands = all;
      place = place;
      tree = tree.Run (first_at (xs ++ ys)) (nodes ++ operand_node o ∷ []);
      spells = run (xs ++ ys) (nodes ++ operand_node o ∷ []) all many;
      node = many_node first (others ++ operand_node o ∷ []) _ _ refl place many;
    }

pub record Joined (z : TextBytes) (xs : List KLexeme) (first : Option Operand) (others : List KRawOperand) (o : Operand) : Type 0 where
  pub head : Operand
  pub rest : List KRawOperand
  pub run_of : RunOf z xs head rest
  pub is : (ranking : Option Ranking) (ors ands : Parts) (sg : Option Sign) (nr : Option Nearing) (last : Option Placed)
      → join_run first o (level_of ranking ors ands first others sg nr last) ≡ level_of ranking ors ands (Some head) rest None nr None

pub joined : (z : TextBytes) (ys : List KLexeme) (o : Operand) (xs : List KLexeme) (first : Option Operand) (others : List KRawOperand)
    → RunPart z xs first others → OperandOf z ys o → Joined z (xs ++ ys) first others o
joined z ys o _ _ _ no_run s = record {
  head = o;
  rest = [];
  run_of = record { operands = one_operand ys (operand_node o) s.operand; place = s.place; tree = s.tree; spells = s.spells; node = s.node };
  is = λ ranking ors ands sg nr last. refl;
}
joined z ys o _ _ _ (some_run xs first others r) s = record {
  head = first;
  rest = others ++ operand_node o ∷ [];
  run_of = run_more z xs ys first others o r s;
  is = λ ranking ors ands sg nr last. refl;
}

pub record HadOf (z : TextBytes) (xs : List KLexeme) (sg : Option Sign) (nr : Option Nearing) (last : Option Placed) : Type 0 where
  pub tree : Placed
  pub last_is : last ≡ Some tree
  pub nr_is : nr ≡ None
  pub operand_of : OperandOf z xs (operand sg tree)

pub had_of : (z : TextBytes) (xs : List KLexeme) (sg : Option Sign) (nr : Option Nearing) (last : Option Placed) → Pending z xs state.Had sg nr last → HadOf z xs sg nr last
had_of z _ _ _ _ (had_plain xs t at chain is) = record { tree = placed at t; last_is = refl; nr_is = refl; operand_of = operand_plain z xs t at chain is }
had_of z _ _ _ _ (had_signed y s xs t at is chain place) = record { tree = placed at t; last_is = refl; nr_is = refl; operand_of = operand_signed z y s xs t is chain }

-- a level whose last operand has joined the run
pub record ClosedOf (z : TextBytes) (xs : List KLexeme) (l : Level) : Type 0 where
  pub ranking : Option Ranking
  pub ors : Parts
  pub ands : Parts
  pub head : Operand
  pub rest : List KRawOperand
  pub ranks : List KLexeme
  pub alternatives : List KLexeme
  pub conjuncts : List KLexeme
  pub operands : List KLexeme
  pub split : xs ≡ ranks ++ (alternatives ++ (conjuncts ++ operands))
  pub rank_part : RankPart z ranks ranking
  pub ors_part : OrsPart z alternatives ors
  pub ands_part : AndsPart z conjuncts ands
  pub run_of : RunOf z operands head rest
  pub is : closed l ≡ running ranking ors ands head rest

-- more lexemes at the end of a stretch's operands
pub longer : (xs r o a f e : List KLexeme) → xs ≡ r ++ (o ++ (a ++ f)) → xs ++ e ≡ r ++ (o ++ (a ++ (f ++ e)))
longer xs r o a f e is =
    ap (λ l. l ++ e) is ∙ (append_assoc r (o ++ (a ++ f)) e ∙ ap (λ l. r ++ l) (append_assoc o (a ++ f) e ∙ ap (λ l. o ++ l) (append_assoc a f e)))

pub close_level : (z : TextBytes) (xs : List KLexeme) (l : Level) → LevelOf z xs state.Had l → ClosedOf z xs l
close_level z xs l v =
    let s = v.stretch in
    let h = had_of z v.end v.sg v.nr v.last v.pending in
    let j = joined z v.end (operand v.sg h.tree) s.operands v.first v.others s.run_part h.operand_of in
    let whole_level = level_of v.ranking v.ors v.ands v.first v.others v.sg v.nr v.last in
    record {
      ranking = v.ranking;
      ors = v.ors;
      ands = v.ands;
      head = j.head;
      rest = j.rest;
      ranks = s.ranks;
      alternatives = s.alternatives;
      conjuncts = s.conjuncts;
      operands = s.operands ++ v.end;
      split = v.split ∙ longer v.front s.ranks s.alternatives s.conjuncts s.operands v.end s.split;
      rank_part = s.rank_part;
      ors_part = s.ors_part;
      ands_part = s.ands_part;
      run_of = j.run_of;
      is = ap closed v.is ∙ (closed_some whole_level h.tree h.last_is ∙ (j.is v.ranking v.ors v.ands v.sg v.nr v.last
          ∙ ap (λ n. level_of v.ranking v.ors v.ands (Some j.head) j.rest None n None) h.nr_is));
    }

-- ---- what is whole

pub not_none : {X : Type 0} (xs : List X) → 1 ≤ length xs → (length xs == 0) ≡ false
not_none xs some = not_zero (length xs) some

-- a place behind an operator, as a place of the whole
pub place_on : (x : KLexeme) (xs ys : List KLexeme) → Filled xs → first_at xs ≡ first_at ((xs ++ x ∷ []) ++ ys)
place_on x xs ys some = sym (ap first_at (append_assoc xs (x ∷ []) ys) ∙ some (x ∷ ys))

pub record AndsOf (z : TextBytes) (xs : List KLexeme) (ps : Parts) : Type 0 where
  pub trees : List KRaw
  pub runs : SpellsRuns z xs trees
  pub some : 1 ≤ length trees
  pub is : ps ≡ parts (first_at xs) trees
  pub tree : KRaw
  pub spells : SpellsAnd z xs tree
  pub node : and_node ps ≡ placed (first_at xs) tree

pub ands_of : (z : TextBytes) (ys : List KLexeme) (t : KRaw) → SpellsRun z ys t → (xs : List KLexeme) (ps : Parts) → AndsPart z xs ps
    → AndsOf z (xs ++ ys) (with_part ps (placed (first_at ys) t))
ands_of z ys t s _ _ no_ands = record {
  trees = t ∷ [];
  runs = one_run ys t s;
  some = omega arith;
  is = part_one (placed (first_at ys) t);
  tree = t;
  spells = lone_run ys t s;
  node = ap and_node (part_one (placed (first_at ys) t)) ∙ and_one (first_at ys) t;
}
ands_of z ys t s _ _ (some_ands x xs ts front some is) =
    let all = (xs ++ x ∷ []) ++ ys in
    let Runs : List KLexeme → Type 0 = λ l. SpellsRuns z l (ts ++ t ∷ []) in
    let runs : SpellsRuns z all (ts ++ t ∷ []) = subst Runs (sym (append_assoc xs (x ∷ []) ys)) (more_runs x xs ys ts t front is s) in
    let place = place_on x xs ys (filled_runs z xs ts front) in
    let same = part_more (first_at xs) (first_at all) ts (placed (first_at ys) t) (not_none ts some) place in
    let many = more_some ts t some in
    record {
      trees = ts ++ t ∷ [];
      runs = runs;
      some = omega (arith, many);
      is = same;
      tree = tree.And (first_at all) (ts ++ t ∷ []);
      spells = and all (ts ++ t ∷ []) runs many;
      node = ap and_node same ∙ and_many (first_at all) (ts ++ t ∷ []) many;
    }

pub record OrsOf (z : TextBytes) (xs : List KLexeme) (ps : Parts) : Type 0 where
  pub trees : List KRaw
  pub ands : SpellsAnds z xs trees
  pub some : 1 ≤ length trees
  pub is : ps ≡ parts (first_at xs) trees
  pub tree : KRaw
  pub spells : SpellsOr z xs tree
  pub node : or_node ps ≡ placed (first_at xs) tree

pub ors_of : (z : TextBytes) (ys : List KLexeme) (t : KRaw) → SpellsAnd z ys t → (xs : List KLexeme) (ps : Parts) → OrsPart z xs ps
    → OrsOf z (xs ++ ys) (with_part ps (placed (first_at ys) t))
ors_of z ys t s _ _ no_ors = record {
  trees = t ∷ [];
  ands = one_and ys t s;
  some = omega arith;
  is = part_one (placed (first_at ys) t);
  tree = t;
  spells = lone_and ys t s;
  node = ap or_node (part_one (placed (first_at ys) t)) ∙ or_one (first_at ys) t;
}
ors_of z ys t s _ _ (some_ors x xs ts front some is) =
    let all = (xs ++ x ∷ []) ++ ys in
    let Ands : List KLexeme → Type 0 = λ l. SpellsAnds z l (ts ++ t ∷ []) in
    let ands : SpellsAnds z all (ts ++ t ∷ []) = subst Ands (sym (append_assoc xs (x ∷ []) ys)) (more_ands x xs ys ts t front is s) in
    let place = place_on x xs ys (filled_ands z xs ts front) in
    let same = part_more (first_at xs) (first_at all) ts (placed (first_at ys) t) (not_none ts some) place in
    let many = more_some ts t some in
    record {
      trees = ts ++ t ∷ [];
      ands = ands;
      some = omega (arith, many);
      is = same;
      tree = tree.Or (first_at all) (ts ++ t ∷ []);
      spells = or all (ts ++ t ∷ []) ands many;
      node = ap or_node same ∙ or_many (first_at all) (ts ++ t ∷ []) many;
    }

pub record WholeOf (z : TextBytes) (xs : List KLexeme) (p : Placed) : Type 0 where
  pub tree : KRaw
  pub spells : Spells z xs tree
  pub is : p ≡ placed (first_at xs) tree

pub rank_of : (z : TextBytes) (ys : List KLexeme) (t : KRaw) → SpellsOr z ys t → (xs : List KLexeme) (ranking : Option Ranking) → RankPart z xs ranking
    → WholeOf z (xs ++ ys) (ranked_by ranking (placed (first_at ys) t))
rank_of z ys t s _ _ no_rank = record { tree = t; spells = unranked ys t s; is = refl }
rank_of z ys t s _ _ (some_rank x xs u cb left is) =
    let node = tree.Xrank (first_at xs) u t cb in
    let Whole : List KLexeme → Type 0 = λ l. Spells z l node in
    record {
      tree = node;
      spells = subst Whole (sym (append_assoc xs (x ∷ []) ys)) (xrank x xs ys u t cb left is s);
      is = ap (λ at. placed at node) (place_on x xs ys (filled z xs u left));
    }

-- a level whose run is whole
pub record RunDone (z : TextBytes) (xs : List KLexeme) (l : Level) : Type 0 where
  pub ranking : Option Ranking
  pub ors : Parts
  pub ranks : List KLexeme
  pub alternatives : List KLexeme
  pub conjuncts : List KLexeme
  pub split : xs ≡ ranks ++ (alternatives ++ conjuncts)
  pub rank_part : RankPart z ranks ranking
  pub ors_part : OrsPart z alternatives ors
  pub ands : Parts
  pub ands_are : AndsOf z conjuncts ands
  pub is : with_and l ≡ start ranking ors ands

pub run_done : (z : TextBytes) (xs : List KLexeme) (l : Level) → LevelOf z xs state.Had l → RunDone z xs l
run_done z xs l v =
    let c = close_level z xs l v in
    let r = c.run_of in
    record {
      ranking = c.ranking;
      ors = c.ors;
      ranks = c.ranks;
      alternatives = c.alternatives;
      conjuncts = c.conjuncts ++ c.operands;
      split = c.split;
      rank_part = c.rank_part;
      ors_part = c.ors_part;
      ands = with_part c.ands (placed (first_at c.operands) r.tree);
      ands_are = ands_of z c.operands r.tree r.spells c.conjuncts c.ands c.ands_part;
      is = run_end c.ranking c.ors c.ands c.head c.rest l (placed (first_at c.operands) r.tree) c.is r.node;
    }

-- a level whose AND is whole
pub record AndDone (z : TextBytes) (xs : List KLexeme) (l : Level) : Type 0 where
  pub ranking : Option Ranking
  pub ranks : List KLexeme
  pub alternatives : List KLexeme
  pub split : xs ≡ ranks ++ alternatives
  pub rank_part : RankPart z ranks ranking
  pub ors : Parts
  pub ors_are : OrsOf z alternatives ors
  pub is : with_or l ≡ start ranking ors no_parts

pub and_done : (z : TextBytes) (xs : List KLexeme) (l : Level) → LevelOf z xs state.Had l → AndDone z xs l
and_done z xs l v =
    let d = run_done z xs l v in
    let a = d.ands_are in
    record {
      ranking = d.ranking;
      ranks = d.ranks;
      alternatives = d.alternatives ++ d.conjuncts;
      split = d.split;
      rank_part = d.rank_part;
      ors = with_part d.ors (placed (first_at d.conjuncts) a.tree);
      ors_are = ors_of z d.conjuncts a.tree a.spells d.alternatives d.ors d.ors_part;
      is = and_level d.ranking d.ors d.ands l (placed (first_at d.conjuncts) a.tree) d.is a.node;
    }

-- all that stands at a level
pub level_whole : (z : TextBytes) (xs : List KLexeme) (l : Level) → LevelOf z xs state.Had l → WholeOf z xs (whole l)
level_whole z xs l v =
    let d = and_done z xs l v in
    let o = d.ors_are in
    let w = rank_of z d.alternatives o.tree o.spells d.ranks d.ranking d.rank_part in
    let Whole : List KLexeme → Type 0 = λ x. WholeOf z x (whole l) in
    subst Whole (sym d.split) (record {
      tree = w.tree;
      spells = w.spells;
      is = or_level d.ranking d.ors l (placed (first_at d.alternatives) o.tree) d.is o.node ∙ w.is;
    })
