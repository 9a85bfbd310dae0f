-- Lexemes that stand in order spell the tree that is read of them.
use Rattle.std.proofs.Common.{◌≡◌, ℕ, suc, ◌+◌, ◌-◌, ◌==◌, if◌then◌else◌, ◌<◌, ℤ, Bool, true, false, List, [], ◌∷◌, ◌++◌, length, Option, Some, None, Ok, Err, refl, sym, subst, ap, ◌∙◌, append_assoc, length-append, ◌⊎◌, inl, inr, arith}
use Rattle.std.proofs.lemmas.List.{append-nil}
use Rattle.std.proofs.lemmas.Bool.Decides.{nat_tests}
use Rattle.std.specs.List.{AllByRecursion}
use Rattle.sq_lex.specs.declared.lexeme.KKind.{KKind}
use Rattle.sq_lex.specs.declared.lexeme.KKind.TheVariants as kind
use Rattle.sq_lex.specs.declared.lexeme.KLexeme.{KLexeme}
use Rattle.sq_lex.specs.Bytes.{TextBytes}
use Rattle.sq_base.specs.Outcome.{Outcome, ◌>>=◌, refused}
use Rattle.sq_lex.specs.Kql.{lexemes_of}
use Rattle.sq_lex.specs.Shape.{is_single, IsFree, AreListed, nothing, single, list, LexemesAreSound}
use Rattle.sq_kql.specs.Law.{IsTreeOf}
use Rattle.sq_kql.specs.declared.raw.Piece.{Piece}
use Rattle.sq_kql.specs.declared.raw.RawSign.{RawSign}
use Rattle.sq_kql.specs.declared.raw.RawSign.TheVariants as sign
use Rattle.sq_kql.specs.declared.raw.KRawOperand.{KRawOperand}
use Rattle.sq_kql.specs.declared.raw.KRaw.{KRaw}
use Rattle.sq_kql.specs.declared.raw.KRaw.TheVariants as tree
use Rattle.sq_kql.specs.declared.order.State.{State}
use Rattle.sq_kql.specs.declared.order.State.TheVariants as state
use Rattle.sq_kql.specs.declared.order.Standing.{Standing}
use Rattle.sq_kql.specs.declared.codes.TheConstants.{UNCLOSED_PAREN}
use Rattle.sq_kql.specs.declared.level.Sign.{Sign}
use Rattle.sq_kql.specs.declared.level.Placed.{Placed}
use Rattle.sq_kql.specs.declared.level.Operand.{Operand}
use Rattle.sq_kql.specs.declared.level.Parts.{Parts}
use Rattle.sq_kql.specs.declared.level.Nearing.{Nearing}
use Rattle.sq_kql.specs.declared.level.Ranking.{Ranking}
use Rattle.sq_kql.specs.declared.level.Level.{Level}
use Rattle.sq_kql.specs.declared.level.Outer.{Outer}
use Rattle.sq_kql.specs.declared.level.Reading.{Reading}
use Rattle.sq_kql.specs.Node.{piece}
use Rattle.sq_kql.specs.Order.{role_of, standing, sign_at, after_operand, step, ending, order_from, order}
use Rattle.sq_kql.specs.Tree.{placed, no_parts, closed, with_operand, with_sign, with_proximity, with_and, with_or, whole, with_xrank, with_close, shift, nothing_read, tree_of}
use Rattle.sq_kql.specs.Grammar.{IsSign, plus, minus, negation, IsProximity, unordered, ordered, Lists, no_items, more_items, first_at, SpellsBasic, free, all, restrict, words, group, basic, near, Spells}
use Rattle.sq_kql.proofs.LevelLemmas.{reading, reads, start, new_operand}
use Rattle.sq_kql.proofs.ListLemmas.{split_last_is}
use Rattle.sq_kql.proofs.UniqueLemmas.{filled_chain, reads_on, shifted, proximity_shift, sign_shift, sign_level, basic_reads, xrank_level, spells_read}
use Rattle.sq_kql.proofs.ReadLemmas.{RankPart, no_rank, some_rank, OrsPart, no_ors, some_ors, AndsPart, no_ands, some_ands, no_run, some_run, sign_of, near_of, Pending, wanted, waits, near_plain, near_signed, had_plain, had_signed, level_of, Stretch, LevelOf, had_of, close_level, run_done, and_done, WholeOf, level_whole}

-- ---- an operand comes

-- behind another operand
had_operand : (z : TextBytes) (us : List KLexeme) (t : KRaw) → SpellsBasic z us t → (xs : List KLexeme) (l : Level) → LevelOf z xs state.Had l
    → LevelOf z (xs ++ us) state.Had (with_operand l (placed (first_at us) t))
had_operand z us t b xs l v =
    let h = had_of z v.end v.sg v.nr v.last v.pending in
    let c = close_level z xs l v in
    let p = placed (first_at us) t in
    record {
      ranking = c.ranking;
      ors = c.ors;
      ands = c.ands;
      first = Some c.head;
      others = c.rest;
      sg = None;
      nr = None;
      last = Some p;
      is = new_operand l p (ap (λ (m : Level). m.nearing) v.is ∙ h.nr_is) ∙ ap (λ (m : Level). record m { last = Some p }) c.is;
      front = xs;
      end = us;
      split = refl;
      stretch = record {
        ranks = c.ranks;
        alternatives = c.alternatives;
        conjuncts = c.conjuncts;
        operands = c.operands;
        split = c.split;
        rank_part = c.rank_part;
        ors_part = c.ors_part;
        ands_part = c.ands_part;
        run_part = some_run c.operands c.head c.rest c.run_of;
      };
      pending = had_plain us t (first_at us) (basic us t b) refl;
    }

-- a level with an operand, by its parts
level_had : {z : TextBytes} {ranking : Option Ranking} {ors ands : Parts} {first : Option Operand} {others : List KRawOperand} {sg : Option Sign} {nr : Option Nearing}
    {last : Option Placed} (front end : List KLexeme) → Stretch z front ranking ors ands first others → Pending z end state.Had sg nr last
    → LevelOf z (front ++ end) state.Had (level_of ranking ors ands first others sg nr last)
level_had {z} {ranking} {ors} {ands} {first} {others} {sg} {nr} {last} front end s p = record {
  ranking = ranking;
  ors = ors;
  ands = ands;
  first = first;
  others = others;
  sg = sg;
  nr = nr;
  last = last;
  is = refl;
  front = front;
  end = end;
  split = refl;
  stretch = s;
  pending = p;
}

operand_pending : (z : TextBytes) (us : List KLexeme) (t : KRaw) → SpellsBasic z us t → (front : List KLexeme) (ranking : Option Ranking) (ors ands : Parts) (first : Option Operand)
    (others : List KRawOperand) → Stretch z front ranking ors ands first others → (end : List KLexeme) (now : State) (sg : Option Sign) (nr : Option Nearing) (last : Option Placed)
    → Pending z end now sg nr last → LevelOf z ((front ++ end) ++ us) state.Had (with_operand (level_of ranking ors ands first others sg nr last) (placed (first_at us) t))
unfolding with_operand closed
operand_pending z us t b front ranking ors ands first others s _ _ _ _ _ wanted = record {
  ranking = ranking;
  ors = ors;
  ands = ands;
  first = first;
  others = others;
  sg = None;
  nr = None;
  last = Some (placed (first_at us) t);
  is = refl;
  front = front;
  end = us;
  split = ap (λ l. l ++ us) (append-nil front);
  stretch = s;
  pending = had_plain us t (first_at us) (basic us t b) refl;
}
operand_pending z us t b front ranking ors ands first others s _ _ _ _ _ (waits x g is) = record {
  ranking = ranking;
  ors = ors;
  ands = ands;
  first = first;
  others = others;
  sg = Some (sign_of g x.from);
  nr = None;
  last = Some (placed (first_at us) t);
  is = refl;
  front = front;
  end = x ∷ us;
  split = append_assoc front (x ∷ []) us;
  stretch = s;
  pending = had_signed x g us t (first_at us) is (basic us t b) refl;
}
operand_pending z us t b front ranking ors ands first others s _ _ _ _ _ (near_plain x xs u n o left is) =
    let node = tree.Near (first_at xs) u t n o in
    record {
      ranking = ranking;
      ors = ors;
      ands = ands;
      first = first;
      others = others;
      sg = None;
      nr = None;
      last = Some (placed (first_at xs) node);
      is = refl;
      front = front;
      end = xs ++ x ∷ us;
      split = append_assoc front (xs ++ x ∷ []) us ∙ ap (λ l. front ++ l) (append_assoc xs (x ∷ []) us);
      stretch = s;
      pending = had_plain (xs ++ x ∷ us) node (first_at xs) (near x xs us u t n o left is b) (sym (filled_chain z xs u left (x ∷ us)));
    }
operand_pending z us t b front ranking ors ands first others s _ _ _ _ _ (near_signed y g x xs u n o by left is) =
    let node = tree.Near (first_at xs) u t n o in
    record {
      ranking = ranking;
      ors = ors;
      ands = ands;
      first = first;
      others = others;
      sg = Some (sign_of g y.from);
      nr = None;
      last = Some (placed (first_at xs) node);
      is = refl;
      front = front;
      end = y ∷ (xs ++ x ∷ us);
      split = append_assoc front (y ∷ (xs ++ x ∷ [])) us ∙ ap (λ l. front ++ y ∷ l) (append_assoc xs (x ∷ []) us);
      stretch = s;
      pending = had_signed y g (xs ++ x ∷ us) node (first_at xs) by (near x xs us u t n o left is b) (sym (filled_chain z xs u left (x ∷ us)));
    }
operand_pending z us t b front ranking ors ands first others s _ _ _ _ _ (had_plain xs u at chain place) =
    had_operand z us t b (front ++ xs) _ (level_had front xs s (had_plain xs u at chain place))
operand_pending z us t b front ranking ors ands first others s _ _ _ _ _ (had_signed y g xs u at by chain place) =
    had_operand z us t b (front ++ y ∷ xs) _ (level_had front (y ∷ xs) s (had_signed y g xs u at by chain place))

operand_level : (z : TextBytes) (us : List KLexeme) (t : KRaw) → SpellsBasic z us t → (xs : List KLexeme) (now : State) (l : Level) → LevelOf z xs now l
    → LevelOf z (xs ++ us) state.Had (with_operand l (placed (first_at us) t))
operand_level z us t b xs now l v =
    let p = placed (first_at us) t in
    let By : Level → Type 0 = λ m. LevelOf z (xs ++ us) state.Had (with_operand m p) in
    let Of : List KLexeme → Type 0 = λ ys. LevelOf z (ys ++ us) state.Had (with_operand (level_of v.ranking v.ors v.ands v.first v.others v.sg v.nr v.last) p) in
    subst By (sym v.is) (subst Of (sym v.split)
    (operand_pending z us t b v.front v.ranking v.ors v.ands v.first v.others v.stretch v.end now v.sg v.nr v.last v.pending))

-- ---- a sign, a proximity operator, AND, OR and XRANK come

-- a level where an operand is wanted behind those of the run
sign_pending : (z : TextBytes) (x : KLexeme) (g : RawSign) → IsSign x.kind g → (front : List KLexeme) (ranking : Option Ranking) (ors ands : Parts) (first : Option Operand)
    (others : List KRawOperand) → Stretch z front ranking ors ands first others → (end : List KLexeme) (sg : Option Sign) (nr : Option Nearing) (last : Option Placed)
    → Pending z end state.Wanted sg nr last → LevelOf z ((front ++ end) ++ x ∷ []) state.Signed (with_sign g x.from (level_of ranking ors ands first others sg nr last))
unfolding with_sign closed
sign_pending z x g is front ranking ors ands first others s _ _ _ _ wanted = record {
  ranking = ranking;
  ors = ors;
  ands = ands;
  first = first;
  others = others;
  sg = Some (sign_of g x.from);
  nr = None;
  last = None;
  is = refl;
  front = front;
  end = x ∷ [];
  split = ap (λ l. l ++ x ∷ []) (append-nil front);
  stretch = s;
  pending = waits x g is;
}

sign_wanted : (z : TextBytes) (x : KLexeme) (g : RawSign) → IsSign x.kind g → (xs : List KLexeme) (l : Level) → LevelOf z xs state.Wanted l
    → LevelOf z (xs ++ x ∷ []) state.Signed (with_sign g x.from l)
sign_wanted z x g is xs l v =
    let By : Level → Type 0 = λ m. LevelOf z (xs ++ x ∷ []) state.Signed (with_sign g x.from m) in
    let Of : List KLexeme → Type 0 = λ ys. LevelOf z (ys ++ x ∷ []) state.Signed (with_sign g x.from (level_of v.ranking v.ors v.ands v.first v.others v.sg v.nr v.last)) in
    subst By (sym v.is) (subst Of (sym v.split) (sign_pending z x g is v.front v.ranking v.ors v.ands v.first v.others v.stretch v.end v.sg v.nr v.last v.pending))

sign_had : (z : TextBytes) (x : KLexeme) (g : RawSign) → IsSign x.kind g → (xs : List KLexeme) (l : Level) → LevelOf z xs state.Had l
    → LevelOf z (xs ++ x ∷ []) state.Signed (with_sign g x.from l)
sign_had z x g is xs l v =
    let c = close_level z xs l v in
    record {
      ranking = c.ranking;
      ors = c.ors;
      ands = c.ands;
      first = Some c.head;
      others = c.rest;
      sg = Some (sign_of g x.from);
      nr = None;
      last = None;
      is = sign_level g x.from l ∙ ap (λ (m : Level). record m { sign = Some (sign_of g x.from) }) c.is;
      front = xs;
      end = x ∷ [];
      split = refl;
      stretch = record {
        ranks = c.ranks;
        alternatives = c.alternatives;
        conjuncts = c.conjuncts;
        operands = c.operands;
        split = c.split;
        rank_part = c.rank_part;
        ors_part = c.ors_part;
        ands_part = c.ands_part;
        run_part = some_run c.operands c.head c.rest c.run_of;
      };
      pending = waits x g is;
    }

near_pending : (z : TextBytes) (x : KLexeme) (n : ℕ) (o : Bool) → IsProximity x.kind n o → (front : List KLexeme) (ranking : Option Ranking) (ors ands : Parts)
    (first : Option Operand) (others : List KRawOperand) → Stretch z front ranking ors ands first others → (end : List KLexeme) (sg : Option Sign) (nr : Option Nearing)
    (last : Option Placed) → Pending z end state.Had sg nr last
    → LevelOf z ((front ++ end) ++ x ∷ []) state.Nearing (with_proximity n o (level_of ranking ors ands first others sg nr last))
unfolding with_proximity
near_pending z x n o is front ranking ors ands first others s _ _ _ _ (had_plain xs t at chain place) = record {
  ranking = ranking;
  ors = ors;
  ands = ands;
  first = first;
  others = others;
  sg = None;
  nr = Some (near_of (first_at xs) t n o);
  last = None;
  is = ap (λ a. level_of ranking ors ands first others None (Some (near_of a t n o)) None) place;
  front = front;
  end = xs ++ x ∷ [];
  split = append_assoc front xs (x ∷ []);
  stretch = s;
  pending = near_plain x xs t n o chain is;
}
near_pending z x n o is front ranking ors ands first others s _ _ _ _ (had_signed y g xs t at by chain place) = record {
  ranking = ranking;
  ors = ors;
  ands = ands;
  first = first;
  others = others;
  sg = Some (sign_of g y.from);
  nr = Some (near_of (first_at xs) t n o);
  last = None;
  is = ap (λ a. level_of ranking ors ands first others (Some (sign_of g y.from)) (Some (near_of a t n o)) None) place;
  front = front;
  end = y ∷ (xs ++ x ∷ []);
  split = append_assoc front (y ∷ xs) (x ∷ []);
  stretch = s;
  pending = near_signed y g x xs t n o by chain is;
}

near_had : (z : TextBytes) (x : KLexeme) (n : ℕ) (o : Bool) → IsProximity x.kind n o → (xs : List KLexeme) (l : Level) → LevelOf z xs state.Had l
    → LevelOf z (xs ++ x ∷ []) state.Nearing (with_proximity n o l)
near_had z x n o is xs l v =
    let By : Level → Type 0 = λ m. LevelOf z (xs ++ x ∷ []) state.Nearing (with_proximity n o m) in
    let Of : List KLexeme → Type 0 = λ ys. LevelOf z (ys ++ x ∷ []) state.Nearing (with_proximity n o (level_of v.ranking v.ors v.ands v.first v.others v.sg v.nr v.last)) in
    subst By (sym v.is) (subst Of (sym v.split) (near_pending z x n o is v.front v.ranking v.ors v.ands v.first v.others v.stretch v.end v.sg v.nr v.last v.pending))

-- a level where a new run begins
begun : (z : TextBytes) (xs ranks alternatives conjuncts : List KLexeme) (ranking : Option Ranking) (ors ands : Parts) (l : Level) → l ≡ start ranking ors ands
    → xs ≡ ranks ++ (alternatives ++ conjuncts) → RankPart z ranks ranking → OrsPart z alternatives ors → AndsPart z conjuncts ands → LevelOf z xs state.Wanted l
begun z xs ranks alternatives conjuncts ranking ors ands l is split r o a = record {
  ranking = ranking;
  ors = ors;
  ands = ands;
  first = None;
  others = [];
  sg = None;
  nr = None;
  last = None;
  is = is;
  front = xs;
  end = [];
  split = sym (append-nil xs);
  stretch = record {
    ranks = ranks;
    alternatives = alternatives;
    conjuncts = conjuncts;
    operands = [];
    split = split ∙ ap (λ c. ranks ++ (alternatives ++ c)) (sym (append-nil conjuncts));
    rank_part = r;
    ors_part = o;
    ands_part = a;
    run_part = no_run;
  };
  pending = wanted;
}

and_had : (z : TextBytes) (x : KLexeme) → x.kind ≡ kind.And → (xs : List KLexeme) (l : Level) → LevelOf z xs state.Had l → LevelOf z (xs ++ x ∷ []) state.Wanted (with_and l)
and_had z x is xs l v =
    let d = run_done z xs l v in
    let a = d.ands_are in
    begun z (xs ++ x ∷ []) d.ranks d.alternatives (d.conjuncts ++ x ∷ []) d.ranking d.ors _ (with_and l) (d.is ∙ ap (start d.ranking d.ors) a.is)
    (ap (λ ys. ys ++ x ∷ []) d.split ∙ (append_assoc d.ranks (d.alternatives ++ d.conjuncts) (x ∷ []) ∙ ap (λ ys. d.ranks ++ ys) (append_assoc d.alternatives d.conjuncts (x ∷ []))))
    d.rank_part d.ors_part (some_ands x d.conjuncts a.trees a.runs a.some is)

or_had : (z : TextBytes) (x : KLexeme) → x.kind ≡ kind.Or → (xs : List KLexeme) (l : Level) → LevelOf z xs state.Had l → LevelOf z (xs ++ x ∷ []) state.Wanted (with_or l)
or_had z x is xs l v =
    let d = and_done z xs l v in
    let o = d.ors_are in
    begun z (xs ++ x ∷ []) d.ranks (d.alternatives ++ x ∷ []) [] d.ranking _ no_parts (with_or l) (d.is ∙ ap (λ p. start d.ranking p no_parts) o.is)
    (ap (λ ys. ys ++ x ∷ []) d.split ∙ (append_assoc d.ranks d.alternatives (x ∷ []) ∙ ap (λ ys. d.ranks ++ ys) (sym (append-nil (d.alternatives ++ x ∷ [])))))
    d.rank_part (some_ors x d.alternatives o.trees o.ands o.some is) no_ands

xrank_had : (z : TextBytes) (x : KLexeme) (cb : ℤ) → x.kind ≡ kind.Xrank cb → (xs : List KLexeme) (l : Level) → LevelOf z xs state.Had l
    → LevelOf z (xs ++ x ∷ []) state.Wanted (with_xrank cb l)
xrank_had z x cb is xs l v =
    let w = level_whole z xs l v in
    begun z (xs ++ x ∷ []) (xs ++ x ∷ []) [] [] _ no_parts no_parts (with_xrank cb l) (xrank_level cb l (placed (first_at xs) w.tree) w.is) (sym (append-nil (xs ++ x ∷ [])))
    (some_rank x xs w.tree cb w.spells is) no_ors no_ands

-- ---- levels of parentheses

-- the levels round one, each with the `(` behind it
data Around (z : TextBytes) : List KLexeme → List Outer → Type 0 where
  outermost : Around z [] []
  inside : (x : KLexeme) (ys xs : List KLexeme) (outer : List Outer) (now : State) (l : Level) → Around z ys outer → LevelOf z xs now l → x.kind ≡ kind.LeftParen
      → Around z ((ys ++ xs) ++ x ∷ []) (outer ++ record { level = l; at = x.from } ∷ [])

record ReadingOf (z : TextBytes) (xs : List KLexeme) (now : Standing) (r : Reading) : Type 0 where
  pub outer : List Outer
  pub level : Level
  pub around_xs : List KLexeme
  pub level_xs : List KLexeme
  pub is : r ≡ reading level outer
  pub split : xs ≡ around_xs ++ level_xs
  pub around : Around z around_xs outer
  pub of : LevelOf z level_xs now.state level
  pub depth : length outer ≡ now.levels

-- a lexeme or several change the innermost level
stepped : (z : TextBytes) (us xs : List KLexeme) (now : Standing) (next : State) (r : Reading) (g : ReadingOf z xs now r) (level : Level)
    → reads z (reading g.level g.outer) us ≡ reading level g.outer → LevelOf z (g.level_xs ++ us) next level → ReadingOf z (xs ++ us) (standing next now.levels) (reads z r us)
stepped z us xs now next r g level same of = record {
  outer = g.outer;
  level = level;
  around_xs = g.around_xs;
  level_xs = g.level_xs ++ us;
  is = ap (λ q. reads z q us) g.is ∙ same;
  split = ap (λ ys. ys ++ us) g.split ∙ append_assoc g.around_xs g.level_xs us;
  around = g.around;
  of = of;
  depth = g.depth;
}

operand_step : (z : TextBytes) (us : List KLexeme) (t : KRaw) → SpellsBasic z us t → (xs : List KLexeme) (now : Standing) (r : Reading) → ReadingOf z xs now r
    → ReadingOf z (xs ++ us) (standing state.Had now.levels) (reads z r us)
operand_step z us t b xs now r g =
    stepped z us xs now state.Had r g (with_operand g.level (placed (first_at us) t)) (basic_reads z us t b g.level g.outer)
    (operand_level z us t b g.level_xs now.state g.level g.of)

open_step : (z : TextBytes) (x : KLexeme) → x.kind ≡ kind.LeftParen → (xs : List KLexeme) (now : Standing) (r : Reading) → ReadingOf z xs now r
    → ReadingOf z (xs ++ x ∷ []) (standing state.Wanted (now.levels + 1)) (shift z r x)
open_step z x is xs now r g =
    let o : Outer = record { level = g.level; at = x.from } in
    record {
      outer = g.outer ++ o ∷ [];
      level = start None no_parts no_parts;
      around_xs = (g.around_xs ++ g.level_xs) ++ x ∷ [];
      level_xs = [];
      is = ap (λ q. shift z q x) g.is ∙ shifted z (reading g.level g.outer) x kind.LeftParen is;
      split = ap (λ ys. ys ++ x ∷ []) g.split ∙ sym (append-nil ((g.around_xs ++ g.level_xs) ++ x ∷ []));
      around = inside x g.around_xs g.level_xs g.outer now.state g.level g.around g.of is;
      of = begun z [] [] [] [] None no_parts no_parts (start None no_parts no_parts) refl refl no_rank no_ors no_ands;
      depth = length-append g.outer (o ∷ []) ∙ ap (λ n. n + 1) g.depth;
    }

close_around : (z : TextBytes) (x : KLexeme) → x.kind ≡ kind.RightParen → (xs : List KLexeme) (l : Level) → LevelOf z xs state.Had l → (levels : ℕ)
    → (ys : List KLexeme) (outer : List Outer) → Around z ys outer → length outer ≡ levels → 0 < levels
    → ReadingOf z ((ys ++ xs) ++ x ∷ []) (standing state.Had (levels - 1)) (shift z (reading l outer) x)
close_around z x is xs l v levels _ _ outermost depth parted = absurd (omega (arith, depth, parted))
close_around z x is xs l v levels _ _ (inside p ws vs outer now m around u opens) depth parted =
    let o : Outer = record { level = m; at = p.from } in
    let w = level_whole z xs l v in
    let us = p ∷ (xs ++ x ∷ []) in
    let t = tree.Group p.from w.tree in
    record {
      outer = outer;
      level = with_operand m (placed p.from t);
      around_xs = ws;
      level_xs = vs ++ us;
      is = shifted z (reading l (outer ++ o ∷ [])) x kind.RightParen is
          ∙ (ap (λ s. with_close s (reading l (outer ++ o ∷ []))) (split_last_is (outer ++ o ∷ []) outer o refl)
          ∙ ap (λ (q : Placed). reading (with_operand m (placed p.from (tree.Group p.from q.tree))) outer) w.is);
      split = append_assoc ((ws ++ vs) ++ p ∷ []) xs (x ∷ []) ∙ (append_assoc (ws ++ vs) (p ∷ []) (xs ++ x ∷ []) ∙ append_assoc ws vs us);
      around = around;
      of = operand_level z us t (group p x xs w.tree opens w.spells is) vs now m u;
      depth = omega (arith, depth, length-append outer (o ∷ []));
    }

close_step : (z : TextBytes) (x : KLexeme) → x.kind ≡ kind.RightParen → (xs : List KLexeme) (now : Standing) (r : Reading) → ReadingOf z xs now r → now.state ≡ state.Had → 0 < now.levels
    → ReadingOf z (xs ++ x ∷ []) (standing state.Had (now.levels - 1)) (shift z r x)
close_step z x is xs now r g had parted =
    let Level_of : State → Type 0 = λ s. LevelOf z g.level_xs s g.level in
    let c = close_around z x is g.level_xs g.level (subst Level_of had g.of) now.levels g.around_xs g.outer g.around g.depth parted in
    let Of : List KLexeme → Type 0 = λ ys. ReadingOf z (ys ++ x ∷ []) (standing state.Had (now.levels - 1)) (shift z r x) in
    let By : Reading → Type 0 = λ q. ReadingOf z ((g.around_xs ++ g.level_xs) ++ x ∷ []) (standing state.Had (now.levels - 1)) (shift z q x) in
    subst Of (sym g.split) (subst By (sym g.is) c)

-- ---- the table

after_ok : (s : State) (next : Standing) (at : ℕ) (to : Standing) → after_operand s next at ≡ Ok to → (s ≡ state.Had) × (next ≡ to)
after_ok state.Wanted next at to h = absurd cc
after_ok state.Signed next at to h = absurd cc
after_ok state.Nearing next at to h = absurd cc
after_ok state.Had next at to h = (refl, cc)

sign_ok : (s : State) (levels at : ℕ) (to : Standing) → sign_at s levels at ≡ Ok to → ((s ≡ state.Wanted) ⊎ (s ≡ state.Had)) × (standing state.Signed levels ≡ to)
sign_ok state.Wanted levels at to h = (inl refl, cc)
sign_ok state.Signed levels at to h = absurd cc
sign_ok state.Nearing levels at to h = absurd cc
sign_ok state.Had levels at to h = (inr refl, cc)

abbrev done_or : Bool → ℕ → ℕ → Outcome (Unit {0})
done_or t code at = if t then Ok tt else refused code at

zero_of : (levels : ℕ) (t : Bool) (code at : ℕ) → (levels == 0) ≡ t → done_or t code at ≡ Ok tt → levels ≡ 0
zero_of levels true code at is h = grind (arith, nat_tests)
zero_of levels false code at is h = absurd cc

ending_ok : (s : State) (levels len : ℕ) → ending s levels len ≡ Ok tt → (s ≡ state.Had) × (levels ≡ 0)
ending_ok state.Wanted levels len h = absurd cc
ending_ok state.Signed levels len h = absurd cc
ending_ok state.Nearing levels len h = absurd cc
ending_ok state.Had levels len h = (refl, zero_of levels (levels == 0) UNCLOSED_PAREN len refl h)

open_ok : (t : Bool) (o : Standing) (code at : ℕ) (to : Standing) → (if t then Ok o else refused code at) ≡ Ok to → o ≡ to
open_ok true o code at to h = cc
open_ok false o code at to h = absurd cc

close_by : (levels : ℕ) (t : Bool) (o : Outcome Standing) (code at : ℕ) (to : Standing) → (levels == 0) ≡ t → (if t then refused code at else o) ≡ Ok to
    → (0 < levels) × (o ≡ Ok to)
close_by levels true o code at to is h = absurd cc
close_by levels false o code at to is h = (grind (arith, nat_tests), h)

close_ok : (levels : ℕ) (o : Outcome Standing) (code at : ℕ) (to : Standing) → (if levels == 0 then refused code at else o) ≡ Ok to → (0 < levels) × (o ≡ Ok to)
close_ok levels o code at to h = close_by levels (levels == 0) o code at to refl h

became : (z : TextBytes) (xs : List KLexeme) (a b : Standing) (r : Reading) → a ≡ b → ReadingOf z xs a r → ReadingOf z xs b r
became z xs a b r is g = let Of : Standing → Type 0 = λ s. ReadingOf z xs s r in subst Of is g

had_now : (z : TextBytes) (xs : List KLexeme) (now : Standing) (r : Reading) (g : ReadingOf z xs now r) → now.state ≡ state.Had → LevelOf z g.level_xs state.Had g.level
had_now z xs now r g is = let Of : State → Type 0 = λ s. LevelOf z g.level_xs s g.level in subst Of is g.of

wanted_now : (z : TextBytes) (xs : List KLexeme) (now : Standing) (r : Reading) (g : ReadingOf z xs now r) → now.state ≡ state.Wanted → LevelOf z g.level_xs state.Wanted g.level
wanted_now z xs now r g is = let Of : State → Type 0 = λ s. LevelOf z g.level_xs s g.level in subst Of is g.of

sign_level_of : (z : TextBytes) (x : KLexeme) (s : RawSign) → IsSign x.kind s → (xs : List KLexeme) (now : Standing) (r : Reading) (g : ReadingOf z xs now r)
    → (now.state ≡ state.Wanted) ⊎ (now.state ≡ state.Had) → LevelOf z (g.level_xs ++ x ∷ []) state.Signed (with_sign s x.from g.level)
sign_level_of z x s is xs now r g (inl w) = sign_wanted z x s is g.level_xs g.level (wanted_now z xs now r g w)
sign_level_of z x s is xs now r g (inr h) = sign_had z x s is g.level_xs g.level (had_now z xs now r g h)

sign_step : (z : TextBytes) (x : KLexeme) (s : RawSign) → IsSign x.kind s → (xs : List KLexeme) (now to : Standing) (r : Reading) → ReadingOf z xs now r
    → sign_at now.state now.levels x.from ≡ Ok to → ReadingOf z (xs ++ x ∷ []) to (shift z r x)
sign_step z x s is xs now to r g h =
    let ok = sign_ok now.state now.levels x.from to h in
    became z (xs ++ x ∷ []) (standing state.Signed now.levels) to (shift z r x) ok.1
    (stepped z (x ∷ []) xs now state.Signed r g (with_sign s x.from g.level) (sign_shift z x.kind s x.from (reading g.level g.outer) is)
    (sign_level_of z x s is xs now r g ok.0))

near_step : (z : TextBytes) (x : KLexeme) (n : ℕ) (o : Bool) → IsProximity x.kind n o → (xs : List KLexeme) (now to : Standing) (r : Reading) → ReadingOf z xs now r
    → after_operand now.state (standing state.Nearing now.levels) x.from ≡ Ok to → ReadingOf z (xs ++ x ∷ []) to (shift z r x)
near_step z x n o is xs now to r g h =
    let ok = after_ok now.state (standing state.Nearing now.levels) x.from to h in
    became z (xs ++ x ∷ []) (standing state.Nearing now.levels) to (shift z r x) ok.1
    (stepped z (x ∷ []) xs now state.Nearing r g (with_proximity n o g.level) (proximity_shift z x.kind n o x.from (reading g.level g.outer) is)
    (near_had z x n o is g.level_xs g.level (had_now z xs now r g ok.0)))

-- one lexeme that stands by itself, by its kind
single_step : (z : TextBytes) (x : KLexeme) (xs : List KLexeme) (now to : Standing) (r : Reading) (k : KKind) → x.kind ≡ k → is_single k ≡ true
    → step (role_of k) now x.from ≡ Ok to → ReadingOf z xs now r → ReadingOf z (xs ++ x ∷ []) to (shift z r x)
single_step z x xs now to r (kind.Free c) is alone h g =
    let same : standing state.Had now.levels ≡ to = cc in became z _ _ to _ same (operand_step z (x ∷ []) (tree.Free (piece z c)) (free x c is) xs now r g)
single_step z x xs now to r kind.All is alone h g =
    let same : standing state.Had now.levels ≡ to = cc in became z _ _ to _ same (operand_step z (x ∷ []) (tree.All x.from) (all x is) xs now r g)
single_step z x xs now to r (kind.Restrict name_to rel c upper) is alone h g =
    let same : standing state.Had now.levels ≡ to = cc in became z _ _ to _ same (operand_step z (x ∷ []) _ (restrict x name_to rel c upper is) xs now r g)
single_step z x xs now to r kind.Plus is alone h g =
    let Of : KKind → Type 0 = λ k. IsSign k sign.Plus in sign_step z x sign.Plus (subst Of (sym is) plus) xs now to r g h
single_step z x xs now to r kind.Minus is alone h g =
    let Of : KKind → Type 0 = λ k. IsSign k sign.Minus in sign_step z x sign.Minus (subst Of (sym is) minus) xs now to r g h
single_step z x xs now to r kind.Not is alone h g =
    let Of : KKind → Type 0 = λ k. IsSign k sign.Minus in sign_step z x sign.Minus (subst Of (sym is) negation) xs now to r g h
single_step z x xs now to r kind.And is alone h g =
    let ok = after_ok now.state (standing state.Wanted now.levels) x.from to h in
    became z _ _ to _ ok.1 (stepped z (x ∷ []) xs now state.Wanted r g (with_and g.level) (shifted z (reading g.level g.outer) x kind.And is)
    (and_had z x is g.level_xs g.level (had_now z xs now r g ok.0)))
single_step z x xs now to r kind.Or is alone h g =
    let ok = after_ok now.state (standing state.Wanted now.levels) x.from to h in
    became z _ _ to _ ok.1 (stepped z (x ∷ []) xs now state.Wanted r g (with_or g.level) (shifted z (reading g.level g.outer) x kind.Or is)
    (or_had z x is g.level_xs g.level (had_now z xs now r g ok.0)))
single_step z x xs now to r (kind.Xrank cb) is alone h g =
    let ok = after_ok now.state (standing state.Wanted now.levels) x.from to h in
    became z _ _ to _ ok.1 (stepped z (x ∷ []) xs now state.Wanted r g (with_xrank cb g.level) (shifted z (reading g.level g.outer) x (kind.Xrank cb) is)
    (xrank_had z x cb is g.level_xs g.level (had_now z xs now r g ok.0)))
single_step z x xs now to r (kind.Near n) is alone h g =
    let Of : KKind → Type 0 = λ k. IsProximity k n false in near_step z x n false (subst Of (sym is) unordered) xs now to r g h
single_step z x xs now to r (kind.Onear n) is alone h g =
    let Of : KKind → Type 0 = λ k. IsProximity k n true in near_step z x n true (subst Of (sym is) ordered) xs now to r g h
single_step z x xs now to r kind.LeftParen is alone h g = became z _ _ to _ (open_ok _ _ _ _ to h) (open_step z x is xs now r g)
single_step z x xs now to r kind.RightParen is alone h g =
    let parted = close_ok now.levels _ _ _ to h in
    let ok = after_ok now.state (standing state.Had (now.levels - 1)) x.from to parted.1 in
    became z _ _ to _ ok.1 (close_step z x is xs now r g ok.0 parted.0)
single_step z x xs now to r (kind.Words count) is alone h g = absurd cc
single_step z x xs now to r kind.WordsEnd is alone h g = absurd cc

-- ---- WORDS lists

record Listed (z : TextBytes) (xs : List KLexeme) : Type 0 where
  pub pieces : List Piece
  pub lists : Lists z xs pieces
  pub count : length pieces ≡ length xs

listed_of : (z : TextBytes) (xs : List KLexeme) → AllByRecursion IsFree xs → Listed z xs
listed_of z [] each = record { pieces = []; lists = no_items; count = refl }
listed_of z (x ∷ xs) each =
    let rest = listed_of z xs each.1 in
    record { pieces = piece z each.0.0 ∷ rest.pieces; lists = more_items x xs rest.pieces each.0.0 each.0.1 rest.lists; count = ap suc rest.count }

-- ---- all lexemes

record Goes (o : Outcome Standing) (f : Standing → Outcome (Unit {0})) : Type 0 where
  pub next : Standing
  pub is : o ≡ Ok next
  pub on : f next ≡ Ok tt

goes : (o : Outcome Standing) (f : Standing → Outcome (Unit {0})) → (o >>= f) ≡ Ok tt → Goes o f
goes (Ok s) f h = record { next = s; is = refl; on = h }
goes (Err e) f h = absurd cc

-- an operand stands in every state
operand_goes : (k : KKind) (c : KKind) (now : Standing) (at : ℕ) (f : Standing → Outcome (Unit {0})) → k ≡ c → step (role_of c) now at ≡ Ok (standing state.Had now.levels)
    → (step (role_of k) now at >>= f) ≡ f (standing state.Had now.levels)
operand_goes k c now at f is goes_on = ap (λ j. step (role_of j) now at >>= f) is ∙ ap (λ o. o >>= f) goes_on

items_go : (len levels : ℕ) (xs ys : List KLexeme) → AllByRecursion IsFree xs → order_from (standing state.Had levels) len (xs ++ ys) ≡ order_from (standing state.Had levels) len ys
unfolding order_from
items_go len levels [] ys each = refl
items_go len levels (x ∷ xs) ys each =
    operand_goes x.kind (kind.Free each.0.0) (standing state.Had levels) x.from (λ next. order_from next len (xs ++ ys)) each.0.1 refl ∙ items_go len levels xs ys each.1

list_goes : (len : ℕ) (now : Standing) (x y : KLexeme) (items xs : List KLexeme) (n : ℕ) → x.kind ≡ kind.Words n → AllByRecursion IsFree items → y.kind ≡ kind.WordsEnd
    → order_from now len (x ∷ (items ++ y ∷ xs)) ≡ order_from (standing state.Had now.levels) len xs
unfolding order_from
list_goes len now x y items xs n is each end =
    operand_goes x.kind (kind.Words n) now x.from (λ next. order_from next len (items ++ y ∷ xs)) is refl
    ∙ (items_go len now.levels items (y ∷ xs) each
    ∙ operand_goes y.kind kind.WordsEnd (standing state.Had now.levels) y.from (λ next. order_from next len xs) end refl)

-- at the end no level is parted
around_none : (z : TextBytes) (ys : List KLexeme) (outer : List Outer) → Around z ys outer → length outer ≡ 0 → ys ≡ []
around_none z _ _ outermost depth = refl
around_none z _ _ (inside p ws vs outer now m around u opens) depth = absurd (omega (arith, depth, length-append outer (record { level = m; at = p.from } ∷ [])))

end_read : (z : TextBytes) (len : ℕ) (xs : List KLexeme) (now : Standing) (r : Reading) → ReadingOf z xs now r → ending now.state now.levels len ≡ Ok tt → WholeOf z (xs ++ []) (whole r.level)
end_read z len xs now r g h =
    let ok = ending_ok now.state now.levels len h in
    let w = level_whole z g.level_xs g.level (had_now z xs now r g ok.0) in
    let none = around_none z g.around_xs g.outer g.around (g.depth ∙ ok.1) in
    let same : g.level_xs ≡ xs ++ [] = sym (append-nil xs ∙ (g.split ∙ ap (λ ys. ys ++ g.level_xs) none)) in
    let Of : List KLexeme → Type 0 = λ ys. WholeOf z ys (whole r.level) in
    let By : Reading → Type 0 = λ q. WholeOf z g.level_xs (whole q.level) in
    subst Of same (subst By (sym g.is) w)

start_from : (now : Standing) (len : ℕ) (x : KLexeme) (xs : List KLexeme) → order_from now len (x ∷ xs) ≡ Ok tt → Goes (step (role_of x.kind) now x.from) (λ next. order_from next len xs)
unfolding order_from
start_from now len x xs h = goes (step (role_of x.kind) now x.from) (λ next. order_from next len xs) h

end_from : (now : Standing) (len : ℕ) → order_from now len [] ≡ Ok tt → ending now.state now.levels len ≡ Ok tt
unfolding order_from
end_from now len h = h

all_read : (z : TextBytes) (len : ℕ) (rest : List KLexeme) → AreListed rest → (xs : List KLexeme) (now : Standing) (r : Reading) → ReadingOf z xs now r
    → order_from now len rest ≡ Ok tt → WholeOf z (xs ++ rest) (whole (reads z r rest).level)
all_read z len _ nothing xs now r g h = end_read z len xs now r g (end_from now len h)
all_read z len _ (single x rest alone listed) xs now r g h =
    let n = start_from now len x rest h in
    let Of : List KLexeme → Type 0 = λ ys. WholeOf z ys (whole (reads z (shift z r x) rest).level) in
    subst Of (append_assoc xs (x ∷ []) rest)
    (all_read z len rest listed (xs ++ x ∷ []) n.next (shift z r x) (single_step z x xs now n.next r x.kind refl alone n.is g) n.on)
all_read z len _ (list x y items rest is each end listed) xs now r g h =
    let l = listed_of z items each in
    let us = x ∷ (items ++ y ∷ []) in
    let b = words x y items l.pieces (is ∙ ap kind.Words (sym l.count)) l.lists end in
    let same : us ++ rest ≡ x ∷ (items ++ y ∷ rest) = ap (λ ys. x ∷ ys) (append_assoc items (y ∷ []) rest) in
    let w = all_read z len rest listed (xs ++ us) (standing state.Had now.levels) (reads z r us) (operand_step z us (tree.Words x.from l.pieces) b xs now r g)
    (sym (list_goes len now x y items rest (length items) is each end) ∙ h) in
    let Of : List KLexeme → Type 0 = λ ys. WholeOf z ys (whole (reads z (reads z r us) rest).level) in
    let By : Reading → Type 0 = λ q. WholeOf z (xs ++ x ∷ (items ++ y ∷ rest)) (whole q.level) in
    let read : reads z (reads z r us) rest ≡ reads z r (x ∷ (items ++ y ∷ rest)) = sym (reads_on z r (reads z r us) us rest refl) ∙ ap (reads z r) same in
    subst By read (subst Of (append_assoc xs us rest ∙ ap (λ ys. xs ++ ys) same) w)

spelled : (z : TextBytes) (xs : List KLexeme) → WholeOf z xs (whole (reads z nothing_read xs).level) → Spells z xs (tree_of z xs)
unfolding tree_of
spelled z xs w = let Of : KRaw → Type 0 = λ t. Spells z xs t in subst Of (sym (ap (λ (p : Placed). p.tree) w.is)) w.spells

begins : (len : ℕ) (xs : List KLexeme) → order len xs ≡ Ok tt → order_from (standing state.Wanted 0) len xs ≡ Ok tt
unfolding order
begins len [] h = absurd cc
begins len (x ∷ xs) h = h

-- lexemes that stand in order spell the tree that is read of them
pub order_spells : (z : TextBytes) (xs : List KLexeme) → AreListed xs → order (length z) xs ≡ Ok tt → Spells z xs (tree_of z xs)
order_spells z xs listed h =
    let fresh_level = start None no_parts no_parts in
    let g : ReadingOf z [] (standing state.Wanted 0) nothing_read = record {
      outer = [];
      level = fresh_level;
      around_xs = [];
      level_xs = [];
      is = refl;
      split = refl;
      around = outermost;
      of = begun z [] [] [] [] None no_parts no_parts fresh_level refl refl no_rank no_ors no_ands;
      depth = refl;
    } in
    spelled z xs (all_read z (length z) xs listed [] (standing state.Wanted 0) nothing_read g (begins (length z) xs h))

-- what is read of the lexemes of a text is its tree
pub tree_is : (z : TextBytes) (xs : List KLexeme) (t : KRaw) → lexemes_of z ≡ Ok xs → LexemesAreSound → order (length z) xs ≡ Ok tt → t ≡ tree_of z xs → IsTreeOf z t
tree_is z xs t read sound stands is =
    let Of : KRaw → Type 0 = λ u. IsTreeOf z u in
    subst Of (sym is) (record { lexemes = xs; read = read; ordered = stands; spelled = order_spells z xs (sound z xs read).0 stands; only = spells_read z xs })
