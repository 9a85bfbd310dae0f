-- What lexemes of a text spell is well formed.
use Rattle.std.proofs.Common.{◌≡◌, ◌≢◌, ℕ, ◌+◌, ◌-◌, ◌*◌, ◌≤◌, ℤ, Bool, true, false, if◌then◌else◌, List, [], ◌∷◌, ◌++◌, length, Option, Some, None, Ok, IfSome, refl, subst, ◌∙◌, length-append, length-take, arith}
use Rattle.std.proofs.lemmas.List.Sums.{sum_by-cons, sum_by-append}
use Rattle.std.specs.Prelude.{unsigned_abs, is_some}
use Rattle.std.specs.Option.{option_map}
use Rattle.std.specs.List.{AllByRecursion, sum_by}
use Rattle.sq_tokens.specs.Token.{text_tokens}
use Rattle.sq_tokens.specs.Pattern.{without_good_star, first_bad_star}
use Rattle.sq_lex.specs.declared.lexeme.Cut.{Cut}
use Rattle.sq_lex.specs.declared.lexeme.Relation.{Relation}
use Rattle.sq_lex.specs.declared.lexeme.KKind.{KKind}
use Rattle.sq_lex.specs.declared.lexeme.KKind.TheVariants as kind
use Rattle.sq_lex.specs.declared.lexeme.KLexeme.{KLexeme}
use Rattle.sq_lex.specs.Bytes.{TextBytes}
use Rattle.sq_lex.specs.Kql.{cut_text, starless, has_some, judged, lexemes_of}
use Rattle.sq_lex.specs.Places.{Fills, UpperFills, ValuesFill, PiecesFill, IsFilled, StandBetween, LexemesAreInPlace}
use Rattle.sq_lex.specs.Shape.{IsSound, IsSoundLexeme, IsStarless as IsStarlessCut, LexemesAreSound}
use Rattle.sq_kql.specs.declared.raw.Piece.{Piece}
use Rattle.sq_kql.specs.declared.raw.RawSign.{RawSign}
use Rattle.sq_kql.specs.declared.raw.KRawOperand.{KRawOperand}
use Rattle.sq_kql.specs.declared.raw.KRaw.{KRaw}
use Rattle.sq_kql.specs.declared.raw.KRaw.TheVariants as tree
use Rattle.sq_kql.specs.Node.{piece, operand_of}
use Rattle.sq_kql.specs.Grammar.{IsProximity, unordered, ordered, Lists, no_items, more_items, first_at, SpellsBasic, free, all, restrict, words, group, SpellsChain, basic, near, SpellsSigned, signed, SpellsOperand, plain, behind_sign, SpellsOperands, one_operand, more_operands, SpellsRun, lone, lone_signed, run, SpellsRuns, one_run, more_runs, SpellsAnd, lone_run, and, SpellsAnds, one_and, more_ands, SpellsOr, lone_and, or, Spells, unranked, xrank}
use Rattle.sq_kql.specs.Law.{IsTreeOf}
use Rattle.sq_kql.specs.WellFormed.{IsStarless, IsPattern, HasForm, piece_bytes, upper_bytes, bytes, nodes, IsWellFormed}
use Rattle.sq_kql.proofs.TreeLemmas.{OperandHasForm, bytes_of, nodes_of, and_form, or_form, and_bytes, or_bytes, and_nodes, or_nodes, run_form, run_bytes, run_nodes, group_form, group_bytes, group_nodes, near_form, near_bytes, near_nodes, xrank_form, xrank_bytes, xrank_nodes}

-- ---- what is known of a lexeme

abbrev pub IsKept : TextBytes → KLexeme → Type 0
IsKept z x = IsSoundLexeme z x × IsFilled x

abbrev pub AreKept : TextBytes → List KLexeme → Type 0
AreKept z xs = AllByRecursion (IsKept z) xs

both : {X : Type 0} (P Q : X → Type 0) (xs : List X) → AllByRecursion P xs → AllByRecursion Q xs → AllByRecursion (λ x. P x × Q x) xs
both P Q [] p q = tt
both P Q (x ∷ xs) p q = ((p.0, q.0), both P Q xs p.1 q.1)

front_of : {X : Type 0} (P : X → Type 0) (xs ys : List X) → AllByRecursion P (xs ++ ys) → AllByRecursion P xs
front_of P [] ys each = tt
front_of P (x ∷ xs) ys each = (each.0, front_of P xs ys each.1)

rest_of : {X : Type 0} (P : X → Type 0) (xs ys : List X) → AllByRecursion P (xs ++ ys) → AllByRecursion P ys
rest_of P [] ys each = each
rest_of P (x ∷ xs) ys each = rest_of P xs ys each.1

push_each : {X : Type 0} (P : X → Type 0) (xs : List X) (x : X) → AllByRecursion P xs → P x → AllByRecursion P (xs ++ x ∷ [])
push_each P [] x each one = (one, tt)
push_each P (y ∷ ys) x each one = (each.0, push_each P ys x each.1 one)

kind_sound : (z : TextBytes) (x : KLexeme) (k : KKind) → x.kind ≡ k → IsKept z x → IsSound z k
kind_sound z x k is kept = subst (IsSound z) is kept.0

kind_filled : (z : TextBytes) (x : KLexeme) (k : KKind) → x.kind ≡ k → IsKept z x → PiecesFill x.from x.to k
kind_filled z x k is kept = subst (PiecesFill x.from x.to) is kept.1

-- ---- bytes and numbers of lexemes

abbrev pub width : KLexeme → ℕ
width x = x.to - x.from

abbrev pub room : List KLexeme → ℕ
room xs = sum_by width xs

-- Lexemes have room for so many bytes, and for half so many nodes.
pub record Holds (xs : List KLexeme) (b n : ℕ) : Type 0 where
  pub size : b ≤ room xs
  pub count : n ≤ 2 * length xs

none_hold : Holds [] 0 0
none_hold = record { size = omega arith; count = omega arith }

hold_less : (xs : List KLexeme) (b n c m : ℕ) → Holds xs b n → c ≤ b → m ≤ n → Holds xs c m
hold_less xs b n c m h fewer less = record { size = omega (arith, h.size, fewer); count = omega (arith, h.count, less) }

hold_more : (x : KLexeme) (xs : List KLexeme) (a b n : ℕ) → a ≤ width x → Holds xs b n → Holds (x ∷ xs) (a + b) (n + 2)
hold_more x xs a b n within h = record { size = omega (arith, within, h.size, sum_by-cons width x xs); count = omega (arith, h.count) }

hold_both : (xs ys : List KLexeme) (b n c m : ℕ) → Holds xs b n → Holds ys c m → Holds (xs ++ ys) (b + c) (n + m)
hold_both xs ys b n c m h k =
    record { size = omega (arith, h.size, k.size, sum_by-append width xs ys); count = omega (arith, h.count, k.count, length-append xs ys) }

one_holds : (x : KLexeme) (b : ℕ) → b ≤ width x → Holds (x ∷ []) b 2
one_holds x b within = hold_less (x ∷ []) (b + 0) (0 + 2) b 2 (hold_more x [] b 0 0 within none_hold) (omega arith) (omega arith)

-- between parentheses, or the words of a list
hold_between : (x y : KLexeme) (xs : List KLexeme) (b n : ℕ) → Holds xs b n → Holds (x ∷ (xs ++ y ∷ [])) b (n + 2)
hold_between x y xs b n h =
    hold_less (x ∷ (xs ++ y ∷ [])) (0 + (b + 0)) (n + 2 + 2) b (n + 2)
    (hold_more x (xs ++ y ∷ []) 0 (b + 0) (n + 2) (omega arith) (hold_both xs (y ∷ []) b n 0 2 h (one_holds y 0 (omega arith)))) (omega arith) (omega arith)

-- two sides, and an operator between
hold_sides : (x : KLexeme) (xs ys : List KLexeme) (b n c m : ℕ) → Holds xs b n → Holds ys c m → Holds (xs ++ x ∷ ys) (b + c) (n + m)
hold_sides x xs ys b n c m h k =
    hold_less (xs ++ x ∷ ys) (b + (0 + c)) (n + (m + 2)) (b + c) (n + m) (hold_both xs (x ∷ ys) b n (0 + c) (m + 2) h (hold_more x ys 0 c m (omega arith) k)) (omega arith) (omega arith)

-- ---- pieces

starless_ok : (from : ℕ) (star : Option ℕ) (has r : Bool) → starless from star has ≡ Ok r → (star ≡ None) × (has ≡ r)
starless_ok from None has r is = (refl, cc)
starless_ok from (Some star) has r is = absurd cc

filled : {X : Type 0} (xs : List X) → has_some xs ≡ true → xs ≢ []
filled [] is none = absurd cc
filled (x ∷ xs) is none = absurd cc

starless_piece : (z : TextBytes) (c : Cut) → IsStarlessCut z c → IsStarless (piece z c)
unfolding judged
starless_piece z c s = (starless_ok c.from (first_bad_star (cut_text z c)) (has_some (text_tokens (without_good_star (cut_text z c)))) s.0 s.1).0

pattern_piece : (z : TextBytes) (c : Cut) → judged z c ≡ Ok true → IsPattern (piece z c)
unfolding judged
pattern_piece z c is =
    let tokens = text_tokens (without_good_star (cut_text z c)) in
    let s = starless_ok c.from (first_bad_star (cut_text z c)) (has_some tokens) true is in (s.0, filled tokens s.1)

starless_upper : (z : TextBytes) (upper : Option Cut) → IfSome upper (IsStarlessCut z) → IfSome (option_map (piece z) upper) IsStarless
starless_upper z None s = tt
starless_upper z (Some c) s = starless_piece z c s

same_some : (z : TextBytes) (upper : Option Cut) → is_some (option_map (piece z) upper) ≡ is_some upper
same_some z None = refl
same_some z (Some c) = refl

between : (q : Bool) (a b from to : ℕ) → a ≡ (if q then from + 1 else from) → a ≤ b → (if q then b + 1 else b) ≡ to → b - a + from ≤ to
between true a b from to start rises end = omega (arith, start, rises, end)
between false a b from to start rises end = omega (arith, start, rises, end)

part_short : (z : TextBytes) (from to : ℕ) → length (cut_text z (record { from = from; to = to; quoted = false })) ≤ to - from
part_short z from to = simp length-take (omega arith)

piece_fits : (z : TextBytes) (c : Cut) (from to : ℕ) → Fills from to c → piece_bytes (piece z c) + from ≤ to
piece_fits z c from to f = omega (arith, part_short z c.from c.to, between c.quoted c.from c.to from to f.start f.ordered f.end)

upper_fits : (z : TextBytes) (from to : ℕ) (upper : Option Cut) → UpperFills from to upper → upper_bytes (option_map (piece z) upper) + from ≤ to
upper_fits z from to None fills = omega (arith, fills)
upper_fits z from to (Some c) fills = omega (arith, piece_fits z c (from + 2) to fills)

values_fit : (z : TextBytes) (x : KLexeme) (name_to : ℕ) (c : Cut) (upper : Option Cut) → ValuesFill x.from x.to name_to c upper
    → piece_bytes (piece z c) + upper_bytes (option_map (piece z) upper) ≤ width x
values_fit z x name_to c upper v =
    omega (arith, v.name, v.relation, piece_fits z c v.value_at v.value_to v.value, upper_fits z v.value_to x.to upper v.upper_value)

-- ---- what each rule spells

-- a tree of lexemes
pub record Grown (xs : List KLexeme) (t : KRaw) : Type 0 where
  pub form : HasForm t
  pub held : Holds xs (bytes t) (nodes t + 1)

-- an operand, with its sign counted
pub record GrownOperand (xs : List KLexeme) (extra : ℕ) (o : KRawOperand) : Type 0 where
  pub form : OperandHasForm o
  pub held : Holds xs (bytes_of o) (nodes_of o + extra)

pub record GrownOperands (xs : List KLexeme) (os : List KRawOperand) : Type 0 where
  pub form : AllByRecursion OperandHasForm os
  pub held : Holds xs (sum_by bytes_of os) (sum_by nodes_of os + length os)

pub record GrownParts (xs : List KLexeme) (ts : List KRaw) : Type 0 where
  pub form : AllByRecursion HasForm ts
  pub held : Holds xs (sum_by bytes ts) (sum_by nodes ts + length ts)

grown : (xs : List KLexeme) (t : KRaw) (b n : ℕ) → HasForm t → Holds xs b n → bytes t ≤ b → nodes t + 1 ≤ n → Grown xs t
grown xs t b n form h few less = record { form = form; held = hold_less xs b n (bytes t) (nodes t + 1) h few less }

items_grown : (z : TextBytes) (xs : List KLexeme) (ps : List Piece) → Lists z xs ps → AreKept z xs → AllByRecursion IsPattern ps × Holds xs (sum_by piece_bytes ps) 0
items_grown z _ _ no_items kept = (tt, none_hold)
items_grown z _ _ (more_items x xs ps c is items) kept =
    let rest = items_grown z xs ps items kept.1 in
    let fits = piece_fits z c x.from x.to (kind_filled z x (kind.Free c) is kept.0) in
    let h = hold_more x xs (piece_bytes (piece z c)) (sum_by piece_bytes ps) 0 (omega (arith, fits)) rest.1 in (
      (pattern_piece z c (kind_sound z x (kind.Free c) is kept.0), rest.0),
      hold_less (x ∷ xs) (piece_bytes (piece z c) + sum_by piece_bytes ps) (0 + 2) (sum_by piece_bytes (piece z c ∷ ps)) 0 h
          (omega (arith, sum_by-cons piece_bytes (piece z c) ps)) (omega arith),
    )

filled_list : {X : Type 0} (xs : List X) → 1 ≤ length xs → xs ≢ []
filled_list [] some none = absurd (omega (arith, some))
filled_list (x ∷ xs) some none = absurd cc

free_grown : (z : TextBytes) (x : KLexeme) (c : Cut) → x.kind ≡ kind.Free c → IsKept z x → Grown (x ∷ []) (tree.Free (piece z c))
free_grown z x c is kept = record {
  form = pattern_piece z c (kind_sound z x (kind.Free c) is kept);
  held = one_holds x (piece_bytes (piece z c)) (omega (arith, piece_fits z c x.from x.to (kind_filled z x (kind.Free c) is kept)));
}

restrict_grown : (z : TextBytes) (x : KLexeme) (at : ℕ) (name : TextBytes) (name_to : ℕ) (rel : Relation) (c : Cut) (upper : Option Cut) → x.kind ≡ kind.Restrict name_to rel c upper → IsKept z x
    → Grown (x ∷ []) (tree.Restrict at name rel (piece z c) (option_map (piece z) upper))
restrict_grown z x at name name_to rel c upper is kept =
    let s = kind_sound z x (kind.Restrict name_to rel c upper) is kept in
    record {
      form = (starless_piece z c s.0, starless_upper z upper s.1, same_some z upper ∙ s.2);
      held = one_holds x (piece_bytes (piece z c) + upper_bytes (option_map (piece z) upper))
          (values_fit z x name_to c upper (kind_filled z x (kind.Restrict name_to rel c upper) is kept));
    }

words_grown : (z : TextBytes) (x y : KLexeme) (xs : List KLexeme) (ps : List Piece) (at : ℕ) → x.kind ≡ kind.Words (length ps) → Lists z xs ps → AreKept z (x ∷ (xs ++ y ∷ []))
    → Grown (x ∷ (xs ++ y ∷ [])) (tree.Words at ps)
words_grown z x y xs ps at is items kept =
    let i = items_grown z xs ps items (front_of (IsKept z) xs (y ∷ []) kept.1) in
    record {
      form = (filled_list ps (kind_sound z x (kind.Words (length ps)) is kept.0), i.0);
      held = hold_between x y xs (sum_by piece_bytes ps) 0 i.1;
    }

group_grown : (x y : KLexeme) (xs : List KLexeme) (t : KRaw) (at : ℕ) → Grown xs t → Grown (x ∷ (xs ++ y ∷ [])) (tree.Group at t)
group_grown x y xs t at g =
    grown (x ∷ (xs ++ y ∷ [])) (tree.Group at t) (bytes t) (nodes t + 1 + 2) (group_form at t g.form) (hold_between x y xs (bytes t) (nodes t + 1) g.held)
    (omega (arith, group_bytes at t)) (omega (arith, group_nodes at t))

proximity_within : (z : TextBytes) (k : KKind) (n : ℕ) (o : Bool) → IsProximity k n o → IsSound z k → n ≤ 1000
proximity_within z _ _ _ unordered sound = sound
proximity_within z _ _ _ ordered sound = sound

near_grown : (x : KLexeme) (xs ys : List KLexeme) (t u : KRaw) (at n : ℕ) (o : Bool) → Grown xs t → n ≤ 1000 → Grown ys u → Grown (xs ++ x ∷ ys) (tree.Near at t u n o)
near_grown x xs ys t u at n o left within right =
    grown (xs ++ x ∷ ys) (tree.Near at t u n o) (bytes t + bytes u) (nodes t + 1 + (nodes u + 1)) (near_form at t u n o left.form right.form within)
    (hold_sides x xs ys (bytes t) (nodes t + 1) (bytes u) (nodes u + 1) left.held right.held) (omega (arith, near_bytes at t u n o)) (omega (arith, near_nodes at t u n o))

xrank_grown : (x : KLexeme) (xs ys : List KLexeme) (t u : KRaw) (at : ℕ) (cb : ℤ) → Grown xs t → unsigned_abs cb ≤ 1_000_000 → Grown ys u → Grown (xs ++ x ∷ ys) (tree.Xrank at t u cb)
xrank_grown x xs ys t u at cb left within right =
    grown (xs ++ x ∷ ys) (tree.Xrank at t u cb) (bytes t + bytes u) (nodes t + 1 + (nodes u + 1)) (xrank_form at t u cb left.form right.form within)
    (hold_sides x xs ys (bytes t) (nodes t + 1) (bytes u) (nodes u + 1) left.held right.held) (omega (arith, xrank_bytes at t u cb)) (omega (arith, xrank_nodes at t u cb))

signed_grown : (x : KLexeme) (xs : List KLexeme) (s : RawSign) (at : ℕ) (t : KRaw) → Grown xs t → GrownOperand (x ∷ xs) 2 (operand_of s at t)
signed_grown x xs s at t g = record {
  form = g.form;
  held = hold_less (x ∷ xs) (0 + bytes t) (nodes t + 1 + 2) (bytes t) (nodes t + 2) (hold_more x xs 0 (bytes t) (nodes t + 1) (omega arith) g.held) (omega arith) (omega arith);
}

plain_grown : (xs : List KLexeme) (s : RawSign) (at : ℕ) (t : KRaw) → Grown xs t → GrownOperand xs 1 (operand_of s at t)
plain_grown xs s at t g = record { form = g.form; held = g.held }

fewer : (xs : List KLexeme) (o : KRawOperand) → GrownOperand xs 2 o → GrownOperand xs 1 o
fewer xs o g = record { form = g.form; held = hold_less xs (bytes_of o) (nodes_of o + 2) (bytes_of o) (nodes_of o + 1) g.held (omega arith) (omega arith) }

one_operand_grown : (xs : List KLexeme) (o : KRawOperand) → GrownOperand xs 1 o → GrownOperands xs (o ∷ [])
one_operand_grown xs o g = record {
  form = (g.form, tt);
  held = hold_less xs (bytes_of o) (nodes_of o + 1) (sum_by bytes_of (o ∷ [])) (sum_by nodes_of (o ∷ []) + 1) g.held (omega (arith, sum_by-cons bytes_of o [])) (omega (arith, sum_by-cons nodes_of o []));
}

sum_push : {X : Type 0} (f : X → ℕ) (xs : List X) (x : X) → sum_by f (xs ++ x ∷ []) ≡ sum_by f xs + f x
sum_push f xs x = omega (arith, sum_by-append f xs (x ∷ []), sum_by-cons f x [])

more_operands_grown : (xs ys : List KLexeme) (os : List KRawOperand) (o : KRawOperand) → GrownOperands xs os → GrownOperand ys 1 o → GrownOperands (xs ++ ys) (os ++ o ∷ [])
more_operands_grown xs ys os o front last = record {
  form = push_each OperandHasForm os o front.form last.form;
  held = hold_less (xs ++ ys) (sum_by bytes_of os + bytes_of o) (sum_by nodes_of os + length os + (nodes_of o + 1)) (sum_by bytes_of (os ++ o ∷ []))
      (sum_by nodes_of (os ++ o ∷ []) + length (os ++ o ∷ []))
      (hold_both xs ys (sum_by bytes_of os) (sum_by nodes_of os + length os) (bytes_of o) (nodes_of o + 1) front.held last.held)
      (omega (arith, sum_push bytes_of os o)) (omega (arith, sum_push nodes_of os o, length-append os (o ∷ [])));
}

lone_grown : (xs : List KLexeme) (at : ℕ) (o : KRawOperand) → GrownOperand xs 2 o → Grown xs (tree.Run at (o ∷ []))
lone_grown xs at o g =
    grown xs (tree.Run at (o ∷ [])) (bytes_of o) (nodes_of o + 2) (run_form at (o ∷ []) (omega arith) (g.form, tt)) g.held
    (omega (arith, run_bytes at (o ∷ []), sum_by-cons bytes_of o [])) (omega (arith, run_nodes at (o ∷ []), sum_by-cons nodes_of o []))

run_grown : (xs : List KLexeme) (at : ℕ) (os : List KRawOperand) → GrownOperands xs os → 2 ≤ length os → Grown xs (tree.Run at os)
run_grown xs at os g many =
    grown xs (tree.Run at os) (sum_by bytes_of os) (sum_by nodes_of os + length os) (run_form at os (omega (arith, many)) g.form) g.held
    (omega (arith, run_bytes at os)) (omega (arith, run_nodes at os, many))

one_part_grown : (xs : List KLexeme) (t : KRaw) → Grown xs t → GrownParts xs (t ∷ [])
one_part_grown xs t g = record {
  form = (g.form, tt);
  held = hold_less xs (bytes t) (nodes t + 1) (sum_by bytes (t ∷ [])) (sum_by nodes (t ∷ []) + 1) g.held (omega (arith, sum_by-cons bytes t [])) (omega (arith, sum_by-cons nodes t []));
}

more_parts_grown : (x : KLexeme) (xs ys : List KLexeme) (ts : List KRaw) (t : KRaw) → GrownParts xs ts → Grown ys t → GrownParts (xs ++ x ∷ ys) (ts ++ t ∷ [])
more_parts_grown x xs ys ts t front last = record {
  form = push_each HasForm ts t front.form last.form;
  held = hold_less (xs ++ x ∷ ys) (sum_by bytes ts + bytes t) (sum_by nodes ts + length ts + (nodes t + 1)) (sum_by bytes (ts ++ t ∷ [])) (sum_by nodes (ts ++ t ∷ []) + length (ts ++ t ∷ []))
      (hold_sides x xs ys (sum_by bytes ts) (sum_by nodes ts + length ts) (bytes t) (nodes t + 1) front.held last.held)
      (omega (arith, sum_push bytes ts t)) (omega (arith, sum_push nodes ts t, length-append ts (t ∷ [])));
}

and_grown : (xs : List KLexeme) (at : ℕ) (ts : List KRaw) → GrownParts xs ts → 2 ≤ length ts → Grown xs (tree.And at ts)
and_grown xs at ts g many =
    grown xs (tree.And at ts) (sum_by bytes ts) (sum_by nodes ts + length ts) (and_form at ts (omega (arith, many)) g.form) g.held
    (omega (arith, and_bytes at ts)) (omega (arith, and_nodes at ts, many))

or_grown : (xs : List KLexeme) (at : ℕ) (ts : List KRaw) → GrownParts xs ts → 2 ≤ length ts → Grown xs (tree.Or at ts)
or_grown xs at ts g many =
    grown xs (tree.Or at ts) (sum_by bytes ts) (sum_by nodes ts + length ts) (or_form at ts (omega (arith, many)) g.form) g.held
    (omega (arith, or_bytes at ts)) (omega (arith, or_nodes at ts, many))

-- ---- each rule

mutual
  basic_grows : (z : TextBytes) (xs : List KLexeme) (t : KRaw) → SpellsBasic z xs t → AreKept z xs → Grown xs t
  basic_grows z _ _ (free x c is) kept = free_grown z x c is kept.0
  basic_grows z _ _ (all x is) kept = record { form = tt; held = one_holds x 0 (omega arith) }
  basic_grows z _ _ (restrict x name_to rel c upper is) kept = restrict_grown z x x.from _ name_to rel c upper is kept.0
  basic_grows z _ _ (words x y xs ps is items end) kept = words_grown z x y xs ps x.from is items kept
  basic_grows z _ _ (group x y xs t is inner end) kept = group_grown x y xs t x.from (whole_grows z xs t inner (front_of (IsKept z) xs (y ∷ []) kept.1))

  chain_grows : (z : TextBytes) (xs : List KLexeme) (t : KRaw) → SpellsChain z xs t → AreKept z xs → Grown xs t
  chain_grows z _ _ (basic xs t b) kept = basic_grows z xs t b kept
  chain_grows z _ _ (near x xs ys t u n o left is right) kept =
      let rest = rest_of (IsKept z) xs (x ∷ ys) kept in
      near_grown x xs ys t u (first_at xs) n o (chain_grows z xs t left (front_of (IsKept z) xs (x ∷ ys) kept)) (proximity_within z x.kind n o is rest.0.0)
      (basic_grows z ys u right rest.1)

  signed_grows : (z : TextBytes) (xs : List KLexeme) (o : KRawOperand) → SpellsSigned z xs o → AreKept z xs → GrownOperand xs 2 o
  signed_grows z _ _ (signed x xs s t is chain) kept = signed_grown x xs s x.from t (chain_grows z xs t chain kept.1)

  operand_grows : (z : TextBytes) (xs : List KLexeme) (o : KRawOperand) → SpellsOperand z xs o → AreKept z xs → GrownOperand xs 1 o
  operand_grows z _ _ (plain xs t chain) kept = plain_grown xs _ (first_at xs) t (chain_grows z xs t chain kept)
  operand_grows z _ _ (behind_sign xs o s) kept = fewer xs o (signed_grows z xs o s kept)

  operands_grow : (z : TextBytes) (xs : List KLexeme) (os : List KRawOperand) → SpellsOperands z xs os → AreKept z xs → GrownOperands xs os
  operands_grow z _ _ (one_operand xs o s) kept = one_operand_grown xs o (operand_grows z xs o s kept)
  operands_grow z _ _ (more_operands xs ys os o front last) kept =
      more_operands_grown xs ys os o (operands_grow z xs os front (front_of (IsKept z) xs ys kept)) (operand_grows z ys o last (rest_of (IsKept z) xs ys kept))

  run_grows : (z : TextBytes) (xs : List KLexeme) (t : KRaw) → SpellsRun z xs t → AreKept z xs → Grown xs t
  run_grows z _ _ (lone xs t chain) kept = chain_grows z xs t chain kept
  run_grows z _ _ (lone_signed xs o s) kept = lone_grown xs (first_at xs) o (signed_grows z xs o s kept)
  run_grows z _ _ (run xs os s many) kept = run_grown xs (first_at xs) os (operands_grow z xs os s kept) many

  runs_grow : (z : TextBytes) (xs : List KLexeme) (ts : List KRaw) → SpellsRuns z xs ts → AreKept z xs → GrownParts xs ts
  runs_grow z _ _ (one_run xs t s) kept = one_part_grown xs t (run_grows z xs t s kept)
  runs_grow z _ _ (more_runs x xs ys ts t front is last) kept =
      more_parts_grown x xs ys ts t (runs_grow z xs ts front (front_of (IsKept z) xs (x ∷ ys) kept)) (run_grows z ys t last (rest_of (IsKept z) xs (x ∷ ys) kept).1)

  and_grows : (z : TextBytes) (xs : List KLexeme) (t : KRaw) → SpellsAnd z xs t → AreKept z xs → Grown xs t
  and_grows z _ _ (lone_run xs t s) kept = run_grows z xs t s kept
  and_grows z _ _ (and xs ts s many) kept = and_grown xs (first_at xs) ts (runs_grow z xs ts s kept) many

  ands_grow : (z : TextBytes) (xs : List KLexeme) (ts : List KRaw) → SpellsAnds z xs ts → AreKept z xs → GrownParts xs ts
  ands_grow z _ _ (one_and xs t s) kept = one_part_grown xs t (and_grows z xs t s kept)
  ands_grow z _ _ (more_ands x xs ys ts t front is last) kept =
      more_parts_grown x xs ys ts t (ands_grow z xs ts front (front_of (IsKept z) xs (x ∷ ys) kept)) (and_grows z ys t last (rest_of (IsKept z) xs (x ∷ ys) kept).1)

  or_grows : (z : TextBytes) (xs : List KLexeme) (t : KRaw) → SpellsOr z xs t → AreKept z xs → Grown xs t
  or_grows z _ _ (lone_and xs t s) kept = and_grows z xs t s kept
  or_grows z _ _ (or xs ts s many) kept = or_grown xs (first_at xs) ts (ands_grow z xs ts s kept) many

  whole_grows : (z : TextBytes) (xs : List KLexeme) (t : KRaw) → Spells z xs t → AreKept z xs → Grown xs t
  whole_grows z _ _ (unranked xs t s) kept = or_grows z xs t s kept
  whole_grows z _ _ (xrank x xs ys t u cb left is right) kept =
      let rest = rest_of (IsKept z) xs (x ∷ ys) kept in
      xrank_grown x xs ys t u (first_at xs) cb (whole_grows z xs t left (front_of (IsKept z) xs (x ∷ ys) kept)) (kind_sound z x (kind.Xrank cb) is rest.0)
      (or_grows z ys u right rest.1)

-- ---- the text

room_within : (from to : ℕ) (xs : List KLexeme) → StandBetween from to xs → room xs + from ≤ to
room_within from to [] s = omega (arith, s)
room_within from to (x ∷ xs) s = omega (arith, s.0, s.1, room_within x.to to xs s.2, sum_by-cons width x xs)

number_within : (from to : ℕ) (xs : List KLexeme) → StandBetween from to xs → length xs + from ≤ to
number_within from to [] s = omega (arith, s)
number_within from to (x ∷ xs) s = omega (arith, s.0, s.1, number_within x.to to xs s.2)

-- what the lexemes of a text spell is well formed
pub spelled_is_formed : (z : TextBytes) (xs : List KLexeme) (t : KRaw) → lexemes_of z ≡ Ok xs → LexemesAreSound → LexemesAreInPlace → Spells z xs t → IsWellFormed t
spelled_is_formed z xs t read sound places s =
    let p = places z xs read in
    let short : length z ≤ 20480 = p.short in
    let g = whole_grows z xs t s (both (IsSoundLexeme z) IsFilled xs (sound z xs read).1 p.filled) in
    let bytes_few : bytes t ≤ room xs = g.held.size in
    let nodes_few : nodes t + 1 ≤ 2 * length xs = g.held.count in
    let few : room xs + 0 ≤ length z = room_within 0 (length z) xs p.rising in
    let less : length xs + 0 ≤ length z = number_within 0 (length z) xs p.rising in
    record { form = g.form; few_bytes = omega (arith, bytes_few, few, short); few_nodes = omega (arith, nodes_few, less, short) }

-- so is the one tree of a text
pub tree_is_formed : (z : TextBytes) (t : KRaw) → IsTreeOf z t → LexemesAreSound → LexemesAreInPlace → IsWellFormed t
tree_is_formed z t i sound places = spelled_is_formed z i.lexemes t i.read sound places i.spelled
