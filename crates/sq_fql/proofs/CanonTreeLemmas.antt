-- What the reader makes of the lexemes of printed trees, part after part.
use Rattle.std.proofs.Common.{◌≡◌, ℕ, zero, suc, ◌+◌, ◌≤◌, Bool, true, false, nat_lt, List, [], ◌∷◌, ◌++◌, length, map, drop, slice_index, codes, IfSome, Option, Some, None, Ok, refl, sym, ◌∙◌, ap, subst, arith, append_assoc, append-nil, length-append}
use Rattle.std.proofs.lemmas.Bool.Decides.{nat_tests}
use Rattle.std.specs.Char.{is_ascii_alphabetic}
use Rattle.sq_lex.specs.declared.class.Class.TheVariants as class
use Rattle.sq_lex.specs.declared.fql_lexeme.FKind.TheVariants as kind
use Rattle.sq_lex.specs.declared.fql_lexeme.FLexeme.{FLexeme}
use Rattle.sq_lex.specs.Bytes.{TextBytes}
use Rattle.sq_lex.specs.Fql.{lexeme}
use Rattle.sq_base.specs.Outcome.{Outcome, ◌>>=◌}
use Rattle.sq_fql.specs.declared.raw.FRaw.{FRaw, All, Literal, Scope', Row_of-FRaw, end_of-FRaw, more_of-FRaw}
use Rattle.sq_fql.specs.declared.raw.FRaw.TheVariants as tree
use Rattle.sq_fql.specs.declared.raw.FRaw.{items-the_row-FRaw, items_hidden-the_row-FRaw-1}
use Rattle.sq_fql.specs.declared.raw.FRaw.TheBlock.{shape-the_row-FRaw-0, hidden-the_row-FRaw-0, hidden-the_row-FRaw-1}
use Rattle.sq_fql.specs.declared.raw.Op.{Op}
use Rattle.sq_fql.specs.declared.operator.Operator.{Operator}
use Rattle.sq_fql.specs.declared.parameter.Given.{Given}
use Rattle.sq_fql.specs.declared.read.Found.{Found}
use Rattle.sq_fql.specs.declared.look.Role.{Role}
use Rattle.sq_fql.specs.declared.look.Role.TheVariants as role
use Rattle.sq_fql.specs.Operators.{operator_of, operands_of}
use Rattle.sq_fql.specs.Parameters.{nothing_given, operation}
use Rattle.sq_fql.specs.Canon.{operator_word}
use Rattle.sq_fql.specs.Read.{Reader, Listed, behind, role_of, wanted, piece, leaf, literal_only, is_full, is_full_at, operand, with_next_operand, entry_by, entry, separator, ended_or, entries, nothing, with_parameter, completed, expression, expression_over, deeper}
use Rattle.sq_fql.specs.WellFormed.{IsName, is_literal, count, operator_in}
use Rattle.sq_fql.specs.CanonLaw.{unplaced, unplaced_each}
use Rattle.sq_fql.proofs.CanonLexLemmas.{Lexes, rest_behind, rest_behind_one, byte_there, part_there, name_lexes, mark_lexes, word_lexes}
use Rattle.sq_fql.proofs.CanonReadLemmas.{IsEnd, ReadsLeaf}

-- A tree stands at a place, and these lexemes behind it.
pub record ReadsTree (k : ℕ) (z : TextBytes) (at : ℕ) (t : FRaw) (xs : List FLexeme) : Type 0 where
  pub first : FLexeme
  pub others : List FLexeme
  pub found : FRaw
  pub lexed : Lexes z at (first ∷ others)
  pub begins : wanted z (first ∷ others) ≡ Ok first
  pub role : role_of first others ≡ role.Parameter → ⊥
  pub read : expression k z (first ∷ others) ≡ Ok (found, xs)
  pub same : unplaced found ≡ unplaced t
  pub shorter : length xs ≤ length others
  pub alone : is_literal t ≡ true → (literal_only z (role_of first others) first ≡ Ok found) × (others ≡ xs)

-- ---- leaves

module _ (k : ℕ) (z : TextBytes) (at old : ℕ) (text : TextBytes) (xs : List FLexeme) (l : ReadsLeaf z at text xs) where
  leaf_expression : expression k z (l.first ∷ xs) ≡ Ok (piece at text, xs)
  unfolding expression_over
  leaf_expression = rw (l.begins, l.role, l.leaf) refl

  leaf_alone : literal_only z (role_of l.first xs) l.first ≡ Ok (piece at text)
  leaf_alone = rw l.role l.read

  leaf_role : role_of l.first xs ≡ role.Parameter → ⊥
  leaf_role is = let is_not = l.role in cc

  pub leaf_tree : ReadsTree k z at (Literal (record { at = old; text = text })) xs
  leaf_tree = record {
    first = l.first;
    others = xs;
    found = piece at text;
    lexed = l.lexed;
    begins = l.begins;
    role = leaf_role;
    read = leaf_expression;
    same = refl;
    shorter = omega arith;
    alone = λ literal. (leaf_alone, refl);
  }

module _ (k : ℕ) (z r : TextBytes) (at old : ℕ) (xs : List FLexeme) (e : drop at z ≡ codes "*" ++ r) (end : IsEnd r xs) (more : Lexes z (at + 1) xs) where
  star : FLexeme
  star = lexeme kind.Word at (at + 1)

  star_expression : expression k z (lexeme kind.Word at (at + 1) ∷ xs) ≡ Ok (tree.All at, xs)
  unfolding expression_over leaf
  star_expression = rw (end.role, part_there z (codes "*") r at e) refl

  star_role : role_of (lexeme kind.Word at (at + 1)) xs ≡ role.Parameter → ⊥
  star_role is = let is_not = end.role in cc

  pub star_tree : ReadsTree k z at (All old) xs
  star_tree = record {
    first = lexeme kind.Word at (at + 1);
    others = xs;
    found = tree.All at;
    lexed = word_lexes z [] r 42 at class.Term e refl refl end.term refl refl xs refl more;
    begins = refl;
    role = star_role;
    read = star_expression;
    same = refl;
    shorter = omega arith;
    alone = λ literal. absurd cc;
  }

-- ---- trees without their places

unplaced_row : {m : _} (row : Row_of-FRaw m) → unplaced_each row ≡ map unplaced (items-the_row-FRaw m row)
unplaced_row end_of-FRaw = refl
unplaced_row (more_of-FRaw t rest) = ap (λ l. unplaced t ∷ l) (unplaced_row rest)

pub unplaced_scope : (at : ℕ) (name : TextBytes) (t : FRaw) → unplaced (tree.Scope at name t) ≡ tree.Scope 0 name (unplaced t)
unfolding shape-the_row-FRaw-0 hidden-the_row-FRaw-0 denote.Hole.Carrier.hidden
unplaced_scope at name t = refl

pub unplaced_apply : (at : ℕ) (o : Op) (ts : List FRaw) → unplaced (tree.Apply at o ts) ≡ tree.Apply 0 o (map unplaced ts)
unplaced_apply at o ts =
    ap (λ l. tree.Apply 0 o l) (unplaced_row (hidden-the_row-FRaw-1 ts) ∙ ap (map unplaced) (items_hidden-the_row-FRaw-1 ts))

-- ---- scopes

module _ (k : ℕ) (z name : TextBytes) (at old : ℕ) (t : FRaw) (xs : List FLexeme) (named : IsName name) where
  module _ (r : TextBytes) (e : drop at z ≡ name ++ 58 ∷ r) (i : ReadsTree k z (at + length name + 1) t xs) where
    scope_letter : (w : TextBytes) → drop at z ≡ w ++ 58 ∷ r → is_ascii_alphabetic (slice_index w 0) ≡ true → is_ascii_alphabetic (slice_index z at) ≡ true
    scope_letter [] there letter = cc
    scope_letter (b ∷ w) there letter = rw (byte_there z (w ++ 58 ∷ r) b at there) letter

    scope_expression : expression (suc k) z (lexeme kind.Word at (at + length name) ∷ lexeme kind.Colon (at + length name) (at + length name + 1) ∷ i.first ∷ i.others) ≡ Ok (tree.Scope at name i.found, xs)
    unfolding expression_over deeper
    scope_expression = rw (scope_letter name e named.letter, i.read, part_there z name (58 ∷ r) at e) refl

    pub scope_tree : {s : _} → ReadsTree (suc k) z at (Scope' old name s (more_of-FRaw t end_of-FRaw)) xs
    scope_tree = record {
      first = lexeme kind.Word at (at + length name);
      others = lexeme kind.Colon (at + length name) (at + length name + 1) ∷ i.first ∷ i.others;
      found = tree.Scope at name i.found;
      lexed = name_lexes z name (58 ∷ r) at (lexeme kind.Colon (at + length name) (at + length name + 1) ∷ i.first ∷ i.others) named e refl
          (mark_lexes z r 58 (at + length name) kind.Colon (i.first ∷ i.others) (rest_behind z name (58 ∷ r) at e) refl refl refl i.lexed);
      begins = refl;
      role = λ is. absurd cc;
      read = scope_expression;
      same = unplaced_scope at name i.found ∙ ap (tree.Scope 0 name) i.same;
      shorter = omega (arith, i.shorter);
      alone = λ literal. absurd cc;
    }

-- ---- lists

abbrev pub found_so : List FRaw → Given → Found
found_so operands given = record { operands = operands; given = given }

-- what follows an entry
abbrev pub continues : Reader → ℕ → TextBytes → Operator → Found → List FLexeme → Outcome Listed
continues inner turns z op f ys = separator z ys >>= λ end. ended_or end f (behind ys) (entries inner turns z op f (behind ys))

-- From a place on stand parameters and `)`, each parameter behind a comma, and these lexemes behind them.
pub record Closes (k : ℕ) (z : TextBytes) (op : Operator) (at : ℕ) (before after : Given) (xs : List FLexeme) : Type 0 where
  pub lexemes : List FLexeme
  pub close : ℕ
  pub lexed : Lexes z at lexemes
  pub end : IsEnd (drop at z) lexemes
  pub shorter : length xs ≤ length lexemes
  pub read : (operands : List FRaw) (turns : ℕ) → length lexemes ≤ turns → continues (expression k z) turns z op (found_so operands before) lexemes ≡ Ok (found_so operands after, close, xs)

-- From a place on stand operands, each behind a comma, and then parameters and `)`.
pub record ReadsMore {m : _} (k : ℕ) (z : TextBytes) (op : Operator) (at : ℕ) (row : Row_of-FRaw m) (after : Given) (xs : List FLexeme) : Type 0 where
  pub lexemes : List FLexeme
  pub close : ℕ
  pub operands : List FRaw
  pub lexed : Lexes z at lexemes
  pub end : IsEnd (drop at z) lexemes
  pub same : map unplaced operands ≡ unplaced_each row
  pub shorter : length xs ≤ length lexemes
  pub read : (before : List FRaw) (turns : ℕ) → length lexemes ≤ turns → IfSome (operands_of op).most (λ most. length before + count row ≤ most)
      → continues (expression k z) turns z op (found_so before nothing_given) lexemes ≡ Ok (found_so (before ++ operands) after, close, xs)

-- A list stands at a place.
pub record ReadsList {m : _} (k : ℕ) (z : TextBytes) (op : Operator) (at : ℕ) (row : Row_of-FRaw m) (after : Given) (xs : List FLexeme) : Type 0 where
  pub first : FLexeme
  pub others : List FLexeme
  pub close : ℕ
  pub operands : List FRaw
  pub lexed : Lexes z at (first ∷ others)
  pub same : map unplaced operands ≡ unplaced_each row
  pub shorter : length xs ≤ length others
  pub read : IfSome (operands_of op).most (λ most. count row ≤ most)
      → entries (expression k z) (suc (length (first ∷ others))) z op nothing (first ∷ others) ≡ Ok (found_so operands after, close, xs)

closed_end : (z r : TextBytes) (at : ℕ) (xs : List FLexeme) → drop at z ≡ 41 ∷ r → IsEnd (drop at z) (lexeme kind.RightParen at (at + 1) ∷ xs)
closed_end z r at xs e = subst (λ l. IsEnd l (lexeme kind.RightParen at (at + 1) ∷ xs)) (sym e) (record { term = refl; parameter = refl; role = refl })

comma_end : (z r : TextBytes) (at : ℕ) (xs : List FLexeme) → drop at z ≡ 44 ∷ r → IsEnd (drop at z) (lexeme kind.Comma at (at + 1) ∷ xs)
comma_end z r at xs e = subst (λ l. IsEnd l (lexeme kind.Comma at (at + 1) ∷ xs)) (sym e) (record { term = refl; parameter = refl; role = refl })

pub closes_end : (k : ℕ) (z r : TextBytes) (op : Operator) (at : ℕ) (g : Given) (xs : List FLexeme) → drop at z ≡ 41 ∷ r → Lexes z (at + 1) xs → Closes k z op at g g xs
closes_end k z r op at g xs e more = record {
  lexemes = lexeme kind.RightParen at (at + 1) ∷ xs;
  close = at;
  lexed = mark_lexes z r 41 at kind.RightParen xs e refl refl refl more;
  end = closed_end z r at xs e;
  shorter = omega arith;
  read = λ operands turns enough. refl;
}

room_left : (most : Option ℕ) (before count : ℕ) → IfSome most (λ m. before + suc count ≤ m) → is_full_at most before ≡ false
room_left None before count room = refl
room_left (Some m) before count room = grind (arith, nat_tests)

room_on : (most : Option ℕ) (a b : ℕ) → a ≡ b → IfSome most (λ m. a ≤ m) → IfSome most (λ m. b ≤ m)
room_on most a b same room = subst (λ n. IfSome most (λ m. n ≤ m)) same room

entry_other : (inner : Reader) (z : TextBytes) (op : Operator) (f : Found) (r : Role) (x : FLexeme) (xs : List FLexeme) → (r ≡ role.Parameter → ⊥) → entry_by inner z op f r x xs ≡ with_next_operand inner z op f r x xs
entry_other inner z op f role.Operator x xs other = refl
entry_other inner z op f role.Scope x xs other = refl
entry_other inner z op f role.Parameter x xs other = absurd (other refl)
entry_other inner z op f role.Literal x xs other = refl

module _ (k : ℕ) (z : TextBytes) (op : Operator) (at : ℕ) (t : FRaw) (ls : List FLexeme) (i : ReadsTree k z at t ls) (literal_ok : (operands_of op).literals ≡ true → is_literal t ≡ true) where
  operand_by : (b : Bool) → (operands_of op).literals ≡ b → operand (expression k z) z op (role_of i.first i.others) i.first (i.first ∷ i.others) ≡ Ok (i.found, ls)
  unfolding operand
  operand_by true is = let a = i.alone (literal_ok is) in rw (is, a.0) (ap (λ l. Ok (i.found, l)) a.1)
  operand_by false is = rw is i.read

  entry_reads : (operands : List FRaw) (g : Given) → is_full op operands ≡ false → entry (expression k z) z op (found_so operands g) (i.first ∷ i.others) ≡ Ok (found_so (operands ++ i.found ∷ []) g, ls)
  unfolding entry with_next_operand
  entry_reads operands g room =
      rw (i.begins, entry_other (expression k z) z op (found_so operands g) (role_of i.first i.others) i.first (i.first ∷ i.others) i.role, room, operand_by (operands_of op).literals refl) refl

module _ {m : _} (k : ℕ) (z r : TextBytes) (op : Operator) (at to : ℕ) (t : FRaw) (rest : Row_of-FRaw m) (after : Given) (xs : List FLexeme)
    (c : ReadsMore k z op to rest after xs) (literal_ok : (operands_of op).literals ≡ true → is_literal t ≡ true) where
  both_same : (i : ReadsTree k z at t c.lexemes) → map unplaced (i.found ∷ c.operands) ≡ unplaced t ∷ unplaced_each rest
  both_same i = ap (λ x. x ∷ map unplaced c.operands) i.same ∙ ap (λ l. unplaced t ∷ l) c.same

  list_entries : (i : ReadsTree k z at t c.lexemes) → IfSome (operands_of op).most (λ most. count (more_of-FRaw t rest) ≤ most)
      → entries (expression k z) (suc (length (i.first ∷ i.others))) z op nothing (i.first ∷ i.others) ≡ Ok (found_so (i.found ∷ c.operands) after, c.close, xs)
  unfolding entries
  list_entries i room =
      let one : 0 + suc (count rest) ≡ 1 + count rest = omega arith in
      let start : 1 + count rest ≡ length (i.found ∷ []) + count rest = omega arith in
      let room_first = room_on (operands_of op).most (count (more_of-FRaw t rest)) (0 + suc (count rest)) (omega arith) room in
      let room_next = room_on (operands_of op).most (count (more_of-FRaw t rest)) (length (i.found ∷ []) + count rest) (omega arith) room in
      rw (entry_reads k z op at t c.lexemes i literal_ok [] nothing_given (room_left (operands_of op).most 0 (count rest) room_first))
      (c.read (i.found ∷ []) (length (i.first ∷ i.others)) (omega (arith, i.shorter)) room_next)

  pub list_reads : (i : ReadsTree k z at t c.lexemes) → ReadsList k z op at (more_of-FRaw t rest) after xs
  list_reads i = record {
    first = i.first;
    others = i.others;
    close = c.close;
    operands = i.found ∷ c.operands;
    lexed = i.lexed;
    same = both_same i;
    shorter = omega (arith, i.shorter, c.shorter);
    read = list_entries i;
  }

  more_entries : (i : ReadsTree k z at t c.lexemes) (comma : FLexeme) → comma.kind ≡ kind.Comma → (before : List FRaw) (turns : ℕ) → length (comma ∷ i.first ∷ i.others) ≤ turns
      → IfSome (operands_of op).most (λ most. length before + count (more_of-FRaw t rest) ≤ most)
      → continues (expression k z) turns z op (found_so before nothing_given) (comma ∷ i.first ∷ i.others) ≡ Ok (found_so (before ++ i.found ∷ c.operands) after, c.close, xs)
  unfolding entries
  more_entries i comma is before zero enough room = absurd (omega arith)
  more_entries i comma is before (suc turns) enough room =
      let room_first = room_on (operands_of op).most (length before + count (more_of-FRaw t rest)) (length before + suc (count rest)) (omega arith) room in
      let room_next = room_on (operands_of op).most (length before + count (more_of-FRaw t rest)) (length (before ++ i.found ∷ []) + count rest)
      (omega (arith, length-append before (i.found ∷ []))) room in
      rw (is, entry_reads k z op at t c.lexemes i literal_ok before nothing_given (room_left (operands_of op).most (length before) (count rest) room_first))
      (c.read (before ++ i.found ∷ []) turns (omega (arith, i.shorter)) room_next
      ∙ ap (λ l. Ok (found_so l after, c.close, xs)) (append_assoc before (i.found ∷ []) c.operands))

pub more_end : (k : ℕ) (z : TextBytes) (op : Operator) (at : ℕ) (after : Given) (xs : List FLexeme) → Closes k z op at nothing_given after xs → ReadsMore k z op at end_of-FRaw after xs
more_end k z op at after xs c = record {
  lexemes = c.lexemes;
  close = c.close;
  operands = [];
  lexed = c.lexed;
  end = c.end;
  same = refl;
  shorter = c.shorter;
  read = λ before turns enough room. c.read before turns enough ∙ ap (λ l. Ok (found_so l after, c.close, xs)) (sym (append-nil before));
}

pub more_on : {m : _} (k : ℕ) (z r : TextBytes) (op : Operator) (at to : ℕ) (t : FRaw) (rest : Row_of-FRaw m) (after : Given) (xs : List FLexeme)
    (c : ReadsMore k z op to rest after xs) → ((operands_of op).literals ≡ true → is_literal t ≡ true) → drop at z ≡ 44 ∷ r → ReadsTree k z (at + 1) t c.lexemes
    → ReadsMore k z op at (more_of-FRaw t rest) after xs
more_on k z r op at to t rest after xs c literal_ok e i = record {
  lexemes = lexeme kind.Comma at (at + 1) ∷ i.first ∷ i.others;
  close = c.close;
  operands = i.found ∷ c.operands;
  lexed = mark_lexes z r 44 at kind.Comma (i.first ∷ i.others) e refl refl refl i.lexed;
  end = comma_end z r at (i.first ∷ i.others) e;
  same = both_same k z r op (at + 1) to t rest after xs c literal_ok i;
  shorter = omega (arith, i.shorter, c.shorter);
  read = more_entries k z r op (at + 1) to t rest after xs c literal_ok i (lexeme kind.Comma at (at + 1)) refl;
}

-- ---- parameters

module _ (k : ℕ) (z r name : TextBytes) (op : Operator) (at to : ℕ) (before now after : Given) (xs : List FLexeme) (v : FLexeme) (c : Closes k z op to now after xs)
    (e : drop at z ≡ 44 ∷ (name ++ 61 ∷ r)) (named : IsName name) where
  parameter_name : drop (at + 1) z ≡ name ++ 61 ∷ r
  parameter_name = rest_behind_one z (name ++ 61 ∷ r) 44 at e

  parameter_entries : (p q d f h : ℕ) → with_parameter z op before (lexeme kind.Word p q) (v ∷ c.lexemes) ≡ Ok now → (operands : List FRaw) (turns : ℕ)
      → length (lexeme kind.Comma d p ∷ lexeme kind.Word p q ∷ lexeme kind.EqualSign f h ∷ v ∷ c.lexemes) ≤ turns
      → continues (expression k z) turns z op (found_so operands before) (lexeme kind.Comma d p ∷ lexeme kind.Word p q ∷ lexeme kind.EqualSign f h ∷ v ∷ c.lexemes)
      ≡ Ok (found_so operands after, c.close, xs)
  unfolding entries entry
  parameter_entries p q d f h set operands zero enough = absurd (omega arith)
  parameter_entries p q d f h set operands (suc turns) enough = rw set (c.read operands turns (omega arith))

  pub closes_on : Lexes z (at + 1 + length name + 1) (v ∷ c.lexemes) → with_parameter z op before (lexeme kind.Word (at + 1) (at + 1 + length name)) (v ∷ c.lexemes) ≡ Ok now → Closes k z op at before after xs
  closes_on more set =
      let equals = lexeme kind.EqualSign (at + 1 + length name) (at + 1 + length name + 1) in
      let x = lexeme kind.Word (at + 1) (at + 1 + length name) in
      let comma = lexeme kind.Comma at (at + 1) in
      let sign : Lexes z (at + 1 + length name) (equals ∷ v ∷ c.lexemes)
      = mark_lexes z r 61 (at + 1 + length name) kind.EqualSign (v ∷ c.lexemes) (rest_behind z name (61 ∷ r) (at + 1) parameter_name) refl refl refl more in
      let word : Lexes z (at + 1) (x ∷ equals ∷ v ∷ c.lexemes) = name_lexes z name (61 ∷ r) (at + 1) (equals ∷ v ∷ c.lexemes) named parameter_name refl sign in
      record {
        lexemes = comma ∷ x ∷ equals ∷ v ∷ c.lexemes;
        close = c.close;
        lexed = mark_lexes z (name ++ 61 ∷ r) 44 at kind.Comma (x ∷ equals ∷ v ∷ c.lexemes) e refl refl refl word;
        end = comma_end z (name ++ 61 ∷ r) at (x ∷ equals ∷ v ∷ c.lexemes) e;
        shorter = omega (arith, c.shorter);
        read = parameter_entries (at + 1) (at + 1 + length name) at (at + 1 + length name) (at + 1 + length name + 1) set;
      }

-- ---- operators

map_length : (ts : List FRaw) → length (map unplaced ts) ≡ length ts
map_length [] = refl
map_length (t ∷ ts) = ap suc (map_length ts)

length_each : {m : _} (row : Row_of-FRaw m) → length (unplaced_each row) ≡ count row
length_each end_of-FRaw = refl
length_each (more_of-FRaw t rest) = ap suc (length_each rest)

module _ {m : _} (k : ℕ) (z r : TextBytes) (at old : ℕ) (o : Op) (row : Row_of-FRaw m) (g : Given) (xs : List FLexeme)
    (e : drop at z ≡ operator_word o ++ 40 ∷ r) (named : IsName (operator_word o)) (is : operator_of (operator_word o) ≡ Some (operator_in o)) where
  module _ (l : ReadsList k z (operator_in o) (at + length (operator_word o) + 1) row g xs) (least : (operands_of (operator_in o)).least ≤ count row)
      (most : IfSome (operands_of (operator_in o)).most (λ most. count row ≤ most)) (makes : (close : ℕ) → operation (operator_in o) g close ≡ Ok o) where
    apply_length : length l.operands ≡ count row
    apply_length = sym (map_length l.operands) ∙ (ap length l.same ∙ length_each row)

    apply_expression : expression (suc k) z (lexeme kind.Word at (at + length (operator_word o)) ∷ lexeme kind.LeftParen (at + length (operator_word o)) (at + length (operator_word o) + 1) ∷ l.first ∷ l.others)
        ≡ Ok (tree.Apply at o l.operands, xs)
    unfolding expression_over deeper completed
    apply_expression =
        let test : nat_lt (length l.operands) (operands_of (operator_in o)).least ≡ false = grind (arith, nat_tests, apply_length, least) in
        rw (part_there z (operator_word o) (40 ∷ r) at e, is, l.read most, test, makes l.close) refl

    pub apply_tree : (t : FRaw) → is_literal t ≡ false → unplaced t ≡ tree.Apply 0 o (unplaced_each row) → ReadsTree (suc k) z at t xs
    apply_tree t other plain =
        let paren = lexeme kind.LeftParen (at + length (operator_word o)) (at + length (operator_word o) + 1) in
        let inside : Lexes z (at + length (operator_word o)) (paren ∷ l.first ∷ l.others)
        = mark_lexes z r 40 (at + length (operator_word o)) kind.LeftParen (l.first ∷ l.others) (rest_behind z (operator_word o) (40 ∷ r) at e) refl refl refl l.lexed in
        record {
          first = lexeme kind.Word at (at + length (operator_word o));
          others = paren ∷ l.first ∷ l.others;
          found = tree.Apply at o l.operands;
          lexed = name_lexes z (operator_word o) (40 ∷ r) at (paren ∷ l.first ∷ l.others) named e refl inside;
          begins = refl;
          role = λ is. absurd cc;
          read = apply_expression;
          same = unplaced_apply at o l.operands ∙ (ap (tree.Apply 0 o) l.same ∙ sym plain);
          shorter = omega (arith, l.shorter);
          alone = λ literal. absurd cc;
        }
