-- The loop that reads the list of an operator.
use Rattle.std.proofs.Common.{◌≡◌, ◌≢◌, ℕ, zero, suc, ◌-◌, ◌<◌, ◌≤◌, List, length, Option, Some, None, Ok, Err, refl, sym, ◌∙◌, ap, arith}
use Rattle.sq_base.specs.declared.faults.QueryFault.{QueryFault}
use Rattle.sq_base.specs.declared.faults.Fault.{Fault}
use Rattle.sq_base.specs.declared.faults.Fault.TheVariants as faults
use Rattle.sq_base.specs.Outcome.{Fails}
use Rattle.sq_lex.specs.declared.fql_lexeme.FLexeme.{FLexeme}
use Rattle.sq_lex.specs.Bytes.{TextBytes}
use Rattle.sq_fql.specs.declared.operator.Operator.{Operator}
use Rattle.sq_fql.specs.declared.read.Found.{Found}
use Rattle.sq_fql.specs.declared.codes.TheConstants.{TOO_DEEP}
use Rattle.sq_fql.specs.declared.raw.FRaw.{FRaw}
use Rattle.sq_fql.specs.declared.raw.FRaw.TheVariants as tree
use Rattle.sq_fql.specs.declared.raw.Op.{Op}
use Rattle.sq_fql.specs.Read.{Reader, nothing, behind, first_at, word_text, separator, entry, entries, completed, applied, scoped, deeper, expression}

-- Entries were found up to the lexemes that are left, and those from there on complete the list.
pub record Lists (inner : Reader) (z : TextBytes) (op : Operator) (all : List FLexeme) (found : Found) (left : List FLexeme) : Type 0 where
  pub turns : ℕ
  pub enough : length left ≤ turns
  pub same : entries inner (suc turns) z op found left ≡ entries inner (suc (length all)) z op nothing all

module _ (inner : Reader) (z : TextBytes) (op : Operator) (all : List FLexeme) where
  pub lists_start : (found : Found) → found ≡ nothing → Lists inner z op all found all
  lists_start found none = record { turns = length all; enough = omega arith; same = rw none refl }

  module _ (found now : Found) (left rest : List FLexeme) where
    more : (turns : ℕ) → entry inner z op found left ≡ Ok (now, rest) → separator z rest ≡ Ok None
        → entries inner (suc turns) z op found left ≡ entries inner turns z op now (behind rest)
    unfolding entries
    more turns read end = rw (read, end) refl

    done : (turns at : ℕ) → entry inner z op found left ≡ Ok (now, rest) → separator z rest ≡ Ok (Some at) → entries inner (suc turns) z op found left ≡ Ok (now, at, behind rest)
    unfolding entries
    done turns at read end = rw (read, end) refl

    unseparated : (turns : ℕ) (fault : QueryFault) → entry inner z op found left ≡ Ok (now, rest) → separator z rest ≡ Err fault → entries inner (suc turns) z op found left ≡ Err fault
    unfolding entries
    unseparated turns fault read end = rw (read, end) refl

    pub lists_on : Lists inner z op all found left → entry inner z op found left ≡ Ok (now, rest) → separator z rest ≡ Ok None → length (behind rest) < length left
        → Lists inner z op all now (behind rest)
    lists_on l read end shorter =
        let enough = l.enough in
        let some : l.turns ≡ suc (l.turns - 1) = omega arith in
        record {
          turns = l.turns - 1;
          enough = omega arith;
          same = ap (λ n. entries inner n z op now (behind rest)) (sym some) ∙ (sym (more l.turns read end) ∙ l.same);
        }

    pub lists_end : (at : ℕ) → Lists inner z op all found left → entry inner z op found left ≡ Ok (now, rest) → separator z rest ≡ Ok (Some at)
        → entries inner (suc (length all)) z op nothing all ≡ Ok (now, at, behind rest)
    lists_end at l read end = sym l.same ∙ done l.turns at read end

    pub lists_unseparated : (fault : QueryFault) → Lists inner z op all found left → entry inner z op found left ≡ Ok (now, rest) → separator z rest ≡ Err fault
        → entries inner (suc (length all)) z op nothing all ≡ Err fault
    lists_unseparated fault l read end = sym l.same ∙ unseparated l.turns fault read end

  refused_entry : (turns : ℕ) (found : Found) (left : List FLexeme) (fault : QueryFault) → entry inner z op found left ≡ Err fault → entries inner (suc turns) z op found left ≡ Err fault
  unfolding entries
  refused_entry turns found left fault read = rw read refl

  pub lists_fails : (found : Found) (left : List FLexeme) (e : Fault) → Lists inner z op all found left → Fails e (entry inner z op found left)
      → Fails e (entries inner (suc (length all)) z op nothing all)
  lists_fails found left faults.NoMemory l read = tt
  lists_fails found left (faults.Query fault) l read = sym l.same ∙ refused_entry l.turns found left fault read

-- ---- levels

pub deeper_none : (levels : ℕ) (z : TextBytes) → levels ≡ 0 → deeper levels z ≡ None
unfolding deeper
deeper_none zero z none = refl
deeper_none (suc levels) z none = absurd (omega arith)

pub deeper_some : (levels : ℕ) (z : TextBytes) → levels ≢ 0 → deeper levels z ≡ Some (expression (levels - 1) z)
unfolding deeper
deeper_some zero z some = absurd (some refl)
deeper_some (suc levels) z some = let less : levels ≡ suc levels - 1 = omega arith in ap (λ n. Some (expression n z)) less

module _ (levels : ℕ) (z : TextBytes) (x : FLexeme) (xs ys : List FLexeme) where
  pub scope_too_deep : (at : ℕ) (fault : QueryFault) → levels ≡ 0 → at ≡ first_at xs → fault ≡ record { code = TOO_DEEP; at = at } → scoped (deeper levels z) z x xs ≡ Err fault
  scope_too_deep at fault none place is = rw (deeper_none levels z none, is, place) refl

  scope_refused : (fault : QueryFault) → levels ≢ 0 → ys ≡ behind xs → expression (levels - 1) z ys ≡ Err fault → scoped (deeper levels z) z x xs ≡ Err fault
  scope_refused fault some rest read = rw (deeper_some levels z some, ← rest, read) refl

  pub scope_fails : (e : Fault) → levels ≢ 0 → ys ≡ behind xs → Fails e (expression (levels - 1) z ys) → Fails e (scoped (deeper levels z) z x xs)
  scope_fails faults.NoMemory some rest read = tt
  scope_fails (faults.Query fault) some rest read = scope_refused fault some rest read

  pub scope_read : (t : FRaw) (left : List FLexeme) (name : TextBytes) → levels ≢ 0 → ys ≡ behind xs → expression (levels - 1) z ys ≡ Ok (t, left) → name ≡ word_text z x
      → scoped (deeper levels z) z x xs ≡ Ok (tree.Scope x.from name t, left)
  scope_read t left name some rest read is = rw (deeper_some levels z some, ← rest, read, is) refl

  module _ (found_op : Option Operator) (op : Operator) (is_op : found_op ≡ Some op) where
    pub list_too_deep : (at : ℕ) (fault : QueryFault) → levels ≡ 0 → at ≡ first_at xs → fault ≡ record { code = TOO_DEEP; at = at }
        → applied (deeper levels z) z found_op x xs ≡ Err fault
    list_too_deep at fault none place is = rw (deeper_none levels z none, is_op, is, place) refl

    list_refused : (fault : QueryFault) → levels ≢ 0 → ys ≡ behind xs → entries (expression (levels - 1) z) (suc (length ys)) z op nothing ys ≡ Err fault
        → applied (deeper levels z) z found_op x xs ≡ Err fault
    list_refused fault some rest read = rw (deeper_some levels z some, is_op, ← rest, read) refl

    pub list_fails : (e : Fault) → levels ≢ 0 → ys ≡ behind xs → Fails e (entries (expression (levels - 1) z) (suc (length ys)) z op nothing ys)
        → Fails e (applied (deeper levels z) z found_op x xs)
    list_fails faults.NoMemory some rest read = tt
    list_fails (faults.Query fault) some rest read = list_refused fault some rest read

    module _ (found : Found) (at : ℕ) (left : List FLexeme) (some : levels ≢ 0) (rest : ys ≡ behind xs)
        (read : entries (expression (levels - 1) z) (suc (length ys)) z op nothing ys ≡ Ok (found, at, left)) where
      pub list_incomplete : (fault : QueryFault) → completed op found at ≡ Err fault → applied (deeper levels z) z found_op x xs ≡ Err fault
      list_incomplete fault end = rw (deeper_some levels z some, is_op, ← rest, read, end) refl

      pub list_read : (o : Op) → completed op found at ≡ Ok o → applied (deeper levels z) z found_op x xs ≡ Ok (tree.Apply x.from o found.operands, left)
      list_read o end = rw (deeper_some levels z some, is_op, ← rest, read, end) refl
