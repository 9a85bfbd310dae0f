-- The properties of a rehearsal are a schema, and its callers are callers.
use Rattle.std.proofs.Common.{arith, ◌≡◌, ℕ, zero, suc, ◌<◌, ◌≤◌, true, List, length, map, refl, None}
use Rattle.std.specs.List.{list_all}
use Rattle.std.specs.Prelude.{codes}
use Rattle.sq_schema.specs.Names as names
use Rattle.sq_schema.specs.Properties.{IsSchema, row_fault, is_sound, has_name}
use Rattle.sq_schema.specs.Words.{is_same_word}
use Rattle.sq_model.specs.Valid.{is_name, is_caller, are_different}
use Rattle.sq_rehearsal.specs.Rehearsal.{properties, callers}
use Rattle.sq_rehearsal.proofs.PlainLemmas.{prints, letters, plain_name}

faultless : (i : ℕ) → i < 3 → row_fault properties i ≡ None
unfolding is_sound names.is_name names.is_name_byte has_name is_same_word
faultless zero h = refl
faultless (suc zero) h = refl
faultless (suc (suc zero)) h = refl
faultless (suc (suc (suc i))) h = absurd (omega arith)

pub is_schema : IsSchema properties
is_schema = record { few = omega arith; faultless = faultless }

-- a name of the rehearsal, of at most six letters
claim : (name : List ℕ) → list_all prints name ≡ true → 1 ≤ length name → length name ≤ 6 → is_name name ≡ true
claim name printing some few = plain_name name 6 some (letters name 6 printing few) (omega arith)

pub staff : is_name (codes "staff") ≡ true
staff = claim (codes "staff") refl (omega arith) (omega arith)

pub board : is_name (codes "board") ≡ true
board = claim (codes "board") refl (omega arith) (omega arith)

pub temp : is_name (codes "temp") ≡ true
temp = claim (codes "temp") refl (omega arith) (omega arith)

reader : is_name (codes "reader") ≡ true
reader = claim (codes "reader") refl (omega arith) (omega arith)

chief : is_name (codes "chief") ≡ true
chief = claim (codes "chief") refl (omega arith) (omega arith)

pub are_callers : list_all is_caller callers ≡ true
are_callers = rw (reader, chief, staff, board, temp) refl

pub names_differ : are_different (map (λ caller. caller.name) callers) ≡ true
names_differ = refl
