-- Parameters that were read are within their limits.
use Rattle.std.proofs.Common.{◌≡◌, ℕ, ℤ, ◌+◌, ◌*◌, ◌-◌, ◌≤◌, ◌==◌, nat_lt, Bool, true, false, not, cond, List, [], ◌∷◌, Option, Some, None, Ok, refl, sym, subst, ap, ◌∙◌, IfSome, arith}
use Rattle.std.proofs.lemmas.Bool.Decides.{nat_tests}
use Rattle.std.specs.Prelude.{unsigned_abs, pos, neg_ℤ}
use Rattle.std.specs.List.{AllByRecursion}
use Rattle.std.specs.Option.{option_map}
use Rattle.std.specs.Char.{is_ascii_digit}
use Rattle.std.specs.Str.{str_eq_ignore_ascii_case}
use Rattle.sq_lex.specs.Bytes.{TextBytes}
use Rattle.sq_base.specs.Outcome.{Outcome, or_refused}
use Rattle.sq_base.specs.Limits.{greatest_distance, greatest_boost}
use Rattle.sq_fql.specs.declared.codes.TheConstants.{BAD_PARAMETER}
use Rattle.sq_fql.specs.declared.raw.Mode.{Mode}
use Rattle.sq_fql.specs.declared.raw.Mode.TheVariants as mode
use Rattle.sq_fql.specs.declared.raw.Op.{Op}
use Rattle.sq_fql.specs.declared.raw.Op.TheVariants as op
use Rattle.sq_fql.specs.declared.operator.Operator.{Operator}
use Rattle.sq_fql.specs.declared.operator.Operator.TheVariants as operator
use Rattle.sq_fql.specs.declared.parameter.Parameter.{Parameter}
use Rattle.sq_fql.specs.declared.parameter.Parameter.TheVariants as parameter
use Rattle.sq_fql.specs.declared.parameter.Setting.{Setting}
use Rattle.sq_fql.specs.declared.parameter.Setting.TheVariants as setting
use Rattle.sq_fql.specs.declared.parameter.Number.{Number}
use Rattle.sq_fql.specs.declared.parameter.Given.{Given}
use Rattle.sq_fql.specs.Number.{size, size_from, natural, whole}
use Rattle.sq_fql.specs.Operators.{named, parameters}
use Rattle.sq_fql.specs.Parameters.{lower_bounds, upper_bounds, modes, setting_of, first, with_setting, set, with_value, distance, plain_string, string_operation, boosted, operation, or_default, nothing_given}
use Rattle.sq_fql.specs.WellFormed.{operator_in, IsDistance, IsWithinLimits}
use Rattle.sq_fql.specs.Limits.{greatest_count, fql_distance}

-- ---- numbers

size_from_digit : (digit over : Bool) (n b limit m : ℕ) (z : TextBytes) → (size_from (10 * n + (b - 48)) z limit ≡ Some m → 10 * n + (b - 48) ≤ limit → m ≤ limit)
    → nat_lt limit (10 * n + (b - 48)) ≡ over → cond (not digit) None (cond over None (size_from (10 * n + (b - 48)) z limit)) ≡ Some m → m ≤ limit
size_from_digit false over n b limit m z next test is = absurd (cc)
size_from_digit true true n b limit m z next test is = absurd (cc)
size_from_digit true false n b limit m z next test is = next is (grind (arith, nat_tests))

size_from_within : (n : ℕ) (z : TextBytes) (limit m : ℕ) → n ≤ limit → size_from n z limit ≡ Some m → m ≤ limit
size_from_within n [] limit m within is = let e : n ≡ m = cc in omega arith
size_from_within n (b ∷ z) limit m within is =
    size_from_digit (is_ascii_digit b) (nat_lt limit (10 * n + (b - 48))) n b limit m z (λ read low. size_from_within (10 * n + (b - 48)) z limit m low read) refl is

size_within : (z : TextBytes) (limit m : ℕ) → size z limit ≡ Some m → m ≤ limit
size_within [] limit m is = absurd (cc)
size_within (b ∷ z) limit m is = size_from_within 0 (b ∷ z) limit m (omega arith) is

natural_by : (minus : Bool) (b : ℕ) (z : TextBytes) (limit m : ℕ) → cond minus (size z 0) (size (b ∷ z) limit) ≡ Some m → m ≤ limit
natural_by true b z limit m is = let h = size_within z 0 m is in omega arith
natural_by false b z limit m is = size_within (b ∷ z) limit m is

natural_within : (z : TextBytes) (limit m : ℕ) → natural z limit ≡ Some m → m ≤ limit
natural_within [] limit m is = absurd (cc)
natural_within (b ∷ z) limit m is = natural_by (b == 45) b z limit m is

record Mapped {X Y : Type 0} (f : X → Y) (o : Option X) (y : Y) : Type 0 where
  pub x : X
  pub is : o ≡ Some x
  pub value : f x ≡ y

mapped : {X Y : Type 0} (f : X → Y) (o : Option X) (y : Y) → option_map f o ≡ Some y → Mapped f o y
mapped f (Some x) y is = record { x = x; is = refl; value = cc }
mapped f None y is = absurd (cc)

neg_size : (n : ℕ) → unsigned_abs (neg_ℤ (pos n)) ≡ n
neg_size n = grind (arith)

whole_by : (minus : Bool) (b : ℕ) (z : TextBytes) (limit : ℕ) (m : ℤ) → cond minus (option_map (λ n. neg_ℤ (pos n)) (size z limit)) (option_map pos (size (b ∷ z) limit)) ≡ Some m → unsigned_abs m ≤ limit
whole_by true b z limit m is =
    let h = mapped (λ n. neg_ℤ (pos n)) (size z limit) m is in
    let low = size_within z limit h.x h.is in
    let same : unsigned_abs m ≡ h.x = ap unsigned_abs (sym h.value) ∙ neg_size h.x in omega (arith, same, low)
whole_by false b z limit m is =
    let h = mapped pos (size (b ∷ z) limit) m is in
    let low = size_within (b ∷ z) limit h.x h.is in
    let same : unsigned_abs m ≡ h.x = ap unsigned_abs (sym h.value) in omega (arith, same, low)

whole_within : (z : TextBytes) (limit : ℕ) (m : ℤ) → whole z limit ≡ Some m → unsigned_abs m ≤ limit
whole_within [] limit m is = absurd (cc)
whole_within (b ∷ z) limit m is = whole_by (b == 45) b z limit m is

-- ---- settings

abbrev pub is_boost : Operator → Bool
is_boost operator.Xrank = true
is_boost _ = false

-- only xrank has an `n` that is no distance
abbrev pub IsOf : Operator → Parameter → Type 0
IsOf op parameter.Sample = is_boost op ≡ true
IsOf op _ = Unit {0}

abbrev pub IsSet : Operator → Setting → Type 0
IsSet op (setting.N v) = is_boost op ≡ false → v ≤ greatest_distance
IsSet op (setting.From v) = v ≤ greatest_count
IsSet op (setting.To v) = v ≤ greatest_count
IsSet op (setting.Cb v) = unsigned_abs v ≤ greatest_boost
IsSet op _ = Unit {0}

set_within : (op : Operator) (p : Parameter) (v : TextBytes) (s : Setting) → IsOf op p → setting_of p v ≡ Some s → IsSet op s
set_within op parameter.Distance v s of is =
    let h = mapped setting.N (natural v greatest_distance) s is in let Is = λ (x : Setting). IsSet op x in subst Is h.value (λ plain. natural_within v greatest_distance h.x h.is)
set_within op parameter.From v s of is =
    let h = mapped setting.From (natural v greatest_count) s is in let Is = λ (x : Setting). IsSet op x in subst Is h.value (natural_within v greatest_count h.x h.is)
set_within op parameter.To v s of is =
    let h = mapped setting.To (natural v greatest_count) s is in let Is = λ (x : Setting). IsSet op x in subst Is h.value (natural_within v greatest_count h.x h.is)
set_within op parameter.Lower v s of is = let h = mapped setting.Above (named v lower_bounds) s is in let Is = λ (x : Setting). IsSet op x in subst Is h.value tt
set_within op parameter.Upper v s of is = let h = mapped setting.Below (named v upper_bounds) s is in let Is = λ (x : Setting). IsSet op x in subst Is h.value tt
set_within op parameter.ModeName v s of is = let h = mapped setting.Mode (named v modes) s is in let Is = λ (x : Setting). IsSet op x in subst Is h.value tt
set_within op parameter.Cb v s of is =
    let h = mapped setting.Cb (whole v greatest_boost) s is in let Is = λ (x : Setting). IsSet op x in subst Is h.value (whole_within v greatest_boost h.x h.is)
set_within op parameter.Sample v s of is =
    let h = mapped setting.N (natural v greatest_boost) s is in let Is = λ (x : Setting). IsSet op x in subst Is h.value (λ plain. absurd (cc))
set_within op parameter.OtherBoost v s of is = absurd (cc)

-- ---- what was given

pub record IsGiven (op : Operator) (g : Given) : Type 0 where
  pub n : is_boost op ≡ false → IfSome g.n (λ number. number.value ≤ greatest_distance)
  pub from : IfSome g.from (λ v. v ≤ greatest_count)
  pub to : IfSome g.to (λ v. v ≤ greatest_count)
  pub cb : IfSome g.cb (λ v. unsigned_abs v ≤ greatest_boost)

pub given_none : (op : Operator) → IsGiven op nothing_given
given_none op = record { n = λ plain. tt; from = tt; to = tt; cb = tt }

first_same : {X : Type 0} (o : Option X) (x y : X) → first o x ≡ Some y → x ≡ y
first_same (Some z) x y is = absurd (cc)
first_same None x y is = cc

number_within : (o : Option Number) (v at : ℕ) (n : Number) → v ≤ greatest_distance → first o (record { value = v; at = at }) ≡ Some n → n.value ≤ greatest_distance
number_within o v at n low is = let e = first_same o (record { value = v; at = at }) n is in subst (λ (m : Number). m.value ≤ greatest_distance) e low

first_within : (o : Option ℕ) (v n : ℕ) → v ≤ greatest_count → first o v ≡ Some n → n ≤ greatest_count
first_within o v n low is = let e = first_same o v n is in subst (λ (m : ℕ). m ≤ greatest_count) e low

boost_within : (o : Option ℤ) (v n : ℤ) → unsigned_abs v ≤ greatest_boost → first o v ≡ Some n → unsigned_abs n ≤ greatest_boost
boost_within o v n low is = let e = first_same o v n is in subst (λ (m : ℤ). unsigned_abs m ≤ greatest_boost) e low

given_with : (op : Operator) (s : Setting) (at : ℕ) (g now : Given) → IsGiven op g → IsSet op s → with_setting s at g ≡ Some now → IsGiven op now
given_with op (setting.N v) at g now had is with =
    let h = mapped (λ n. record g { n = Some n }) (first g.n (record { value = v; at = at })) now with in
    let Is = λ (x : Given). IsGiven op x in subst Is h.value (record { n = λ plain. number_within g.n v at h.x (is plain) h.is; from = had.from; to = had.to; cb = had.cb })
given_with op (setting.From v) at g now had is with =
    let h = mapped (λ n. record g { from = Some n }) (first g.from v) now with in
    let Is = λ (x : Given). IsGiven op x in subst Is h.value (record { n = had.n; from = first_within g.from v h.x is h.is; to = had.to; cb = had.cb })
given_with op (setting.To v) at g now had is with =
    let h = mapped (λ n. record g { to = Some n }) (first g.to v) now with in
    let Is = λ (x : Given). IsGiven op x in subst Is h.value (record { n = had.n; from = had.from; to = first_within g.to v h.x is h.is; cb = had.cb })
given_with op (setting.Above v) at g now had is with =
    let h = mapped (λ b. record g { above = Some b }) (first g.above v) now with in
    let Is = λ (x : Given). IsGiven op x in subst Is h.value (record { n = had.n; from = had.from; to = had.to; cb = had.cb })
given_with op (setting.Below v) at g now had is with =
    let h = mapped (λ b. record g { below = Some b }) (first g.below v) now with in
    let Is = λ (x : Given). IsGiven op x in subst Is h.value (record { n = had.n; from = had.from; to = had.to; cb = had.cb })
given_with op (setting.Mode v) at g now had is with =
    let h = mapped (λ m. record g { mode = Some m }) (first g.mode v) now with in
    let Is = λ (x : Given). IsGiven op x in subst Is h.value (record { n = had.n; from = had.from; to = had.to; cb = had.cb })
given_with op (setting.Cb v) at g now had is with =
    let h = mapped (λ n. record g { cb = Some n }) (first g.cb v) now with in
    let Is = λ (x : Given). IsGiven op x in subst Is h.value (record { n = had.n; from = had.from; to = had.to; cb = boost_within g.cb v h.x is h.is })

set_ok : (op : Operator) (s : Setting) (at : ℕ) (g now : Given) (o : Option Given) → IsGiven op g → IsSet op s → with_setting s at g ≡ o → or_refused o BAD_PARAMETER at ≡ Ok now → IsGiven op now
set_ok op s at g now (Some h) had is with took = let e : h ≡ now = cc in let Is = λ (x : Given). IsGiven op x in subst Is e (given_with op s at g h had is with)
set_ok op s at g now None had is with took = absurd (cc)

set_given : (op : Operator) (p : Parameter) (v : TextBytes) (s : Option Setting) (at : ℕ) (g now : Given) → IsOf op p → IsGiven op g → setting_of p v ≡ s → set s at g ≡ Ok now → IsGiven op now
set_given op p v None at g now of had is took = absurd (cc)
set_given op p v (Some s) at g now of had is took = set_ok op s at g now (with_setting s at g) had (set_within op p v s of is) refl took

pub value_given : (op : Operator) (o : Option Parameter) (v : TextBytes) (at : ℕ) (g now : Given) → IfSome o (IsOf op) → IsGiven op g → with_value o v at g ≡ Ok now → IsGiven op now
value_given op None v at g now of had took = absurd (cc)
value_given op (Some p) v at g now of had took = set_given op p v (setting_of p v) at g now of had refl took

-- ---- which parameters an operator has

named_by : {X : Type 0} (P : X → Type 0) (same : Bool) (x : X) (rest : Option X) → P x → IfSome rest P → IfSome (cond same (Some x) rest) P
named_by P true x rest one more = one
named_by P false x rest one more = more

named_all : {X : Type 0} (P : X → Type 0) (word : TextBytes) (entries : List (TextBytes × X)) → AllByRecursion (λ (e : TextBytes × X). P e.1) entries → IfSome (named word entries) P
named_all P word [] all = tt
named_all {X} P word (e ∷ entries) all = named_by P (str_eq_ignore_ascii_case word e.0) e.1 (named word entries) all.0 (named_all P word entries all.1)

all_of : (op : Operator) → AllByRecursion (λ (e : TextBytes × Parameter). IsOf op e.1) (parameters op)
all_of operator.And = tt
all_of operator.Or = tt
all_of operator.Any = tt
all_of operator.AndNot = tt
all_of operator.Not = tt
all_of operator.Filter = tt
all_of operator.Count = (tt, (tt, tt))
all_of operator.Range = (tt, (tt, tt))
all_of operator.Xrank = (tt, (refl, (tt, (tt, (tt, (tt, (tt, tt)))))))
all_of operator.Near = (tt, tt)
all_of operator.Onear = (tt, tt)
all_of operator.Words = tt
all_of operator.Phrase = tt
all_of operator.StartsWith = tt
all_of operator.EndsWith = tt
all_of operator.Equals = tt
all_of operator.Str = (tt, (tt, tt))
all_of operator.Int = tt
all_of operator.DateTime = tt

pub named_of : (op : Operator) (word : TextBytes) → IfSome (named word (parameters op)) (IsOf op)
named_of op word = named_all (IsOf op) word (parameters op) (all_of op)

-- ---- the operator that they make

pub record Makes (op : Operator) (o : Op) : Type 0 where
  pub same : operator_in o ≡ op
  pub limits : IsWithinLimits o

distance_within : (n : Option Number) → IfSome n (λ number. number.value ≤ greatest_distance) → distance n ≤ greatest_distance
distance_within (Some n) low = low
distance_within None low = omega arith

default_within : (o : Option ℕ) → IfSome o (λ v. v ≤ greatest_count) → or_default o 1 ≤ greatest_count
default_within (Some v) low = low
default_within None low = omega arith

makes : (op : Operator) (made o : Op) → operator_in made ≡ op → IsWithinLimits made → ◌≡◌ {A = Outcome Op} (Ok made) (Ok o) → Makes op o
makes op made o same limits is = let e : made ≡ o = cc in subst (Makes op) e (record { same = same; limits = limits })

plain_makes : (m : Mode) (n : Option Number) (o : Op) → IsDistance m fql_distance → plain_string m n ≡ Ok o → Makes operator.Str o
plain_makes m (Some n) o plain is = absurd (cc)
plain_makes m None o plain is = makes operator.Str (op.Str m fql_distance) o refl plain is

string_makes : (m : Mode) (n : Option Number) (o : Op) → IfSome n (λ number. number.value ≤ greatest_distance) → string_operation m n ≡ Ok o → Makes operator.Str o
string_makes mode.Near n o low is = makes operator.Str (op.Str mode.Near (distance n)) o refl (distance_within n low) is
string_makes mode.Onear n o low is = makes operator.Str (op.Str mode.Onear (distance n)) o refl (distance_within n low) is
string_makes mode.Phrase n o low is = plain_makes mode.Phrase n o refl is
string_makes mode.And n o low is = plain_makes mode.And n o refl is
string_makes mode.Or n o low is = plain_makes mode.Or n o refl is
string_makes mode.Any n o low is = plain_makes mode.Any n o refl is

boost_makes : (cb : Option ℤ) (at : ℕ) (o : Op) → IfSome cb (λ v. unsigned_abs v ≤ greatest_boost) → boosted cb at ≡ Ok o → Makes operator.Xrank o
boost_makes (Some cb) at o low is = makes operator.Xrank (op.Xrank cb) o refl low is
boost_makes None at o low is = absurd (cc)

pub operation_makes : (op : Operator) (g : Given) (at : ℕ) (o : Op) → IsGiven op g → operation op g at ≡ Ok o → Makes op o
operation_makes operator.And g at o had is = makes operator.And op.And o refl tt is
operation_makes operator.Or g at o had is = makes operator.Or op.Or o refl tt is
operation_makes operator.Any g at o had is = makes operator.Any op.Any o refl tt is
operation_makes operator.AndNot g at o had is = makes operator.AndNot op.AndNot o refl tt is
operation_makes operator.Not g at o had is = makes operator.Not op.Not o refl tt is
operation_makes operator.Filter g at o had is = makes operator.Filter op.Filter o refl tt is
operation_makes operator.Words g at o had is = makes operator.Words op.Words o refl tt is
operation_makes operator.Phrase g at o had is = makes operator.Phrase op.Phrase o refl tt is
operation_makes operator.StartsWith g at o had is = makes operator.StartsWith op.StartsWith o refl tt is
operation_makes operator.EndsWith g at o had is = makes operator.EndsWith op.EndsWith o refl tt is
operation_makes operator.Equals g at o had is = makes operator.Equals op.Equals o refl tt is
operation_makes operator.Int g at o had is = makes operator.Int op.Int o refl tt is
operation_makes operator.DateTime g at o had is = makes operator.DateTime op.DateTime o refl tt is
operation_makes operator.Count g at o had is = makes operator.Count (op.Count (or_default g.from 1) g.to) o refl (default_within g.from had.from, had.to) is
operation_makes operator.Range g at o had is = makes operator.Range (op.Range (or_default g.above false) (or_default g.below false)) o refl tt is
operation_makes operator.Xrank g at o had is = boost_makes g.cb at o had.cb is
operation_makes operator.Near g at o had is = makes operator.Near (op.Near (distance g.n)) o refl (distance_within g.n (had.n refl)) is
operation_makes operator.Onear g at o had is = makes operator.Onear (op.Onear (distance g.n)) o refl (distance_within g.n (had.n refl)) is
operation_makes operator.Str g at o had is = string_makes (or_default g.mode mode.Phrase) g.n o (had.n refl) is
