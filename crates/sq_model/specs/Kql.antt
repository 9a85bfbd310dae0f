-- Which items a KQL expression holds of, and the boost that it gives. [MS-KQL]
use Rattle.std.specs.Prelude.{ℕ, Bool, true, false, not, ◌&&◌, if◌then◌else◌, List, [], ◌∷◌, ◌++◌, flat_map, Option, Some, None, ℤ, pos, ◌+ℤ◌, int_lt, int_le, nat_eq}
use Rattle.std.specs.List.{list_any, list_all}
use Rattle.std.specs.Option.{option_eq}
use Rattle.sq_schema.specs.declared.property.Property.{Property}
use Rattle.sq_tokens.specs.Pattern.{Phrase}
use Rattle.sq_model.specs.Lists.{is_empty, joined, total}
use Rattle.sq_model.specs.Passages.{Passage, passages, numbers, searchable_passages, some_within}
use Rattle.sq_model.specs.Places.{places, fits_edge}
use Rattle.sq_model.specs.Triples.{of_phrase, near}
use Rattle.sq_model.specs.declared.triple.Triple.{Triple}
use Rattle.sq_model.specs.declared.corpus.Value.{Value}
use Rattle.sq_model.specs.declared.kql.Relation.{Relation}
use Rattle.sq_model.specs.declared.kql.Relation.TheVariants.{Has, Equal, Less, More, AtMost, AtLeast, Unequal, Range}
use Rattle.sq_model.specs.declared.judged.Judged.{Judged}
use Rattle.sq_model.specs.declared.judged.Role.{Role}
use Rattle.sq_model.specs.declared.judged.Role.TheVariants.{Restricts, Loose, Other}
use Rattle.sq_model.specs.declared.kql.Joiner.{Joiner}
use Rattle.sq_model.specs.declared.kql.Joiner.TheVariants as joiner
use Rattle.sq_model.specs.declared.kql.Sign.{Sign}
use Rattle.sq_model.specs.declared.kql.Sign.TheVariants.{Plain, Minus}
use Rattle.sq_model.specs.declared.kql.KOperand.{KOperand}
use Rattle.sq_model.specs.declared.kql.KTree.{KTree, Free, All, Words, Group', TextTest, ValueTest, Near', Run', And', Or', Xrank', Row_of-KTree, end_of-KTree, more_of-KTree, Row_of-KOperand, end_of-KOperand, more_of-KOperand}

abbrev mutual
  -- the matches of free text, lists of words, OR, groups, NEAR and ONEAR in a passage
  pub triples : Passage → KTree → List Triple
  triples passage (Free leaf) = of_phrase leaf.pattern passage
  triples passage (Words leaves) = flat_map (λ leaf. of_phrase leaf.pattern passage) leaves
  triples passage (Group' s inside) = joined (triples_each passage inside)
  triples passage (Or' shape parts) = joined (triples_each passage parts)
  triples passage (Near' s left t right n ordered) = near n ordered (triples_each passage left ++ triples_each passage right)
  triples passage _ = []

  pub triples_each : {m : _} → Passage → Row_of-KTree m → List (List Triple)
  triples_each passage end_of-KTree = []
  triples_each passage (more_of-KTree part rest) = triples passage part ∷ triples_each passage rest

-- some number stands in the relation to a value from first to last
abbrev pub compares : Relation → ℤ → ℤ → List ℤ → Bool
compares Less first last numbers = list_any (λ n. int_lt n first) numbers
compares More first last numbers = list_any (λ n. int_lt last n) numbers
compares AtMost first last numbers = list_any (λ n. int_le n last) numbers
compares AtLeast first last numbers = list_any (λ n. int_le first n) numbers
compares Unequal first last numbers = not (some_within first last numbers)
compares _ first last numbers = some_within first last numbers

-- some passage contains the phrase, or is the phrase
abbrev pub reads : Relation → Phrase → List Passage → Bool
reads Has phrase passages = list_any (λ passage. not (is_empty (places phrase passage))) passages
reads Equal phrase passages = list_any (fits_edge phrase true true) passages
reads Unequal phrase passages = not (list_any (fits_edge phrase true true) passages)
reads _ phrase passages = false

abbrev pub is_restriction : Relation → Bool
is_restriction Has = true
is_restriction Equal = true
is_restriction Range = true
is_restriction _ = false

-- A plain restriction written with `:` or `=`, or a range, restricts its property. Plain free text, `*`, lists of words,
-- NEAR and ONEAR are loose: whether one of them must hold or all is the joiner's.
abbrev pub role : Sign → KTree → Role
role Plain (TextTest property relation leaf) = if is_restriction relation then Restricts property else Other
role Plain (ValueTest property relation first last) = if is_restriction relation then Restricts property else Other
role Plain (Free leaf) = Loose
role Plain All = Loose
role Plain (Words leaves) = Loose
role Plain (Near' s left t right n ordered) = Loose
role _ _ = Other

-- the property that an operand of the role restricts
abbrev pub restricted : Role → Option ℕ
restricted (Restricts property) = Some property
restricted _ = None

abbrev pub is_loose : Role → Bool
is_loose Loose = true
is_loose _ = false

-- whether one of the run's restrictions on the property holds
abbrev pub restriction_holds : List Judged → ℕ → Bool
restriction_holds run property = list_any (λ j. option_eq nat_eq (restricted j.role) (Some property) && j.holds) run

-- whether one of the run's loose operands holds
abbrev pub loose_holds : List Judged → Bool
loose_holds run = list_any (λ j. is_loose j.role && j.holds) run

-- A minus operand is met where it doesn't hold, a restriction where one on its property holds, under `Any` a loose
-- operand where one of the loose ones holds, and any other where it holds.
abbrev pub met : Joiner → List Judged → Sign → Role → Bool → Bool
met joiner run Minus role holds = not holds
met joiner run _ (Restricts property) holds = restriction_holds run property
met joiner.Any run _ Loose holds = loose_holds run
met joiner run _ _ holds = holds

-- So a run holds where every plus operand holds, and every plain one that is neither loose nor a restriction; no minus
-- operand holds; for each property that plain restrictions name one of these holds; and under `All` every loose operand
-- holds, under `Any`, where there are loose operands, one of them.
abbrev pub run_holds : Joiner → List Judged → Bool
run_holds joiner run = list_all (λ j. met joiner run j.sign j.role j.holds) run

-- whether a passage of a searchable property has one of the matches
abbrev pub somewhere : List Property → List Value → (Passage → List Triple) → Bool
somewhere schema values matches = list_any (λ passage. not (is_empty (matches passage))) (searchable_passages schema values)

abbrev mutual
  -- the expression holds of an item with these values; the joiner says how loose operands of its runs stand together
  pub holds : List Property → List Value → Joiner → KTree → Bool
  holds schema values joiner All = true
  holds schema values joiner (Group' s (more_of-KTree inside end_of-KTree)) = holds schema values joiner inside
  holds schema values joiner (TextTest property relation leaf) = reads relation leaf.pattern (passages values property)
  holds schema values joiner (ValueTest property relation first last) = compares relation first last (numbers values property)
  holds schema values joiner (Run' shape operands) = run_holds joiner (judged schema values joiner operands)
  holds schema values joiner (And' shape parts) = list_all (λ b. b) (holds_each schema values joiner parts)
  holds schema values joiner (Or' shape parts) = list_any (λ b. b) (holds_each schema values joiner parts)
  holds schema values joiner (Xrank' s (more_of-KTree matched end_of-KTree) t ranked cb) = holds schema values joiner matched
  holds schema values joiner (Free leaf) = somewhere schema values (λ passage. triples passage (Free leaf))
  holds schema values joiner (Words leaves) = somewhere schema values (λ passage. triples passage (Words leaves))
  holds schema values joiner (Near' s left t right n ordered) = somewhere schema values (λ passage. triples passage (Near' s left t right n ordered))

  pub holds_each : {m : _} → List Property → List Value → Joiner → Row_of-KTree m → List Bool
  holds_each schema values joiner end_of-KTree = []
  holds_each schema values joiner (more_of-KTree part rest) = holds schema values joiner part ∷ holds_each schema values joiner rest

  pub judged : {m : _} → List Property → List Value → Joiner → Row_of-KOperand m → List Judged
  judged schema values joiner end_of-KOperand = []
  judged schema values joiner (more_of-KOperand sign tree rest) =
      record { sign = sign; role = role sign tree; holds = holds schema values joiner tree } ∷ judged schema values joiner rest

-- an operand of a run, with whether it holds
abbrev pub judge : List Property → List Value → Joiner → KOperand → Judged
judge schema values joiner operand = record { sign = operand.sign; role = role operand.sign operand.tree; holds = holds schema values joiner operand.tree }

-- whether an operand of the sign adds its boost to the run's
abbrev pub adds_boost : Sign → Bool
adds_boost Minus = false
adds_boost _ = true

abbrev mutual
  -- the boost where the expression holds
  pub gain : List Property → List Value → Joiner → KTree → ℤ
  gain schema values joiner (Group' s (more_of-KTree inside end_of-KTree)) = gain schema values joiner inside
  gain schema values joiner (Run' shape operands) = total (operand_boosts schema values joiner operands)
  gain schema values joiner (And' shape parts) = total (boosts schema values joiner parts)
  gain schema values joiner (Or' shape parts) = total (boosts schema values joiner parts)
  gain schema values joiner (Xrank' s (more_of-KTree matched end_of-KTree) t ranked cb) =
      gain schema values joiner matched +ℤ (if list_any (λ b. b) (holds_each schema values joiner ranked) then cb else pos 0)
  gain schema values joiner _ = pos 0

  pub boosts : {m : _} → List Property → List Value → Joiner → Row_of-KTree m → List ℤ
  boosts schema values joiner end_of-KTree = []
  boosts schema values joiner (more_of-KTree part rest) = (if holds schema values joiner part then gain schema values joiner part else pos 0) ∷ boosts schema values joiner rest

  pub operand_boosts : {m : _} → List Property → List Value → Joiner → Row_of-KOperand m → List ℤ
  operand_boosts schema values joiner end_of-KOperand = []
  operand_boosts schema values joiner (more_of-KOperand sign tree rest) =
      (if adds_boost sign then (if holds schema values joiner tree then gain schema values joiner tree else pos 0) else pos 0) ∷ operand_boosts schema values joiner rest

abbrev pub boost : List Property → List Value → Joiner → KTree → ℤ
boost schema values joiner tree = if holds schema values joiner tree then gain schema values joiner tree else pos 0

-- what an operand of a run adds where the run holds
abbrev pub operand_boost : List Property → List Value → Joiner → KOperand → ℤ
operand_boost schema values joiner operand = if adds_boost operand.sign then boost schema values joiner operand.tree else pos 0
