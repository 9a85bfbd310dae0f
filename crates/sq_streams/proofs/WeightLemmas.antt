-- The weights of an expression by its parts as a list, and how code builds them.
use Rattle.std.proofs.Common.{◌≡◌, ℕ, Bool, true, false, ◌||◌, if◌then◌else◌, List, [], ◌∷◌, ◌++◌, map, refl, sym, ap, ap₂, ◌∙◌, append_assoc}
use Rattle.std.specs.Prelude.{nat_eq, sum}
use Rattle.std.specs.List.{list_any, flat_map}
use Rattle.std.proofs.lemmas.List.{append-nil, map-append}
use Rattle.std.proofs.lemmas.List.Folds.{list_any-append}
use Rattle.std.proofs.lemmas.Grind.{flat_map-append}
use Rattle.sq_model.specs.Copies.{distinct, weights, weights_each}
use Rattle.sq_model.specs.Lists.{joined}
use Rattle.sq_model.specs.Triples.{choices}
use Rattle.sq_model.specs.declared.fql.SpanTree.{SpanTree, Union, Near, Row_of-SpanTree, end_of-SpanTree, more_of-SpanTree, items-the_row-SpanTree, items_hidden-the_row-SpanTree-0}
use Rattle.sq_model.specs.declared.fql.SpanTree.TheBlock.{hidden-the_row-SpanTree-0}
use Rattle.sq_streams.specs.TreeWeights.{with_last, with_all, extended}

-- ---- numbers, each once

or-false : (b : Bool) → (b || false) ≡ b
or-false true = refl
or-false false = refl

last_step : (seen same : Bool) (m n : ℕ) (rest whole : List ℕ) → nat_eq m n ≡ same → whole ≡ with_last rest n →
    (if seen || same then whole else m ∷ whole) ≡ with_last (if seen then rest else m ∷ rest) n
last_step true same m n rest whole equal step = step
last_step false true m n rest whole equal step = rw equal step
last_step false false m n rest whole equal step = rw equal (ap (λ ns. m ∷ ns) step)

distinct_last : (ns : List ℕ) (n : ℕ) → distinct (ns ++ n ∷ []) ≡ with_last (distinct ns) n
distinct_last [] n = refl
distinct_last (m ∷ ns) n =
    ap (λ b. if b then distinct (ns ++ n ∷ []) else m ∷ distinct (ns ++ n ∷ [])) (list_any-append (nat_eq m) ns (n ∷ []) ∙ ap (λ b. list_any (nat_eq m) ns || b) (or-false (nat_eq m n)))
    ∙ last_step (list_any (nat_eq m) ns) (nat_eq m n) m n (distinct ns) (distinct (ns ++ n ∷ [])) refl (distinct_last ns n)

distinct_on : (ms ns : List ℕ) → with_all (distinct ms) ns ≡ distinct (ms ++ ns)
distinct_on ms [] = ap distinct (sym (append-nil ms))
distinct_on ms (n ∷ ns) = ap (λ seen. with_all seen ns) (sym (distinct_last ms n)) ∙ (distinct_on (ms ++ n ∷ []) ns ∙ ap distinct (append_assoc ms (n ∷ []) ns))

pub distinct_of_all : (ns : List ℕ) → with_all [] ns ≡ distinct ns
distinct_of_all ns = distinct_on [] ns

pub with_all-append : (seen ms ns : List ℕ) → with_all seen (ms ++ ns) ≡ with_all (with_all seen ms) ns
with_all-append seen [] ns = refl
with_all-append seen (m ∷ ms) ns = with_all-append (with_last seen m) ms ns

-- ---- choices

-- each choice with each of the others behind it
abbrev pub continued : List (List ℕ) → List (List ℕ) → List (List ℕ)
continued chosen rests = flat_map (λ c. map (λ rest. c ++ rest) rests) chosen

one_more : (c : List ℕ) (ns : List ℕ) (rests : List (List ℕ)) →
    map (λ rest. c ++ rest) (flat_map (λ n. map (λ rest. n ∷ rest) rests) ns) ≡ continued (map (λ n. c ++ n ∷ []) ns) rests
one_more c [] rests = refl
one_more c (n ∷ ns) rests =
    map-append (λ rest. c ++ rest) (map (λ rest. n ∷ rest) rests) (flat_map (λ n. map (λ rest. n ∷ rest) rests) ns)
    ∙ ap₂ (λ a b. a ++ b) (each rests) (one_more c ns rests)
  where
    each : (rests : List (List ℕ)) → map (λ rest. c ++ rest) (map (λ rest. n ∷ rest) rests) ≡ map (λ rest. (c ++ n ∷ []) ++ rest) rests
    each [] = refl
    each (rest ∷ rests) = ap₂ (λ a b. a ∷ b) (sym (append_assoc c (n ∷ []) rest)) (each rests)

pub continued_more : (chosen : List (List ℕ)) (ns : List ℕ) (lists : List (List ℕ)) → continued (extended chosen ns) (choices lists) ≡ continued chosen (choices (ns ∷ lists))
continued_more [] ns lists = refl
continued_more (c ∷ chosen) ns lists =
    flat_map-append (λ c. map (λ rest. c ++ rest) (choices lists)) (map (λ n. c ++ n ∷ []) ns) (extended chosen ns)
    ∙ ap₂ (λ a b. a ++ b) (sym (one_more c ns (choices lists))) (continued_more chosen ns lists)

pub continued_end : (chosen : List (List ℕ)) → continued chosen (choices []) ≡ chosen
continued_end [] = refl
continued_end (c ∷ chosen) = ap₂ (λ a b. a ∷ b) (append-nil c) (continued_end chosen)

pub continued_start : (lists : List (List ℕ)) → continued ([] ∷ []) (choices lists) ≡ choices lists
continued_start lists = append-nil (map (λ rest. [] ++ rest) (choices lists)) ∙ each (choices lists)
  where
    each : (rests : List (List ℕ)) → map (λ rest. [] ++ rest) rests ≡ rests
    each [] = refl
    each (rest ∷ rests) = ap (λ r. rest ∷ r) (each rests)

-- ---- of expressions

weights_of_row : {m : _} (row : Row_of-SpanTree m) → weights_each row ≡ map weights (items-the_row-SpanTree m row)
weights_of_row end_of-SpanTree = refl
weights_of_row (more_of-SpanTree part rest) = ap (λ r. weights part ∷ r) (weights_of_row rest)

pub weights_here : (parts : List SpanTree) → weights_each (hidden-the_row-SpanTree-0 parts) ≡ map weights parts
weights_here parts = weights_of_row (hidden-the_row-SpanTree-0 parts) ∙ ap (map weights) (items_hidden-the_row-SpanTree-0 parts)

pub weights_union : (parts : List SpanTree) → weights (Union parts) ≡ distinct (joined (map weights parts))
weights_union parts = ap (λ lists. distinct (joined lists)) (weights_here parts)

pub weights_near : (parts : List SpanTree) (n : ℕ) (ordered : Bool) → weights (Near parts n ordered) ≡ distinct (map sum (choices (map weights parts)))
weights_near parts n ordered = ap (λ lists. distinct (map sum (choices lists))) (weights_here parts)

pub ruleset weight_rules = (weights_union, weights_near)
