-- Streams that are made one after the other.
use Rattle.std.proofs.Common.{◌≡◌, ◌≤◌, ◌<◌, ℕ, zero, suc, ◌+◌, true, List, [], ◌∷◌, ◌++◌, map, length, drop, get_or, refl, sym, ap, ap₂, subst, ◌∙◌, arith, append_assoc, inl, inr}
use Rattle.std.specs.Prelude.{nat_eq, sum, sum_by}
use Rattle.std.proofs.lemmas.Bool.{eqb-true}
use Rattle.std.proofs.lemmas.List.{drop_more, map-append, append-nil}
use Rattle.std.proofs.lemmas.List.Sums.{sum_by-cons, sum_by_push}
use Rattle.sq_cursor.specs.declared.span.Span.{Span}
use Rattle.sq_cursor.specs.Spans.{are_ordered}
use Rattle.sq_model.specs.Triples.{choices}
use Rattle.sq_model.specs.Valid.{IsValid}
use Rattle.sq_model.specs.declared.corpus.Corpus.{Corpus}
use Rattle.sq_model.specs.declared.fql.Look.{Look}
use Rattle.sq_model.specs.declared.fql.SpanTree.{SpanTree}
use Rattle.sq_model.proofs.Members.{IsIn, of_filter}
use Rattle.sq_model.proofs.Choices.{IsChoice, of_choices}
use Rattle.sq_near.specs.Laws.{AllOrdered}
use Rattle.sq_near.specs.Streams.{stream_left, stream_rest, stream_ordered}
use Rattle.sq_near.specs.declared.stream.Stream.{Stream}
use Rattle.sq_least.specs.Dense.{weights_of_sum}
use Rattle.sq_postings.specs.Indexed.{Indexed}
use Rattle.sq_postings.specs.StandsFor.{StandsFor}
use Rattle.sq_streams.specs.TreePrices.{price, prices, IsWithinPrice, IsWithinPrices}
use Rattle.sq_streams.specs.TreeStreams.{EachStreamOf, EachOf, IsStreamFor, EachStreamFor}

pub all_ordered : {C : Type 0} (left : C → List Span) → ((c : C) → are_ordered (left c) ≡ true) → (streams : List (Stream C)) → AllOrdered (map (stream_left left) streams)
all_ordered left ordered [] = tt
all_ordered left ordered (s ∷ streams) = (stream_ordered left ordered s, all_ordered left ordered streams)

pub past : {X : Type 0} (xs : List X) (i : ℕ) → length xs ≤ i → drop i xs ≡ []
past [] zero l = refl
past [] (suc i) l = refl
past (x ∷ xs) zero l = absurd (omega (arith, l))
past (x ∷ xs) (suc i) l = past xs i (omega (arith, l))

pub here_of : {X : Type 0} (xs : List X) (i : ℕ) (x : X) → i < length xs → x ≡ get_or xs i x → drop i xs ≡ x ∷ drop (i + 1) xs
here_of xs i x within is = drop_more xs i x within ∙ ap (λ y. y ∷ drop (i + 1) xs) (sym is)

pub in_list : {X : Type 0} (xs : List X) (i : ℕ) (x : X) → i < length xs → x ≡ get_or xs i x → IsIn x xs
in_list [] i x within is = absurd (omega (arith, within))
in_list (y ∷ xs) zero x within is = inl is
in_list (y ∷ xs) (suc i) x within is = inr (in_list xs i x (omega (arith, within)) is)

-- ---- choices

long_as : {X : Type 0} (chosen : List X) (lists : List (List X)) → IsChoice chosen lists → length chosen ≡ length lists
long_as [] [] h = refl
long_as [] (xs ∷ lists) h = absurd h
long_as (x ∷ chosen) [] h = absurd h
long_as (x ∷ chosen) (xs ∷ lists) h = ap (λ n. suc n) (long_as chosen lists h.1)

pub choice_facts : (v : ℕ) (lists : List (List ℕ)) (vs : List ℕ) → IsIn vs (weights_of_sum v lists) → (length vs ≡ length lists) × (sum vs ≡ v)
choice_facts v lists vs i =
    let f = of_filter (λ vs. nat_eq (sum vs) v) vs (choices lists) i in
    (long_as vs lists (of_choices vs lists f.0), eqb-true (sum vs) v f.1)

-- ---- loops

module _ {C : Type 0} (left : C → List Span) (rest : C → ℕ) (index : Indexed) where
  -- what was made of the first things asked for, and what it cost
  pub record Seen {X : Type 0} (is : Corpus → X → List Span → Type 0) (cost_of : Corpus → X → ℕ) (i : ℕ) (xs : List X) (items : List (Stream C)) (before after : ℕ) : Type 0 where
    pub streams : (corpus : Corpus) → IsValid corpus → StandsFor index corpus → (more : List (List Span)) → EachOf (is corpus) (drop i xs) more →
        EachOf (is corpus) xs (map (stream_left left) items ++ more)
    pub cost : (corpus : Corpus) → IsValid corpus → StandsFor index corpus →
        after + sum_by (stream_rest rest) items + sum_by (cost_of corpus) (drop i xs) ≤ before + sum_by (cost_of corpus) xs

  module _ {X : Type 0} (is : Corpus → X → List Span → Type 0) (cost_of : Corpus → X → ℕ) where
    pub seen_start : (xs : List X) (items : List (Stream C)) (before : ℕ) → items ≡ [] → Seen is cost_of 0 xs items before before
    seen_start xs items before none = subst (λ all. Seen is cost_of 0 xs all before before) (sym none) (record {
      streams = λ corpus valid stands more each. each;
      cost = λ corpus valid stands.
          let nothing : sum_by (stream_rest rest) [] ≡ 0 = refl in
          let all : sum_by (cost_of corpus) (drop 0 xs) ≡ sum_by (cost_of corpus) xs = refl in
          omega (arith, nothing, all);
    })

    pub seen_next : (i : ℕ) (xs : List X) (items next : List (Stream C)) (before now after : ℕ) (x : X) (stream : Stream C) → i < length xs → x ≡ get_or xs i x →
        ((corpus : Corpus) → IsValid corpus → StandsFor index corpus → is corpus x (stream_left left stream)) →
        ((corpus : Corpus) → IsValid corpus → StandsFor index corpus → after + stream_rest rest stream ≤ now + cost_of corpus x) →
        next ≡ items ++ stream ∷ [] → Seen is cost_of i xs items before now → Seen is cost_of (i + 1) xs next before after
    seen_next i xs items next before now after x stream within at one paid next_is seen = record {
      streams = λ corpus valid stands more each.
          let spans = stream_left left stream in
          let whole : EachOf (is corpus) (drop i xs) (spans ∷ more) = subst (λ ys. EachOf (is corpus) ys (spans ∷ more)) (sym (here_of xs i x within at)) (one corpus valid stands, each) in
          let same : map (stream_left left) next ++ more ≡ map (stream_left left) items ++ (spans ∷ more) =
          ap (λ ys. map (stream_left left) ys ++ more) next_is ∙ (ap (λ ys. ys ++ more) (map-append (stream_left left) items (stream ∷ [])) ∙ append_assoc (map (stream_left left) items) (spans ∷ []) more) in
          subst (EachOf (is corpus) xs) (sym same) (seen.streams corpus valid stands (spans ∷ more) whole);
      cost = λ corpus valid stands.
          let split = ap (sum_by (cost_of corpus)) (here_of xs i x within at) ∙ sum_by-cons (cost_of corpus) x (drop (i + 1) xs) in
          let push = ap (sum_by (stream_rest rest)) next_is ∙ sum_by_push (stream_rest rest) items stream in
          let step = paid corpus valid stands in
          let all = seen.cost corpus valid stands in
          omega (arith, split, push, step, all);
    }

    pub seen_end : (i : ℕ) (xs : List X) (items : List (Stream C)) (before after : ℕ) → length xs ≤ i → Seen is cost_of i xs items before after →
        (corpus : Corpus) → IsValid corpus → StandsFor index corpus →
        EachOf (is corpus) xs (map (stream_left left) items) × (after + sum_by (stream_rest rest) items ≤ before + sum_by (cost_of corpus) xs)
    seen_end i xs items before after end seen corpus valid stands = (
      subst (EachOf (is corpus) xs) (append-nil (map (stream_left left) items))
          (seen.streams corpus valid stands [] (subst (λ ys. EachOf (is corpus) ys []) (sym (past xs i end)) tt)),
      (let all = seen.cost corpus valid stands in omega (arith, all)),
    )

    -- where making one of them was refused
    pub seen_err : (i : ℕ) (xs : List X) (items : List (Stream C)) (before now after : ℕ) (x : X) → i < length xs → x ≡ get_or xs i x →
        ((corpus : Corpus) → IsValid corpus → StandsFor index corpus → after ≤ now + cost_of corpus x) → Seen is cost_of i xs items before now →
        (corpus : Corpus) → IsValid corpus → StandsFor index corpus → after ≤ before + sum_by (cost_of corpus) xs
    seen_err i xs items before now after x within at paid seen corpus valid stands =
        let split = ap (sum_by (cost_of corpus)) (here_of xs i x within at) ∙ sum_by-cons (cost_of corpus) x (drop (i + 1) xs) in
        let step = paid corpus valid stands in
        let all = seen.cost corpus valid stands in
        omega (arith, split, step, all)

  -- ---- expressions, each with its weight

  module _ (look : Look) where
    pub record PartsSeen (i : ℕ) (parts : List SpanTree) (vs : List ℕ) (items : List (Stream C)) (before after : ℕ) : Type 0 where
      pub streams : (corpus : Corpus) → IsValid corpus → StandsFor index corpus → (more : List (List Span)) → EachStreamOf corpus look (drop i parts) (drop i vs) more →
          EachStreamOf corpus look parts vs (map (stream_left left) items ++ more)
      pub cost : (corpus : Corpus) → IsValid corpus → StandsFor index corpus →
          after + sum_by (stream_rest rest) items + sum (prices corpus look (drop i parts) (drop i vs)) ≤ before + sum (prices corpus look parts vs)

    pub parts_start : (parts : List SpanTree) (vs : List ℕ) (items : List (Stream C)) (before : ℕ) → items ≡ [] → PartsSeen 0 parts vs items before before
    parts_start parts vs items before none = subst (λ all. PartsSeen 0 parts vs all before before) (sym none) (record {
      streams = λ corpus valid stands more each. each;
      cost = λ corpus valid stands.
          let nothing : sum_by (stream_rest rest) [] ≡ 0 = refl in
          let all : sum (prices corpus look (drop 0 parts) (drop 0 vs)) ≡ sum (prices corpus look parts vs) = refl in
          omega (arith, nothing, all);
    })

    module _ (i : ℕ) (parts : List SpanTree) (vs : List ℕ) (items : List (Stream C)) (before now : ℕ) (part : SpanTree) (v : ℕ)
        (within : i < length parts) (long : length vs ≡ length parts) (part_is : part ≡ get_or parts i part) (v_is : v ≡ get_or vs i v) (seen : PartsSeen i parts vs items before now) where
      parts_here : drop i parts ≡ part ∷ drop (i + 1) parts
      parts_here = here_of parts i part within part_is

      vs_here : drop i vs ≡ v ∷ drop (i + 1) vs
      vs_here = here_of vs i v (omega (arith, within, long)) v_is

      split : (corpus : Corpus) → sum (prices corpus look (drop i parts) (drop i vs)) ≡ price corpus look part v + sum (prices corpus look (drop (i + 1) parts) (drop (i + 1) vs))
      split corpus =
          ap₂ (λ ps us. sum (prices corpus look ps us)) parts_here vs_here
          ∙ sum_by-cons (λ n. n) (price corpus look part v) (prices corpus look (drop (i + 1) parts) (drop (i + 1) vs))

      pub parts_next : (next : List (Stream C)) (after : ℕ) (stream : Stream C) → IsStreamFor index look part v (stream_left left stream) →
          IsWithinPrice index look part v now (after + stream_rest rest stream) → next ≡ items ++ stream ∷ [] → PartsSeen (i + 1) parts vs next before after
      parts_next next after stream one paid next_is = record {
        streams = λ corpus valid stands more each.
            let spans = stream_left left stream in
            let whole : EachStreamOf corpus look (drop i parts) (drop i vs) (spans ∷ more) =
            subst (λ ps. EachStreamOf corpus look ps (drop i vs) (spans ∷ more)) (sym parts_here)
            (subst (λ us. EachStreamOf corpus look (part ∷ drop (i + 1) parts) us (spans ∷ more)) (sym vs_here) (one corpus valid stands, each)) in
            let same : map (stream_left left) next ++ more ≡ map (stream_left left) items ++ (spans ∷ more) =
            ap (λ ys. map (stream_left left) ys ++ more) next_is ∙ (ap (λ ys. ys ++ more) (map-append (stream_left left) items (stream ∷ [])) ∙ append_assoc (map (stream_left left) items) (spans ∷ []) more) in
            subst (EachStreamOf corpus look parts vs) (sym same) (seen.streams corpus valid stands (spans ∷ more) whole);
        cost = λ corpus valid stands.
            let more = split corpus in
            let push = ap (sum_by (stream_rest rest)) next_is ∙ sum_by_push (stream_rest rest) items stream in
            let step = paid corpus valid stands in
            let all = seen.cost corpus valid stands in
            omega (arith, more, push, step, all);
      }

      pub parts_err : (after : ℕ) → IsWithinPrice index look part v now after → IsWithinPrices index look parts vs before after
      parts_err after paid corpus valid stands =
          let more = split corpus in
          let step = paid corpus valid stands in
          let all = seen.cost corpus valid stands in
          omega (arith, more, step, all)

    pub parts_end : (i : ℕ) (parts : List SpanTree) (vs : List ℕ) (items : List (Stream C)) (before after : ℕ) → length parts ≤ i → length vs ≡ length parts → PartsSeen i parts vs items before after →
        EachStreamFor index look parts vs (map (stream_left left) items) × IsWithinPrices index look parts vs before (after + sum_by (stream_rest rest) items)
    parts_end i parts vs items before after end long seen = (
      (λ corpus valid stands.
          let none : EachStreamOf corpus look (drop i parts) (drop i vs) [] =
          subst (λ ps. EachStreamOf corpus look ps (drop i vs) []) (sym (past parts i end)) (subst (λ us. EachStreamOf corpus look [] us []) (sym (past vs i (omega (arith, end, long)))) tt) in
          subst (EachStreamOf corpus look parts vs) (append-nil (map (stream_left left) items)) (seen.streams corpus valid stands [] none)),
      (λ corpus valid stands. let all = seen.cost corpus valid stands in omega (arith, all)),
    )
