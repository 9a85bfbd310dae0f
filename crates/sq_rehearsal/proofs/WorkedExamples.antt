-- Worked examples: items 12 and 30 of a rehearsal.
use Rattle.std.proofs.Common.{◌≡◌, [], ◌∷◌, pos, refl}
use Rattle.std.specs.Prelude.{codes}
use Rattle.std.specs.Fmt.{digits}
use Rattle.sq_rehearsal.specs.Rehearsal.{opening, body, title, values, deny, item}

body_of_12 : body 12 ≡ codes "w12 w25 w40 w7 w26 w47 w20 w45 w22 w1 w32 w15 w0 w37 w26 w17 w10 w5 w2 w1"
unfolding digits opening
body_of_12 = refl

title_of_12 : title 12 ≡ codes "note w5"
unfolding digits
title_of_12 = refl

denied_of_12 : deny 12 ≡ []
denied_of_12 = refl

item_30 : item 30 ≡ record {
  number = 30;
  rank = pos 100;
  url = codes "u30";
  allow = codes "board" ∷ [];
  deny = codes "temp" ∷ [];
  values = values 30;
}
unfolding digits
item_30 = refl
