-- Worked examples of the code.
use Rattle.std.proofs.Common.{◌≡◌, List, [], ◌∷◌, refl}
use Rattle.sq_coded.specs.Coded.{number_bytes, coded, decoded}
use Rattle.sq_coded.specs.declared.posting.Posting.{Posting}

abbrev three : List Posting
three =
    record { row = 0; ordinal = 0; place = 2 } ∷ record { row = 0; ordinal = 0; place = 202 } ∷ record { row = 3; ordinal = 1; place = 0 } ∷ []

three_coded : coded three ≡ 3 ∷ 196611 ∷ 131072 ∷ 50448384 ∷ 1 ∷ []
unfolding coded number_bytes
three_coded = refl

three_back : decoded (3 ∷ 196611 ∷ 131072 ∷ 50448384 ∷ 1 ∷ []) ≡ three
unfolding decoded
three_back = refl
