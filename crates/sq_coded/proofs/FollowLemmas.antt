-- What may follow a list.
use Rattle.std.proofs.Common.{[], ◌∷◌, refl}
use Rattle.sq_coded.specs.Laws.{FollowsLast}

pub follows_last : FollowsLast
follows_last [] last next = refl
follows_last (e ∷ []) last next = refl
follows_last (e ∷ f ∷ entries) last next = follows_last (f ∷ entries) last next
