-- Laws of lists of postings, for callers that make them.
use Rattle.std.specs.Prelude.{◌≡◌, List, [], ◌∷◌, ◌++◌}
use Rattle.sq_coded.specs.Coded.{comes_before, may_follow}
use Rattle.sq_coded.specs.declared.posting.Posting.{Posting}

-- A posting may follow a list exactly where its last comes before it.
abbrev pub FollowsLast : Type 0
FollowsLast = (entries : List Posting) (last next : Posting) → may_follow (entries ++ last ∷ []) next ≡ comes_before last next
