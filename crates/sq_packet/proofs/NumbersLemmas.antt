-- The numbers that texts write, behind those that have been read.
use Rattle.std.proofs.Common.{ℤ, List, ◌++◌, Option, Some, None}

abbrev pub behind_numbers : List ℤ → Option (List ℤ) → Option (List ℤ)
behind_numbers front None = None
behind_numbers front (Some numbers) = Some (front ++ numbers)
