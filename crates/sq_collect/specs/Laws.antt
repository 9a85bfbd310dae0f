-- What is known of the numbers of an index.
use Rattle.std.specs.Prelude.{◌≡◌, ℕ, ◌<◌, ℤ, List, length, map}
use Rattle.sq_model.specs.Passages.{numbers}
use Rattle.sq_model.specs.declared.corpus.Corpus.{Corpus}
use Rattle.sq_ranking.specs.Ranking.{entries}
use Rattle.sq_postings.specs.Indexed.{Indexed}
use Rattle.sq_postings.specs.Occurrences.{values_at}
use Rattle.sq_postings.specs.StandsFor.{StandsFor}
use Rattle.sq_collect.specs.Counted.{numbers_in_row}

-- For each corpus that an index stands for, the counts by the index are the counts by the items.
abbrev pub ColumnsCountAsNumbers : Type 0
ColumnsCountAsNumbers = (index : Indexed) (corpus : Corpus) (property : ℕ) (bounds : List ℤ) (rows : List ℕ)
    → StandsFor index corpus → property < length corpus.schema
    → entries bounds (map (numbers_in_row index property) rows) ≡ entries bounds (map (λ row. numbers (values_at corpus.items row) property) rows)
