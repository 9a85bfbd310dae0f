use Rattle.sq_tests.proofs.index.numbers_rise_within_an_item.Given as goal

abbrev pub ghosts-numbers : goal.ghosts-numbers
ghosts-numbers g a = record { name = a.blank.name; parts = a.blank.parts }
