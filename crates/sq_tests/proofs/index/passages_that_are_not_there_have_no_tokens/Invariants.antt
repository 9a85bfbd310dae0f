use Rattle.sq_tests.proofs.index.passages_that_are_not_there_have_no_tokens.Given as goal

abbrev pub ghosts-lengths : goal.ghosts-lengths
ghosts-lengths g a = record { name = a.blank.name; parts = a.blank.parts }
