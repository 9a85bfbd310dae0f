use Rattle.sq_tests.proofs.index.a_list_has_the_words_of_its_postings.Given as goal

abbrev pub ghosts-codes : goal.ghosts-codes
ghosts-codes g a = record { name = a.blank.name; parts = a.blank.parts }
