use Rattle.sq_low_tests.proofs.near.near_measures_the_whole_interval.Given as goal

abbrev pub ghosts-of_one_text : goal.ghosts-of_one_text
ghosts-of_one_text g a = record { name = a.blank.name; parts = a.blank.parts }

abbrev pub ghosts-of_three : goal.ghosts-of_three
ghosts-of_three g a = record { name = a.blank.name; parts = a.blank.parts }
