use Rattle.sq_low_tests.proofs.cursor.rows_of_two_lists_are_divided_by_a_third.Given as goal

abbrev pub ghosts-divided : goal.ghosts-divided
ghosts-divided g a = record { name = a.blank.name; parts = a.blank.parts }
