use Rattle.sq_tests.proofs.index.a_list_is_sought_across_blocks.Given as goal

abbrev pub ghosts-sought : goal.ghosts-sought
ghosts-sought g a = record { name = a.blank.name; parts = a.blank.parts }
