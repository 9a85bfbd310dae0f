use Rattle.sq_low_tests.proofs.coded.three_blocks_come_back.Given as goal

abbrev pub ghosts-read_back : goal.ghosts-read_back
ghosts-read_back g a = record { name = a.blank.name; parts = a.blank.parts }
