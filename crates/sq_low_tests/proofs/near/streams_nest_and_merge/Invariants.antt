use Rattle.sq_low_tests.proofs.near.streams_nest_and_merge.Given as goal

abbrev pub ghosts-nested : goal.ghosts-nested
ghosts-nested g a = record { name = a.blank.name; parts = a.blank.parts }

abbrev pub ghosts-many : goal.ghosts-many
ghosts-many g a = record { name = a.blank.name; parts = a.blank.parts }
