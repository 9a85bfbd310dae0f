use Rattle.sq_tests.proofs.index.claims_admit_and_deny.Given as goal

abbrev pub ghosts-admitted : goal.ghosts-admitted
ghosts-admitted g a = record { name = a.blank.name; parts = a.blank.parts }
