use Rattle.sq_low_tests.proofs.cursor.a_span_cursor_goes_to_a_passage.Given as goal

abbrev pub ghosts-two_spans : goal.ghosts-two_spans
ghosts-two_spans g a = record { name = a.blank.name; parts = a.blank.parts }
