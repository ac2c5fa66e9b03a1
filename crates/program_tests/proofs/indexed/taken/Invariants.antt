use Rattle.program_tests.proofs.indexed.taken.Given as goal

abbrev pub ghosts-take_two : goal.ghosts-take_two
ghosts-take_two g a = record { name = a.blank.name; parts = a.blank.parts }
