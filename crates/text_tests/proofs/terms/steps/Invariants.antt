use Rattle.text_tests.proofs.terms.steps.Given as goal

abbrev pub ghosts-count_one : goal.ghosts-count_one
ghosts-count_one a = record { name = a.blank.name; parts = a.blank.parts }
