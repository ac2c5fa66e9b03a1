use Rattle.drive_tests.proofs.rows.answers_in_order.Given as goal

abbrev pub ghosts-take_steps : goal.ghosts-take_steps
ghosts-take_steps g a = record { job = a.job }
