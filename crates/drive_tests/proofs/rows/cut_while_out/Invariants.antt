use Rattle.drive_tests.proofs.rows.cut_while_out.Given as goal

abbrev pub ghosts-take_steps : goal.ghosts-take_steps
ghosts-take_steps g a = record { job = a.job }
