use Rattle.drive_tests.proofs.rows.is_counted.Given as goal

abbrev pub ghosts-turns_taken : goal.ghosts-turns_taken
ghosts-turns_taken a = record { job = a.job }
