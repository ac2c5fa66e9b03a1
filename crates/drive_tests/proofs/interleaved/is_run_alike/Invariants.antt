use Rattle.drive_tests.proofs.interleaved.is_run_alike.Given as goal

abbrev pub ghosts-run_by_workers : goal.ghosts-run_by_workers
ghosts-run_by_workers a = record { job = a.job }
