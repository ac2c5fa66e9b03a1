use Rattle.scheduler.proofs.driving.drive.Given as goal

abbrev pub ghosts-drive_job : goal.ghosts-drive_job
ghosts-drive_job g a = record { job = a.job }
