use Rattle.isolate_run.proofs.running.run_entry_over.Given as goal

abbrev pub ghosts-run_isolate : goal.ghosts-run_isolate
ghosts-run_isolate g a = record { name = a.blank.name; parts = a.blank.parts }
