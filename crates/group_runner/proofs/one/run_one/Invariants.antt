use Rattle.group_runner.proofs.one.run_one.Given as goal

abbrev pub ghosts-one_by : goal.ghosts-one_by
ghosts-one_by a = record { name = a.blank.name; parts = a.blank.parts }
