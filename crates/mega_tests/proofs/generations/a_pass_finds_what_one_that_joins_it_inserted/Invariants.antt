use Rattle.mega_tests.proofs.generations.a_pass_finds_what_one_that_joins_it_inserted.Given as goal

abbrev pub ghosts-split_and_join : goal.ghosts-split_and_join
ghosts-split_and_join g a = record { name = a.blank.name; parts = a.blank.parts }
