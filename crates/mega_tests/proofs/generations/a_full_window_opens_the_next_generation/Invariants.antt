use Rattle.mega_tests.proofs.generations.a_full_window_opens_the_next_generation.Given as goal

abbrev pub ghosts-generations : goal.ghosts-generations
ghosts-generations g a = record { name = a.blank.name; parts = a.blank.parts }
