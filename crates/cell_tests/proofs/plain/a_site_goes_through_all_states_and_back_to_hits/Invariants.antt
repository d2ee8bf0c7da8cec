use Rattle.cell_tests.proofs.plain.a_site_goes_through_all_states_and_back_to_hits.Given as goal

abbrev pub ghosts-all_states : goal.ghosts-all_states
ghosts-all_states g a = record { name = a.blank.name; parts = a.blank.parts }
