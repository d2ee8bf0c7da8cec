use Rattle.call_cell.proofs.cell.advance_of.Given as goal

abbrev pub ghosts-next_by : goal.ghosts-next_by
ghosts-next_by a = record { name = a.blank.name; parts = a.blank.parts }
