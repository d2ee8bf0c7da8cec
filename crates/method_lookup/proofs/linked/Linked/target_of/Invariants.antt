use Rattle.method_lookup.proofs.linked.Linked.target_of.Given as goal

abbrev pub ghosts-target_from : goal.ghosts-target_from
ghosts-target_from a = record { name = a.blank.name; parts = a.blank.parts }
