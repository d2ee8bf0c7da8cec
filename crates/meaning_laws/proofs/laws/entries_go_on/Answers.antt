use Rattle.meaning_laws.proofs.laws.entries_go_on.Goals as goal
use Rattle.meaning_laws.proofs.Turns.{no_turn_comes_back, globals_stay}

pub returns : goal.returns
returns c = record { turns = no_turn_comes_back; globals = globals_stay }
