use Rattle.dart_meaning.proofs.laws.more_turns_go_on.Goals as goal
use Rattle.dart_meaning.proofs.Entries.{fewer_turns_tell_a_front, enough_turns_are_enough, out_of_turns_spends_all}

pub returns : goal.returns
returns c = record { front = fewer_turns_tell_a_front; enough = enough_turns_are_enough; out_of_turns = out_of_turns_spends_all }
