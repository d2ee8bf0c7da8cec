use Rattle.meaning_laws.proofs.laws.this_is_of_its_class.Goals as goal
use Rattle.meaning_laws.proofs.Receivers.{calls_may_enter, supers_may_enter, constructors_may_enter, new_objects_may_enter}

pub returns : goal.returns
returns c = record { calls = calls_may_enter; supers = supers_may_enter; constructors = constructors_may_enter; news = new_objects_may_enter }
