use Rattle.meaning_laws.proofs.laws.things_are_of_their_class.Goals as goal
use Rattle.meaning_laws.proofs.Fields.{declared_fields_are_there, lists_are_there}

pub returns : goal.returns
returns c = record { fields = declared_fields_are_there; lists = lists_are_there }
