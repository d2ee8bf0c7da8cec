use Rattle.dart_meaning.proofs.laws.numbered_does_the_same.Goals as goal
use Rattle.dart_meaning.proofs.BodiesAgree.{numbered_is_same}
use Rattle.dart_meaning.proofs.BuiltInAgree.{built_in_agrees}

pub returns : goal.returns
returns c = record { same = numbered_is_same; built_in = built_in_agrees }
