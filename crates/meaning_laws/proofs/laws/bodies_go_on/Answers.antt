use Rattle.meaning_laws.proofs.laws.bodies_go_on.Goals as goal
use Rattle.meaning_laws.proofs.Follows.{entries_follow, expressions_follow, statements_follow}

pub returns : goal.returns
returns c = record { entries = entries_follow; expressions = expressions_follow; statements = statements_follow }
