use Rattle.meaning_laws.proofs.laws.this_stays_of_its_class.Goals as goal
use Rattle.meaning_laws.proofs.This.{expressions_leave_this, statements_leave_this}

pub returns : goal.returns
returns c = record { expressions = expressions_leave_this; statements = statements_leave_this }
