use Rattle.meaning_laws.proofs.laws.variables_are_counted.Goals as goal
use Rattle.meaning_laws.proofs.Slots.{expressions_open_none, first_parts_open, statements_open}

pub returns : goal.returns
returns c = record { expressions = expressions_open_none; firsts = first_parts_open; statements = statements_open }
