use Rattle.meaning_laws.proofs.laws.calls_go_by_numbers.Goals as goal
use Rattle.meaning_laws.proofs.Lookups.{calls_go_by_numbers, targets_take_the_call}

pub returns : goal.returns
returns c = record { same = calls_go_by_numbers; answers = targets_take_the_call }
