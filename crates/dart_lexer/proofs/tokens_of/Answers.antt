use Rattle.dart_lexer.proofs.Cuts.{lex_sound}
use Rattle.dart_lexer.proofs.Causes.{one_list, no_first_fault, only_memory, is_faulty, one_fault}
use Rattle.dart_lexer.proofs.tokens_of.Goals as goal

pub returns-in-Ok-clause-list : goal.returns-in-Ok-clause-list
returns-in-Ok-clause-list c = λ utf8. lex_sound c.args.text.now c.in-Ok.found utf8 c.in-Ok.ensures

pub returns-in-Ok-clause-only : goal.returns-in-Ok-clause-only
returns-in-Ok-clause-only c = one_list c.args.text.now c.in-Ok.found c.in-Ok.ensures

pub returns-in-Ok-clause-first : goal.returns-in-Ok-clause-first
returns-in-Ok-clause-first c = no_first_fault c.args.text.now c.in-Ok.found c.in-Ok.ensures

pub returns-in-Err-clause-only : goal.returns-in-Err-clause-only
returns-in-Err-clause-only c = rw c.at_place.ensures (only_memory c.args.text.now c.in-Err.fault c.in-Err.ensures)

pub returns-in-Err-clause-fault : goal.returns-in-Err-clause-fault
returns-in-Err-clause-fault c = λ utf8. rw c.at_place.ensures (is_faulty c.args.text.now c.in-Err.fault utf8 c.in-Err.ensures)

pub returns-in-Err-clause-first : goal.returns-in-Err-clause-first
returns-in-Err-clause-first c = rw c.at_place.ensures (one_fault c.args.text.now c.in-Err.fault c.in-Err.ensures)
