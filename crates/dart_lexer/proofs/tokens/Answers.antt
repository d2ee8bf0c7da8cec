use Rattle.dart_lexer.specs.FirstFault as ff
use Rattle.dart_lexer.proofs.Causes.{only_not_utf8, list_or_none, any_cause}
use Rattle.dart_lexer.proofs.tokens.Goals as goal

pub returns-in-None-clause-refused : goal.returns-in-None-clause-refused
returns-in-None-clause-refused c = list_or_none c.args.text.now c.tokens_of.result c.in-None.ensures c.tokens_of.ensures.fault

pub returns-in-None-clause-cause : goal.returns-in-None-clause-cause
returns-in-None-clause-cause c = any_cause c.args.text.now c.tokens_of.result c.in-None.ensures c.tokens_of.ensures.first

pub returns-in-Some-clause-refused : goal.returns-in-Some-clause-refused
returns-in-Some-clause-refused c = λ other. ff.Refused.not_utf8 c.in-Some.ensures.1

pub returns-in-Some-clause-cause : goal.returns-in-Some-clause-cause
returns-in-Some-clause-cause c = λ e x other. only_not_utf8 c.args.text.now c.in-Some.at c.in-Some.ensures.0 c.in-Some.ensures.1 e x
