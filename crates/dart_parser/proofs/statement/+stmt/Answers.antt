use Rattle.std.proofs.Common.{arith}
use Rattle.dart_parser.proofs.Steps.{stmt_step}
use Rattle.dart_parser.proofs.statement.+stmt.Goals as goal

pub returns : goal.returns
returns t c = rw (stmt_step c.args.depth c.args.tokens.now (omega arith)) c.statement.ensures
