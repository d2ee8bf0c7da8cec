use Rattle.std.proofs.Common.{sym}
use Rattle.dart_printer.proofs.Closing.{closing_some}
use Rattle.dart_printer.proofs.expr.closing.Goals as goal

pub returns-else-is_empty : goal.returns-else-is_empty
returns-else-is_empty c = sym (closing_some c.args.more.now c.if-is_empty.ensures)
